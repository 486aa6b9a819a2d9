-- The sample chain of document 01, and its lines as one statement about a store.
-- Assumes nothing.
use Rattle.std.specs.Prelude.{ℕ, ◌*◌, ◌^◌, [], ◌∷◌, get_or}
use Rattle.chains.specs.Chain.{Store, State, growing, forked, IsMerge, AtOrBelow}

-- "Row: author, index, previous, first id byte (the rest zero)": A is 1 and B is 2, and the first of 32 bytes counts 2 ^ 248.
-- The entry before row 1 is none's.
unfoldable pub sample_chain : Store
sample_chain =
    record {
      count = 10;
      author = λ x. get_or (0 ∷ 1 ∷ 1 ∷ 1 ∷ 1 ∷ 2 ∷ 1 ∷ 1 ∷ 2 ∷ 1 ∷ 1 ∷ []) x 0;
      index = λ x. get_or (0 ∷ 1 ∷ 2 ∷ 3 ∷ 3 ∷ 1 ∷ 4 ∷ 2 ∷ 2 ∷ 3 ∷ 1 ∷ []) x 0;
      prev = λ x. get_or (0 ∷ 0 ∷ 1 ∷ 2 ∷ 2 ∷ 0 ∷ 4 ∷ 1 ∷ 5 ∷ 2 ∷ 0 ∷ []) x 0;
      key = λ x. get_or (0 ∷ 7 ∷ 5 ∷ 2 ∷ 3 ∷ 9 ∷ 4 ∷ 6 ∷ 10 ∷ 1 ∷ 8 ∷ []) x 0 * 2 ^ 248;
    }

-- "Proved together, as one statement over one table": G is growing at; F(last; low, high). The lines are said once, of whatever stands
-- for states, for the merge of two, for at or below, and for not at or below.
pub record LinesOf (B : Type 0) (G : ℕ → B) (F : ℕ → ℕ → ℕ → B) (Merge : B → B → B → Type 0) (Below NotBelow : B → B → Type 0) : Type 0 where
  -- G3+G4 = F(2;3,4).
  pub fork : Merge (G 3) (G 4) (F 2 3 4)
  -- F(2;3,4)+G9 = F(2;9,3).
  pub third_branch : Merge (F 2 3 4) (G 9) (F 2 9 3)
  -- G6+F(2;9,3) = F(2;9,3).
  pub beyond_evidence : Merge (G 6) (F 2 9 3) (F 2 9 3)
  -- G7+F(2;3,4) = F(1;2,7).
  pub earlier_split : Merge (G 7) (F 2 3 4) (F 1 2 7)
  -- G10+G1 = F(0;1,10).
  pub two_first : Merge (G 10) (G 1) (F 0 1 10)
  -- G0+G3 = G3.
  pub with_none : Merge (G 0) (G 3) (G 3)
  -- G2+F(2;3,4) = F(2;3,4).
  pub at_last : Merge (G 2) (F 2 3 4) (F 2 3 4)
  -- F(1;2,7)+F(2;9,4) = F(1;2,7).
  pub shallower : Merge (F 1 2 7) (F 2 9 4) (F 1 2 7)
  -- F(2;3,4)+F(2;9,4) = F(2;9,3).
  pub two_lowest : Merge (F 2 3 4) (F 2 9 4) (F 2 9 3)
  -- G7 is not at or below F(2;3,4).
  pub not_below : NotBelow (G 7) (F 2 3 4)
  -- F(2;3,4) is at or below F(2;9,3), not the reverse.
  pub below : Below (F 2 3 4) (F 2 9 3)
  pub not_reverse : NotBelow (F 2 9 3) (F 2 3 4)

-- The lines of the states of a store.
abbrev pub SampleLines : Store → Type 0
SampleLines s = LinesOf State growing forked (IsMerge s) (AtOrBelow s) (λ L K. AtOrBelow s L K → ⊥)
