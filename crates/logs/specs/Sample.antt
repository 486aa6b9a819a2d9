-- The sample chain of document 01 as a table, with its 32-byte ids, and its lines as answers of the calls.
-- Assumes nothing.
use Rattle.answers.specs.declared.Refusal.{Refusal}
use Rattle.std.specs.Prelude.{ℕ, ◌≡◌, Bool, true, false, List, [], ◌∷◌, ◌++◌, replicate, Result, Ok}
use Rattle.store.specs.Table.{Table}
use Rattle.chains.specs.Sample.{LinesOf}
use Rattle.logs.specs.declared.Phase.TheVariants.{Growing, Forked}
use Rattle.logs.specs.declared.LogState.{LogState}
use Rattle.logs.specs.Calls.{Merges, ComparesStates}

-- Pieces of 32 bytes: the first byte of each, and the rest zero.
unfoldable pub pieces : List ℕ → List ℕ
pieces [] = []
pieces (b ∷ bs) = (b ∷ replicate {A = ℕ} 31 0) ++ pieces bs

-- "Row: author, index, previous, first id byte (the rest zero). 1: A 1 0 7. 2: A 2 1 5. 3: A 3 2 2. 4: A 3 2 3. 5: B 1 0 9, depends on 3.
-- 6: A 4 4 4. 7: A 2 1 6. 8: B 2 5 10. 9: A 3 2 1. 10: A 1 0 8." A is author 1 and B author 2; the document gives no keys: here 1 and 2.
unfoldable pub sample_table : Table
sample_table =
    record {
      keys = pieces (1 ∷ 2 ∷ []);
      ids = pieces (7 ∷ 5 ∷ 2 ∷ 3 ∷ 9 ∷ 4 ∷ 6 ∷ 10 ∷ 1 ∷ 8 ∷ []);
      -- author, previous row, index, number of dependencies
      rows =
          1 ∷ 0 ∷ 1 ∷ 0 ∷
          1 ∷ 1 ∷ 2 ∷ 0 ∷
          1 ∷ 2 ∷ 3 ∷ 0 ∷
          1 ∷ 2 ∷ 3 ∷ 0 ∷
          2 ∷ 0 ∷ 1 ∷ 1 ∷
          1 ∷ 4 ∷ 4 ∷ 0 ∷
          1 ∷ 1 ∷ 2 ∷ 0 ∷
          2 ∷ 5 ∷ 2 ∷ 0 ∷
          1 ∷ 2 ∷ 3 ∷ 0 ∷
          1 ∷ 0 ∷ 1 ∷ 0 ∷ [];
      deps = 3 ∷ [];
      -- first messages of A and of B, then the rows that follow each row
      branches = 2 ∷ 1 ∷ (replicate {A = ℕ} 62 0 ++ (2 ∷ 3 ∷ 0 ∷ 1 ∷ 1 ∷ 0 ∷ 0 ∷ 0 ∷ 0 ∷ 0 ∷ []));
      counts = record { rows = 10; authors = 2; deps = 1 };
    }

-- "G is growing at; F(last; low, high)": states of A.
abbrev pub G : ℕ → LogState
G l = record { author = 1; last = l; phase = Growing }

-- Forked.
abbrev pub F : ℕ → ℕ → ℕ → LogState
F l low high = record { author = 1; last = l; phase = Forked low high }

-- `a` keeps the promise `P`, and every answer that keeps it is `a`.
pub record OneAnswer (B : Type 0) (P : B → Type 0) (a : B) : Type 0 where
  pub kept : P a
  pub only : (r : B) → P r → r ≡ a

-- The merge of `k` and `l` is answered with the state `m`, and with nothing else.
abbrev pub MergeGives : Table → LogState → LogState → LogState → Type 0
MergeGives t k l m = OneAnswer (Result LogState Refusal) (Merges t k l) (Ok m)

-- Whether `k` is at or below `l` is answered with `b`, and with nothing else.
abbrev pub OrderGives : Table → LogState → LogState → Bool → Type 0
OrderGives t k l b = OneAnswer (Result Bool Refusal) (ComparesStates t k l) (Ok b)

-- The lines of the sample chain, of the calls over a table.
abbrev pub SampleAnswers : Table → Type 0
SampleAnswers t = LinesOf LogState G F (MergeGives t) (λ k l. OrderGives t k l true) (λ k l. OrderGives t k l false)
