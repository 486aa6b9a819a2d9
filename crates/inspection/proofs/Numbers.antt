-- The branch counts: what was counted of the rows, compared place by place, is the rule.
-- Assumes nothing.
use Prim.Native.Nat.{ℕ, zero, suc, ◌+◌, ◌-◌, ◌≤◌}
use mathlib.Core.Path.{◌≡◌, refl, sym, ◌∙◌}
use mathlib.Core.List.{List}
use native.Mathlib.Omega.{arith}
use lib.ListN.{get_or, replicate}
use Rattle.store.specs.Limits.{row_limit, author_limit}
use Rattle.store.specs.Table.{first_place, branch_place}
use Rattle.store.specs.Branches.{counted_in}
use Rattle.store.specs.Clauses.{SamePlaces, BranchesFit}
use Rattle.store.proofs.Counting.{counted_firsts, counted_branches}

-- A table of zeros counts no rows.
pub counts_none : (rows : List ℕ) (n p : ℕ) → get_or (replicate {A = ℕ} n 0) p 0 ≡ counted_in rows 0 p
unfolding counted_in
counts_none rows zero p = refl
counts_none rows (suc n) zero = refl
counts_none rows (suc n) (suc p) = counts_none rows n p

module _ (rows branches counts : List ℕ) (n authors : ℕ) (c : (p : ℕ) → get_or counts p 0 ≡ counted_in rows n p)
    (h : n ≤ row_limit) (k : authors ≤ author_limit) where
  -- Numbers that are right are those that were counted: the authors',
  pub firsts_same : BranchesFit rows branches n authors → SamePlaces branches counts 0 authors
  firsts_same f i l =
      let z : i + 1 - 1 ≡ 0 + i = omega arith in
      let e : get_or branches (first_place (i + 1)) 0 ≡ get_or counts (first_place (i + 1)) 0 =
      f.firsts (i + 1) (omega arith) (omega arith) ∙ sym (c (first_place (i + 1)) ∙ counted_firsts rows (i + 1) (omega arith) (omega arith) n) in
      rw z at e

  -- and the rows'.
  pub branches_same : BranchesFit rows branches n authors → SamePlaces branches counts author_limit n
  branches_same f i l =
      let z : i + 1 - 1 ≡ i = omega arith in
      let e : get_or branches (branch_place (i + 1)) 0 ≡ get_or counts (branch_place (i + 1)) 0 =
      f.successors (i + 1) (omega arith) (omega arith) ∙ sym (c (branch_place (i + 1)) ∙ counted_branches rows (i + 1) (omega arith) (omega arith) n) in
      rw z at e

  -- Numbers that were counted are right.
  pub fit_of : SamePlaces branches counts 0 authors → SamePlaces branches counts author_limit n → BranchesFit rows branches n authors
  fit_of f s =
      record {
        successors = λ r l m. s (r - 1) (omega arith) ∙ c (branch_place r) ∙ counted_branches rows r m (omega arith) n;
        firsts = λ a l m.
            let z : 0 + (a - 1) ≡ first_place a = omega arith in
            rw z at (f (a - 1) (omega arith)) ∙ c (first_place a) ∙ counted_firsts rows a m (omega arith) n;
      }
