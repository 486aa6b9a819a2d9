-- What a well_formed store and a valid frontier give the packing; and the answer of the call is determined.
-- Assumes nothing.
use Rattle.std.specs.Prelude.{Result}
use Rattle.answers.specs.declared.Refusal.{Refusal}
use Prim.Native.Nat.{ℕ, ◌≤◌}
use mathlib.Core.Path.{◌≡◌, sym, ◌∙◌, subst}
use mathlib.Core.List.{List}
use mathlib.Core.Logic.{inl, inr, ⊎_elim}
use native.Mathlib.Omega.{arith}
use Rattle.store.specs.Table.{Table, WellFormed}
use Rattle.chains.specs.Chain.{Store, State, Node, ValidState, growing_valid, forked_valid}
use Rattle.logs.specs.Held.{chain_of}
use Rattle.frontiers.specs.Calls.{FrontierOf}
use Rattle.frontiers.specs.Numbers.{author_at}
use Rattle.answers.specs.Answers.{written_number}
use Rattle.packing.specs.Packing.{Root, MayPack, Answers, bad_store, bad_frontier, answered}
use Rattle.packing.proofs.Stored.{well_formed_falls}
use Rattle.packing.proofs.Packing.{same_answer, none_written, writes_unique}

-- None or a row of an author is at most the row count.
node_held : (s : Store) (A x : ℕ) → Node s A x → x ≤ s.count
node_held s A x (inl e) = omega arith
node_held s A x (inr r) = r.held

-- So is a root of a valid state.
root_held : (s : Store) (A : ℕ) {st : State} → ValidState s A st → (r : ℕ) → Root st r → r ≤ s.count
root_held s A (growing_valid n) r e = subst (λ (x : ℕ). x ≤ s.count) (sym e) (node_held s A _ n)
root_held s A (forked_valid n v) r i =
    ⊎_elim (λ e. subst (λ (x : ℕ). x ≤ s.count) (sym e) (node_held s A _ n))
    (λ j. ⊎_elim (λ e. subst (λ (x : ℕ). x ≤ s.count) (sym e) v.low.held) (λ e. subst (λ (x : ℕ). x ≤ s.count) (sym e) v.high.held) j) i

-- Over a well_formed store a valid frontier may be packed.
pub may_pack : (t : Table) (frontier : List ℕ) → WellFormed t → FrontierOf t frontier → MayPack t.rows t.deps t.counts.rows frontier
may_pack t frontier w v =
    record {
      limit = w.rows_limit;
      falling = well_formed_falls t w;
      roots = λ k h r i. root_held (chain_of t) (author_at frontier k) (v.entries k h).state r i;
    }

-- Two refusals with one number left the same.
refused_same : {out a b : List ℕ} (r s : Result ℕ Refusal) (n : ℕ) → written_number r ≡ n → written_number s ≡ n → 1 ≤ n → a ≡ out → b ≡ out → (r ≡ s) × (a ≡ b)
refused_same r s n e f h i j =
    (same_answer r s (e ∙ sym f) (none_written r (omega arith) ∙ sym (none_written s (omega arith))), i ∙ sym j)

module _ {t : Table} {frontier out : List ℕ} where
  -- The answer and the output of the call are determined.
  pub answers_unique : {a b : List ℕ} {r s : Result ℕ Refusal} → Answers t frontier out a r → Answers t frontier out b s → (r ≡ s) × (a ≡ b)
  answers_unique {r = r} {s} (bad_store e n i) (bad_store f m j) = refused_same r s 1 e f (omega arith) i j
  answers_unique (bad_store e n i) (bad_frontier f w m j) = absurd (n w)
  answers_unique (bad_store e n i) (answered w v p) = absurd (n w)
  answers_unique (bad_frontier e w n i) (bad_store f m j) = absurd (m w)
  answers_unique {r = r} {s} (bad_frontier e w n i) (bad_frontier f u m j) = refused_same r s 20 e f (omega arith) i j
  answers_unique (bad_frontier e w n i) (answered u v p) = absurd (n v)
  answers_unique (answered w v p) (bad_store f m j) = absurd (m w)
  answers_unique (answered w v p) (bad_frontier f u m j) = absurd (m v)
  answers_unique (answered w v p) (answered u z q) = writes_unique p q
