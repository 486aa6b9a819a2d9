-- Two answers of the merge that keep the promise are equal, and the merged frontier is a valid frontier.
-- Assumes nothing.
use Rattle.std.specs.Prelude.{Result, Ok, Err}
use Rattle.answers.specs.declared.Refusal.{Refusal}
use Prim.Native.Nat.{ℕ}
use mathlib.Core.Path.{◌≡◌, sym, ap, ◌∙◌}
use mathlib.Core.List.{List}
use native.Mathlib.Omega.{arith}
use lib.ListN.{length}
use Rattle.answers.specs.Number.{number_of}
use Rattle.answers.proofs.Distinct.{one_number}
use Rattle.basics.specs.Bytes.{Bytes}
use Rattle.store.specs.Table.{Table}
use Rattle.logs.specs.Held.{chain_of}
use Rattle.logs.proofs.Tables.{chain_valid}
use Rattle.frontiers.specs.Entries.{Entry, flat}
use Rattle.frontiers.specs.Numbers.{entries_of}
use Rattle.frontiers.specs.Calls.{FrontierOf, MergedOf, MergedInto, NoRoomFor, NotCompared, NotMerged, TwoFrontiers, MergesInto}
use Rattle.frontiers.proofs.Numbers.{valid_entries, flat_valid}
use Rattle.frontiers.proofs.Merged.{merged_valid, merged_unique}

-- A comparison is refused with one number.
pub not_compared_once : {t : Table} {f g : List ℕ} {n m : ℕ} → NotCompared t f g n → NotCompared t f g m → n ≡ m
not_compared_once (NotCompared.not_well_formed e x) (NotCompared.not_well_formed d y) = e ∙ sym d
not_compared_once (NotCompared.not_well_formed e x) (NotCompared.first_not_valid d w y) = absurd (x w)
not_compared_once (NotCompared.not_well_formed e x) (NotCompared.second_not_valid d w v y) = absurd (x w)
not_compared_once (NotCompared.first_not_valid e w x) (NotCompared.not_well_formed d y) = absurd (y w)
not_compared_once (NotCompared.first_not_valid e w x) (NotCompared.first_not_valid d v y) = e ∙ sym d
not_compared_once (NotCompared.first_not_valid e w x) (NotCompared.second_not_valid d u v y) = e ∙ sym d
not_compared_once (NotCompared.second_not_valid e w v x) (NotCompared.not_well_formed d y) = absurd (y w)
not_compared_once (NotCompared.second_not_valid e w v x) (NotCompared.first_not_valid d u y) = e ∙ sym d
not_compared_once (NotCompared.second_not_valid e w v x) (NotCompared.second_not_valid d u p y) = e ∙ sym d

-- What is refused is not compared.
pub accepted_compared : {t : Table} {f g : List ℕ} {n : ℕ} → TwoFrontiers t f g → NotCompared t f g n → ⊥
accepted_compared a (NotCompared.not_well_formed e x) = x a.well_formed
accepted_compared a (NotCompared.first_not_valid e w x) = x a.first
accepted_compared a (NotCompared.second_not_valid e w v x) = x a.second

module _ (t : Table) (b : Bytes t.ids) (f g out : List ℕ) where
  -- The merged frontier, written out, is a valid frontier.
  pub result_valid : TwoFrontiers t f g → (r : List Entry) → MergedOf t f g r → FrontierOf t (flat r)
  result_valid a r m =
      let s = chain_of t in
      let k = t.counts.authors in
      flat_valid s k r
      (merged_valid s (chain_valid t a.well_formed b) k (entries_of f) (entries_of g) r (valid_entries s k f a.first) (valid_entries s k g a.second) m)

  -- The entries of the merged frontier are determined.
  one_merged : TwoFrontiers t f g → (r q : List Entry) → MergedOf t f g r → MergedOf t f g q → r ≡ q
  one_merged a r q m n =
      let s = chain_of t in
      let k = t.counts.authors in
      merged_unique s (chain_valid t a.well_formed b) k (entries_of f) (entries_of g) r q (valid_entries s k f a.first)
      (valid_entries s k g a.second) m n

  -- A call is refused with one number.
  refused_once : {n m : ℕ} → NotMerged t f g out n → NotMerged t f g out m → n ≡ m
  refused_once (NotMerged.not_sound c) (NotMerged.not_sound d) = not_compared_once c d
  refused_once (NotMerged.not_sound c) (NotMerged.no_room d a y) = absurd (accepted_compared a c)
  refused_once (NotMerged.no_room e a x) (NotMerged.not_sound d) = absurd (accepted_compared a d)
  refused_once (NotMerged.no_room e a x) (NotMerged.no_room d c y) = e ∙ sym d

  -- Two written results of one call are one.
  pub written_once : (x y : List ℕ) (n m : ℕ) → TwoFrontiers t f g → MergedInto t f g out x n → MergedInto t f g out y m → (n ≡ m) × (x ≡ y)
  written_once x y n m a p q =
      let e : p.result ≡ q.result = one_merged a p.result q.result p.merged q.merged in
      let d : n ≡ m = p.count ∙ ap (λ es. length (flat es)) e ∙ sym q.count in
      (d, p.content ∙ rw (e, d) (sym q.content))

  -- Where the output is too short, nothing is written.
  pub short_not_written : (out' : List ℕ) (n : ℕ) → TwoFrontiers t f g → NoRoomFor t f g out → MergedInto t f g out out' n → ⊥
  short_not_written out' n a x p =
      let e : length (flat x.result) ≡ length (flat p.result) = ap (λ es. length (flat es))
      (one_merged a x.result p.result x.merged p.merged) in
      omega (arith, e, x.short, p.count, p.fits)

  -- What is refused is not merged.
  not_both : (out' : List ℕ) (n m : ℕ) → NotMerged t f g out m → TwoFrontiers t f g → MergedInto t f g out out' n → ⊥
  not_both out' n m (NotMerged.not_sound c) a p = accepted_compared a c
  not_both out' n m (NotMerged.no_room e c x) a p = short_not_written out' n a x p

  -- Two answers that keep the promise are equal, and leave the same output.
  pub merge_answers_once : (x y : List ℕ) (r q : Result ℕ Refusal) → MergesInto t f g out x r → MergesInto t f g out y q → (r ≡ q) × (x ≡ y)
  merge_answers_once x y (Ok n) (Ok m) (a, p) (c, q) = let e = written_once x y n m a p q in (ap Ok e.0, e.1)
  merge_answers_once x y (Ok n) (Err why) (a, p) (c, q) = absurd (not_both x n (number_of why) c a p)
  merge_answers_once x y (Err why) (Ok m) (a, p) (c, q) = absurd (not_both y m (number_of why) a c q)
  merge_answers_once x y (Err why) (Err how) (a, p) (c, q) = (ap Err (one_number why how (refused_once a c)), p ∙ sym q)
