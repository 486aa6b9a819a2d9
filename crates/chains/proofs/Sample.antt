-- The sample chain is valid and has all the lines of document 01.
-- Assumes nothing.
use Prim.Native.Nat.{ℕ, zero, suc, ◌≤◌, ◌<◌}
use mathlib.Core.Path.{◌≡◌, refl, ◌∙◌, subst}
use mathlib.Core.Logic.{◌⊎◌, inl, inr, ⊎_elim, ◌↔◌}
use mathlib.Core.Bool.{Bool, true, not}
use native.Mathlib.Omega.{arith}
use lib.Dec.{T, eqb, ltb, leb, leb→le, eqb→eq, lit<}
use borrow.Author.Tests.{eqb-true, ltb-true}
use Rattle.basics.specs.Pick.{both, either}
use Rattle.basics.proofs.Tests.{both_left, both_right}
use Rattle.chains.specs.Chain.{Store, RowOf, Node, Valid, up, at, climb, prefix_of, State, growing, forked, ValidState, growing_valid, forked_valid}
use Rattle.chains.specs.Chain.{IsMerge, AtOrBelow, add, merge_of, at_or_below?}
use Rattle.chains.specs.Merging.{Extends}
use Rattle.chains.specs.Sample.{sample_chain, SampleLines}
use Rattle.chains.proofs.Laws.{le?, decides_not, decides_either, decides_eqb}
use Rattle.chains.proofs.Merge.{merge_is_union}
use Rattle.chains.proofs.Decide.{below_test}
use Rattle.chains.proofs.Later.{merge_on, below_on}

-- Each of two tests passes where both do.
both_true : (p q : Bool) → both p q ≡ true → (p ≡ true) × (q ≡ true)
both_true p q h = (both_left p q h, both_right p q h)

-- Every number from 1 to `n` passes.
unfoldable all? : ℕ → (ℕ → Bool) → Bool
all? zero p = true
all? (suc n) p = both (p (suc n)) (all? n p)

-- What each that passes has, all have.
all_pass_lem : (P : ℕ → Type 0) (p : ℕ → Bool) → ((x : ℕ) → p x ≡ true → P x) → (n : ℕ) → all? n p ≡ true → (x : ℕ) → 1 ≤ x → x ≤ n → P x
unfolding all?
all_pass_lem P p d zero h x l m = absurd (omega arith)
all_pass_lem P p d (suc n) h x l m =
    let t = both_true (p (suc n)) (all? n p) h in
    ⊎_elim (λ k. all_pass_lem P p d n t.1 x l k) (λ k. let e : x ≡ suc n = omega arith in rw e (d (suc n) t.0)) (le? x n)

-- The rule of one row, and that its id is no other row's.
row_test : Store → ℕ → Bool
row_test s x =
    both (ltb (s.prev x) x)
    (both (either (eqb (s.prev x) 0) (eqb (s.author (s.prev x)) (s.author x)))
    (both (eqb (s.index x) (suc (s.index (s.prev x)))) (all? s.count (λ y. either (not (eqb (s.key x) (s.key y))) (eqb x y)))))

-- What the test of a row says.
abbrev RowFits : Store → ℕ → Type 0
RowFits s x =
    (s.prev x < x) ×
    (((s.prev x ≡ 0) ⊎ (s.author (s.prev x) ≡ s.author x)) ×
    ((s.index x ≡ suc (s.index (s.prev x))) × ((y : ℕ) → 1 ≤ y → y ≤ s.count → (s.key x ≡ s.key y → ⊥) ⊎ (x ≡ y))))

-- The row's test passes only where its rule holds.
row_fits_lem : (s : Store) (x : ℕ) → row_test s x ≡ true → RowFits s x
unfolding row_test
row_fits_lem s x h =
    let t = both_true (ltb (s.prev x) x) _ h in
    let u = both_true (either (eqb (s.prev x) 0) (eqb (s.author (s.prev x)) (s.author x))) _ t.1 in
    let w = both_true (eqb (s.index x) (suc (s.index (s.prev x)))) _ u.1 in (
      ltb-true (s.prev x) x t.0,
      (
        (decides_either (eqb (s.prev x) 0) (eqb (s.author (s.prev x)) (s.author x)) (decides_eqb (s.prev x) 0)
            (decides_eqb (s.author (s.prev x)) (s.author x))).yes u.0,
        (
          eqb-true (s.index x) (suc (s.index (s.prev x))) w.0,
          all_pass_lem (λ y. (s.key x ≡ s.key y → ⊥) ⊎ (x ≡ y)) (λ y. either (not (eqb (s.key x) (s.key y))) (eqb x y))
              (λ y. (decides_either (not (eqb (s.key x) (s.key y))) (eqb x y)
              (decides_not (eqb (s.key x) (s.key y)) (decides_eqb (s.key x) (s.key y))) (decides_eqb x y)).yes)
              s.count
              w.1,
        ),
      ),
    )

-- The test of a store: none, and each row.
store_test : Store → Bool
store_test s = both (eqb (s.prev 0) 0) (both (eqb (s.index 0) 0) (all? s.count (row_test s)))

-- A store that passes is valid.
valid_by_test : (s : Store) → store_test s ≡ true → Valid s
unfolding store_test
valid_by_test s h =
    record {
      none_prev = eqb-true (s.prev 0) 0 none.0;
      none_index = eqb-true (s.index 0) 0 none.1.0;
      older = λ A x r. (fits x r.some r.held).0;
      own = λ A x r. own A x r;
      counted = λ A x r. (fits x r.some r.held).1.1.0;
      distinct = λ A B x y r q e. ⊎_elim (λ w. absurd (w e)) (λ g. g) ((fits x r.some r.held).1.1.1 y q.some q.held);
    }
  where
    none : (eqb (s.prev 0) 0 ≡ true) × ((eqb (s.index 0) 0 ≡ true) × (all? s.count (row_test s) ≡ true))
    none =
        let t = both_true (eqb (s.prev 0) 0) (both (eqb (s.index 0) 0) (all? s.count (row_test s))) h in
        (t.0, both_true (eqb (s.index 0) 0) (all? s.count (row_test s)) t.1)

    fits : (x : ℕ) → 1 ≤ x → x ≤ s.count → RowFits s x
    fits x l m = all_pass_lem (RowFits s) (row_test s) (row_fits_lem s) s.count none.1.1 x l m

    own : (A x : ℕ) → RowOf s A x → Node s A (s.prev x)
    own A x r =
        let f = fits x r.some r.held in
        ⊎_elim
        (λ z. inl (omega arith))
        (λ p. ⊎_elim inl (λ a. inr record { some = p; held = (let l = f.0 in let m = r.held in omega arith); by = a ∙ r.by }) f.1.0)
        (le? (s.prev x) 0)

-- The test in closed form, so that the kernel runs it once.
sample_tested : store_test sample_chain ≡ true
unfolding store_test row_test all? sample_chain
sample_tested = refl

-- The sample chain is valid.
pub sample_valid : Valid sample_chain
sample_valid = valid_by_test sample_chain sample_tested

-- A row of A, by computation.
row : (x : ℕ) → T (leb 1 x) → T (leb x 10) → T (eqb (sample_chain.author x) 1) → RowOf sample_chain 1 x
unfolding sample_chain
row x a b c = record { some = leb→le 1 x a; held = leb→le x 10 b; by = eqb→eq (sample_chain.author x) 1 c }

-- The states of the lines are valid.
pub grows : (x : ℕ) → T (leb 1 x) → T (leb x 10) → T (eqb (sample_chain.author x) 1) → ValidState sample_chain 1 (growing x)
grows x a b c = growing_valid (inr (row x a b c))

-- Growing at none.
pub none_grows : ValidState sample_chain 1 (growing 0)
none_grows = growing_valid (inl refl)

-- F(2;3,4).
pub f_2_3_4 : ValidState sample_chain 1 (forked 2 3 4)
unfolding sample_chain
f_2_3_4 = forked_valid (inr (row 2 tt tt tt)) record { low = row 3 tt tt tt; high = row 4 tt tt tt; low_prev = refl; high_prev = refl; sorted = lit< tt }

-- F(2;9,3).
pub f_2_9_3 : ValidState sample_chain 1 (forked 2 9 3)
unfolding sample_chain
f_2_9_3 = forked_valid (inr (row 2 tt tt tt)) record { low = row 9 tt tt tt; high = row 3 tt tt tt; low_prev = refl; high_prev = refl; sorted = lit< tt }

-- F(2;9,4).
pub f_2_9_4 : ValidState sample_chain 1 (forked 2 9 4)
unfolding sample_chain
f_2_9_4 = forked_valid (inr (row 2 tt tt tt)) record { low = row 9 tt tt tt; high = row 4 tt tt tt; low_prev = refl; high_prev = refl; sorted = lit< tt }

-- F(1;2,7).
pub f_1_2_7 : ValidState sample_chain 1 (forked 1 2 7)
unfolding sample_chain
f_1_2_7 = forked_valid (inr (row 1 tt tt tt)) record { low = row 2 tt tt tt; high = row 7 tt tt tt; low_prev = refl; high_prev = refl; sorted = lit< tt }

-- What `merge_of` computes is the merge.
line : (L K M : State) → ValidState sample_chain 1 L → ValidState sample_chain 1 K → merge_of sample_chain L K ≡ M → IsMerge sample_chain L K M
line L K M vl vk e = subst (IsMerge sample_chain L K) e (merge_is_union sample_chain sample_valid 1 L K vl vk)

-- The lines of document 01's sample chain, together.
pub sample_lines : SampleLines sample_chain
unfolding merge_of add prefix_of climb at up at_or_below? sample_chain
sample_lines =
    record {
      fork = line (growing 3) (growing 4) (forked 2 3 4) (grows 3 tt tt tt) (grows 4 tt tt tt) refl;
      third_branch = line (forked 2 3 4) (growing 9) (forked 2 9 3) f_2_3_4 (grows 9 tt tt tt) refl;
      beyond_evidence = line (growing 6) (forked 2 9 3) (forked 2 9 3) (grows 6 tt tt tt) f_2_9_3 refl;
      earlier_split = line (growing 7) (forked 2 3 4) (forked 1 2 7) (grows 7 tt tt tt) f_2_3_4 refl;
      two_first = line (growing 10) (growing 1) (forked 0 1 10) (grows 10 tt tt tt) (grows 1 tt tt tt) refl;
      with_none = line (growing 0) (growing 3) (growing 3) none_grows (grows 3 tt tt tt) refl;
      at_last = line (growing 2) (forked 2 3 4) (forked 2 3 4) (grows 2 tt tt tt) f_2_3_4 refl;
      shallower = line (forked 1 2 7) (forked 2 9 4) (forked 1 2 7) f_1_2_7 f_2_9_4 refl;
      two_lowest = line (forked 2 3 4) (forked 2 9 4) (forked 2 9 3) f_2_3_4 f_2_9_4 refl;
      not_below = (below_test sample_chain sample_valid 1 (grows 7 tt tt tt) f_2_3_4).no refl;
      below = (below_test sample_chain sample_valid 1 f_2_3_4 f_2_9_3).yes refl;
      not_reverse = (below_test sample_chain sample_valid 1 f_2_9_3 f_2_3_4).no refl;
    }

-- One statement: the chain is valid and has every line.
pub sample : Valid sample_chain × SampleLines sample_chain
sample = (sample_valid, sample_lines)

-- Every valid store that begins with the sample's rows has every line, too.
pub sample_lifts : (t : Store) → Valid t → Extends sample_chain t → SampleLines t
unfolding sample_chain
sample_lifts t w e =
    record {
      fork = merge (growing 3) (growing 4) (forked 2 3 4) (grows 3 tt tt tt) (grows 4 tt tt tt) sample_lines.fork;
      third_branch = merge (forked 2 3 4) (growing 9) (forked 2 9 3) f_2_3_4 (grows 9 tt tt tt) sample_lines.third_branch;
      beyond_evidence = merge (growing 6) (forked 2 9 3) (forked 2 9 3) (grows 6 tt tt tt) f_2_9_3 sample_lines.beyond_evidence;
      earlier_split = merge (growing 7) (forked 2 3 4) (forked 1 2 7) (grows 7 tt tt tt) f_2_3_4 sample_lines.earlier_split;
      two_first = merge (growing 10) (growing 1) (forked 0 1 10) (grows 10 tt tt tt) (grows 1 tt tt tt) sample_lines.two_first;
      with_none = merge (growing 0) (growing 3) (growing 3) none_grows (grows 3 tt tt tt) sample_lines.with_none;
      at_last = merge (growing 2) (forked 2 3 4) (forked 2 3 4) (grows 2 tt tt tt) f_2_3_4 sample_lines.at_last;
      shallower = merge (forked 1 2 7) (forked 2 9 4) (forked 1 2 7) f_1_2_7 f_2_9_4 sample_lines.shallower;
      two_lowest = merge (forked 2 3 4) (forked 2 9 4) (forked 2 9 3) f_2_3_4 f_2_9_4 sample_lines.two_lowest;
      not_below = λ p. sample_lines.not_below ((order (grows 7 tt tt tt) f_2_3_4).1 p);
      below = (order f_2_3_4 f_2_9_3).0 sample_lines.below;
      not_reverse = λ p. sample_lines.not_reverse ((order f_2_9_3 f_2_3_4).1 p);
    }
  where
    merge : (L K M : State) → ValidState sample_chain 1 L → ValidState sample_chain 1 K → IsMerge sample_chain L K M → IsMerge t L K M
    merge L K M vl vk = (merge_on sample_chain t sample_valid w e 1 L K M vl vk).0

    order : {L K : State} → ValidState sample_chain 1 L → ValidState sample_chain 1 K → AtOrBelow sample_chain L K ↔ AtOrBelow t L K
    order vl vk = below_on sample_chain t sample_valid w e 1 vl vk
