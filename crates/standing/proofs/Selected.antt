-- What is found by going again and again to the least key above the last one is what is sent.
-- Assumes nothing.
use Prim.Native.Nat.{ℕ, zero, suc, ◌+◌, ◌-◌, ◌≤◌, ◌<◌}
use mathlib.Core.Path.{◌≡◌, refl, sym, ◌∙◌}
use mathlib.Core.Bool.{Bool, true, false}
use mathlib.Core.Logic.{◌≢◌, ◌⊎◌, inl, inr, ⊎_elim}
use mathlib.Core.List.{List}
use native.Mathlib.Omega.{arith}
use Rattle.basics.specs.Pick.{pick, either}
use Rattle.basics.proofs.Tests.{by_test, by_eqb, true_or_false, not_both_ways}
use Rattle.chunks.specs.Bytes.{comes_before}
use Rattle.review.proofs.Order.{before_then, one_before, not_before_self}
use Rattle.standing.specs.Selecting.{key_of_entry, better_of, next_after, count_above}

module _ (keys f : List ℕ) where
  -- The key of entry `i`.
  abbrev K : ℕ → List ℕ
  K i = key_of_entry keys f i

  -- Of the first `n` entries the one numbered `m` has the least key above `b`; 0 where none is above.
  record Least (b : List ℕ) (n m : ℕ) : Type 0 where
    none_above : m ≡ 0 → (j : ℕ) → j < n → comes_before b (K j) ≡ false
    within : m ≤ n
    above : 1 ≤ m → comes_before b (K (m - 1)) ≡ true
    least : 1 ≤ m → (j : ℕ) → j < n → comes_before b (K j) ≡ true → comes_before (K j) (K (m - 1)) ≡ false

  -- One entry more.
  least_more : (b : List ℕ) (n m : ℕ) → Least b n m → Least b (suc n) (better_of keys f b m n)
  least_more b n m p = go (comes_before b (K n)) refl
    where
      last_or : (j : ℕ) → j < suc n → (j ≡ n) ⊎ (j < n)
      last_or j h = by_eqb (λ t. (j ≡ n) ⊎ (j < n)) j n inl (λ d. inr (omega arith))

      -- It is below the best so far, or the first above.
      new : comes_before b (K n) ≡ true → (1 ≤ m → comes_before (K n) (K (m - 1)) ≡ true) → Least b (suc n) (n + 1)
      new e g =
          record {
            none_above = λ z. absurd (omega arith);
            within = omega arith;
            above = λ h. rw back e;
            least = λ h j l a. rw back (⊎_elim (λ q. rw q (not_before_self (K n))) (λ q. older j q a) (last_or j l));
          }
        where
          back : n + 1 - 1 ≡ n
          back = omega arith

          older : (j : ℕ) → j < n → comes_before b (K j) ≡ true → comes_before (K j) (K n) ≡ false
          older j q a =
              by_eqb (λ t. comes_before (K j) (K n) ≡ false) m 0
              (λ z. absurd (not_both_ways (comes_before b (K j)) a (p.none_above z j q)))
              (λ z. ⊎_elim
              (λ x. absurd (not_both_ways (comes_before (K j) (K (m - 1))) (before_then (K j) (K n) (K (m - 1)) x (g (omega arith)))
              (p.least (omega arith) j q a)))
              (λ x. x) (true_or_false (comes_before (K j) (K n))))

      -- It is not.
      old : 1 ≤ m → (comes_before b (K n) ≡ true → comes_before (K n) (K (m - 1)) ≡ false) → Least b (suc n) m
      old h g =
          record {
            none_above = λ z. absurd (omega arith);
            within = let w = p.within in omega arith;
            above = p.above;
            least = λ k j l a. ⊎_elim (λ q. rw q (g (rw q at a))) (λ q. p.least k j q a) (last_or j l);
          }

      go : (t : Bool) → comes_before b (K n) ≡ t → Least b (suc n) (better_of keys f b m n)
      go false e =
          rw e
          (by_eqb (λ t. Least b (suc n) m) m 0
          (λ z. record {
            none_above = λ y j l. ⊎_elim (λ q. rw q e) (λ q. p.none_above y j q) (last_or j l);
            within = omega arith;
            above = λ h. absurd (omega arith);
            least = λ h. absurd (omega arith);
          })
          (λ z. old (omega arith) (λ a. absurd (not_both_ways (comes_before b (K n)) a e))))
      go true e =
          rw e
          (by_eqb (λ t. Least b (suc n) (pick (either t (comes_before (K n) (K (m - 1)))) (n + 1) m)) m 0
          (λ z. new e (λ h. absurd (omega arith)))
          (λ z. by_test (λ t. Least b (suc n) (pick t (n + 1) m)) (comes_before (K n) (K (m - 1))) (λ x. new e (λ h. x)) (λ x. old (omega arith) (λ a. x))))

  -- The least of all entries.
  least_next : (b : List ℕ) (n : ℕ) → Least b n (next_after keys f b n)
  unfolding next_after
  least_next b zero =
      record { none_above = λ z j h. absurd (omega arith); within = omega arith; above = λ h. absurd (omega arith); least = λ h. absurd (omega arith) }
  least_next b (suc n) = least_more b n (next_after keys f b n) (least_next b n)

  -- Where none is above, none is counted,
  count_none : (b : List ℕ) (n : ℕ) → ((j : ℕ) → j < n → comes_before b (K j) ≡ false) → count_above keys f b n ≡ 0
  unfolding count_above
  count_none b zero h = refl
  count_none b (suc n) h = rw (h n (omega arith)) (let e = count_none b n (λ j l. h j (omega arith)) in omega arith)

  -- and where none is counted, none is above.
  pub none_counted_lem : (b : List ℕ) (n : ℕ) → count_above keys f b n ≡ 0 → (j : ℕ) → j < n → comes_before b (K j) ≡ false
  unfolding count_above
  none_counted_lem b zero e j h = absurd (omega arith)
  none_counted_lem b (suc n) e j h =
      by_eqb (λ t. comes_before b (K j) ≡ false) j n
      (λ q. rw q (⊎_elim (λ x. absurd (let w = rw x at e in omega arith)) (λ x. x) (true_or_false (comes_before b (K n)))))
      (λ q. none_counted_lem b n (let w : count_above keys f b n ≡ 0 = omega arith in w) j (omega arith))

  -- All are counted where all are above.
  pub count_all : (b : List ℕ) (n : ℕ) → ((j : ℕ) → j < n → comes_before b (K j) ≡ true) → count_above keys f b n ≡ n
  unfolding count_above
  count_all b zero h = refl
  count_all b (suc n) h = rw (h n (omega arith)) (let e = count_all b n (λ j l. h j (omega arith)) in omega arith)

  -- Counted above two keys, where the entries above the one are those above the other.
  count_same : (b c : List ℕ) (n : ℕ) → ((j : ℕ) → j < n → comes_before b (K j) ≡ comes_before c (K j)) → count_above keys f b n ≡ count_above keys f c n
  unfolding count_above
  count_same b c zero h = refl
  count_same b c (suc n) h = rw (h n (omega arith), count_same b c n (λ j l. h j (omega arith)))

  -- One fewer, where they are but for one entry.
  count_fewer : (b c : List ℕ) (n i : ℕ) → i < n → comes_before b (K i) ≡ true → comes_before c (K i) ≡ false
      → ((j : ℕ) → j < n → j ≢ i → comes_before b (K j) ≡ comes_before c (K j)) → count_above keys f b n ≡ suc (count_above keys f c n)
  unfolding count_above
  count_fewer b c zero i l p q h = absurd (omega arith)
  count_fewer b c (suc n) i l p q h =
      by_eqb (λ t. count_above keys f b (suc n) ≡ suc (count_above keys f c (suc n))) i n
      (λ e.
      let x : comes_before b (K n) ≡ true = rw e at p in
      let y : comes_before c (K n) ≡ false = rw e at q in
      rw (x, y, count_same b c n (λ j m. h j (omega arith) (λ z. omega arith))) (omega arith))
      (λ e. rw (count_fewer b c n i (omega arith) p q (λ j m. h j (omega arith)), h n (omega arith) (λ z. e (sym z))) (omega arith))

  module _ (n : ℕ) (distinct : (i j : ℕ) → i < n → j < n → i ≢ j → K i ≢ K j) where
    -- The next entry, where some are above.
    pub record Next (b : List ℕ) (k m : ℕ) : Type 0 where
      pub some : 1 ≤ m
      pub within : m ≤ n
      pub above : comes_before b (K (m - 1)) ≡ true
      pub left : count_above keys f (K (m - 1)) n ≡ k
      pub between : (j : ℕ) → j < n → comes_before b (K j) ≡ true → (j ≡ m - 1) ⊎ (comes_before (K (m - 1)) (K j) ≡ true)

    pub next_is : (b : List ℕ) (k : ℕ) → count_above keys f b n ≡ suc k → Next b k (next_after keys f b n)
    next_is b k e =
        record { some = some; within = l.within; above = above; left = left; between = between }
      where
        m : ℕ
        m = next_after keys f b n

        l : Least b n m
        l = least_next b n

        some : 1 ≤ m
        some = by_eqb (λ t. 1 ≤ m) m 0 (λ z. absurd (let w = count_none b n (l.none_above z) in omega arith)) (λ z. omega arith)

        above : comes_before b (K (m - 1)) ≡ true
        above = l.above some

        between : (j : ℕ) → j < n → comes_before b (K j) ≡ true → (j ≡ m - 1) ⊎ (comes_before (K (m - 1)) (K j) ≡ true)
        between j h a =
            by_eqb (λ t. (j ≡ m - 1) ⊎ (comes_before (K (m - 1)) (K j) ≡ true)) j (m - 1) inl
            (λ d. inr (one_before (K j) (K (m - 1)) (distinct j (m - 1) h (let w = l.within in omega (arith, some)) d) (l.least some j h a)))

        same : (j : ℕ) → j < n → j ≢ m - 1 → comes_before b (K j) ≡ comes_before (K (m - 1)) (K j)
        same j h d =
            ⊎_elim
            (λ x. ⊎_elim (λ q. absurd (d q)) (λ q. x ∙ sym q) (between j h x))
            (λ x. ⊎_elim (λ q. absurd (not_both_ways (comes_before b (K j)) (before_then b (K (m - 1)) (K j) above q) x)) (λ q. x ∙ sym q)
            (true_or_false (comes_before (K (m - 1)) (K j))))
            (true_or_false (comes_before b (K j)))

        left : count_above keys f (K (m - 1)) n ≡ k
        left =
            let w = l.within in
            let c = count_fewer b (K (m - 1)) n (m - 1) (omega (arith, some)) above (not_before_self (K (m - 1))) same in
            omega arith
