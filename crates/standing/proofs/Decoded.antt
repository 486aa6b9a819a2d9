-- What is read over the lent parts is what the definitions read over the table.
-- Assumes nothing.
use Prim.Native.Nat.{ℕ, zero, suc, ◌+◌, ◌-◌, ◌≤◌, ◌<◌}
use mathlib.Core.Path.{◌≡◌, refl, sym, ap, ◌∙◌, subst}
use mathlib.Core.Bool.{Bool, true, false}
use mathlib.Core.List.{List, []}
use mathlib.Core.Option.{Option, none, some}
use native.Mathlib.Omega.{arith}
use lib.Dec.{eqb}
use borrow.Author.Tests.{ne_eqb}
use Rattle.basics.specs.Pick.{pick}
use Rattle.basics.proofs.Tests.{by_eqb}
use Rattle.basics.proofs.Chunks.{length_chunk}
use Rattle.chunks.specs.Bytes.{same_bytes, comes_before}
use Rattle.store.specs.Table.{Table, key_at}
use Rattle.chains.specs.Chain.{State, growing, forked}
use Rattle.frontiers.specs.Entries.{flat, collect}
use Rattle.kind3.specs.Entries.{HasEntries, key_in, phase_in, presence_in, last_id_in, low_id_in, high_id_in, RisesIn}
use Rattle.standing.specs.Standing.{Standing, growing_at, forked_at}
use Rattle.standing.specs.Sending.{sent_for, KeysRiseFrom, KeysRise}
use Rattle.standing.specs.Reading.{row_with, rows_of, rows_at, KnownLast, KnownIds, Known, read_entries}
use Rattle.standing.specs.Decoding.{last_in, says_in, sents_at, sents_of}
use Rattle.standing.specs.Finding.{LastHeld, EvidenceHeld, EntryHeld, AllHeld, rows_in, rows_for, read_at, read_numbers}
use Rattle.standing.proofs.Putting.{some_bytes}

-- What two functions collect that give every author the same.
collected : (o p : ℕ → Option State) → ((a : ℕ) → o a ≡ p a) → (k b : ℕ) → collect o k b ≡ collect p k b
unfolding collect
collected o p h zero b = refl
collected o p h (suc k) b = rw (h (suc b), collected o p h k (suc b))

module _ (u : Table) where
  -- The state of a standing that the tests of phase and presence chose.
  rows_chosen : (b c : Bool) (x lo hi : List ℕ) → rows_of u (pick b (growing_at (pick c none (some x))) (forked_at (pick c none (some x)) lo hi))
      ≡ pick b (growing (pick c 0 (row_with u x))) (forked (pick c 0 (row_with u x)) (row_with u lo) (row_with u hi))
  rows_chosen true true x lo hi = refl
  rows_chosen true false x lo hi = refl
  rows_chosen false true x lo hi = refl
  rows_chosen false false x lo hi = refl

  -- What is chosen by a test, by rows.
  at_chosen : (b : Bool) (x : Standing) (y : Option Standing) → rows_at u (pick b (some x) y) ≡ pick b (some (rows_of u x)) (rows_at u y)
  at_chosen true x y = refl
  at_chosen false x y = refl

  -- What the entries say of a key, by rows.
  for_same : (s key : List ℕ) (k i : ℕ) → rows_at u (sent_for (sents_at s k i) key) ≡ rows_for u.ids u.counts.rows s key k i
  unfolding sent_for sents_at rows_for
  for_same s key zero i = refl
  for_same s key (suc k) i =
      at_chosen (same_bytes (key_in s i) key) (says_in s i) (sent_for (sents_at s k (suc i)) key)
      ∙ ap (λ x. pick (same_bytes (key_in s i) key) (some x) (rows_at u (sent_for (sents_at s k (suc i)) key)))
      (rows_chosen (eqb (phase_in s i) 0) (eqb (presence_in s i) 0) (last_id_in s i) (low_id_in s i) (high_id_in s i))
      ∙ ap (λ y. pick (same_bytes (key_in s i) key) (some (rows_in u.ids u.counts.rows s i)) y) (for_same s key k (suc i))

  -- The frontier read.
  pub numbers_same : (s : List ℕ) (n : ℕ) → flat (read_entries u (sents_of s n)) ≡ read_numbers u.keys u.ids u.counts s n
  unfolding read_entries read_numbers
  numbers_same s n =
      ap flat
      (collected (λ a. rows_at u (sent_for (sents_of s n) (key_at u a))) (read_at u.keys u.ids u.counts s n) (λ a. for_same s (key_at u a) n 0)
      u.counts.authors 0)

  -- The ids that apply are held: they are known,
  held_known : (s : List ℕ) (i : ℕ) → LastHeld u.ids u.counts.rows s i → EvidenceHeld u.ids u.counts.rows s i → KnownIds u (says_in s i)
  held_known s i l e =
      let k : KnownLast u (last_in s i) = by_eqb (λ c. KnownLast u (pick c none (some (last_id_in s i)))) (presence_in s i) 0 (λ z. tt) l in
      by_eqb (λ b. KnownIds u (pick b (growing_at (last_in s i)) (forked_at (last_in s i) (low_id_in s i) (high_id_in s i)))) (phase_in s i) 0
      (λ z. k) (λ n. (k, e n))

  known_last : (b : Bool) (l : Option (List ℕ)) (lo hi : List ℕ) → KnownIds u (pick b (growing_at l) (forked_at l lo hi)) → KnownLast u l
  known_last true l lo hi k = k
  known_last false l lo hi k = k.0

  -- and they are known only where held.
  known_held : (s : List ℕ) (i : ℕ) → KnownIds u (says_in s i) → LastHeld u.ids u.counts.rows s i × EvidenceHeld u.ids u.counts.rows s i
  known_held s i k = (last, evidence)
    where
      last : LastHeld u.ids u.counts.rows s i
      last n =
          subst (λ c. KnownLast u (pick c none (some (last_id_in s i)))) (ne_eqb (presence_in s i) 0 n)
          (known_last (eqb (phase_in s i) 0) (last_in s i) (low_id_in s i) (high_id_in s i) k)

      evidence : EvidenceHeld u.ids u.counts.rows s i
      evidence n =
          (subst (λ b. KnownIds u (pick b (growing_at (last_in s i)) (forked_at (last_in s i) (low_id_in s i) (high_id_in s i)))) (ne_eqb (phase_in s i) 0 n) k).1

  -- The entries from one on are known exactly where each is held.
  to_known : (s : List ℕ) (k i : ℕ) → ((j : ℕ) → i ≤ j → j < i + k → EntryHeld u.keys u.ids u.counts s j) → Known u (sents_at s k i)
  unfolding sents_at
  to_known s zero i h = tt
  to_known s (suc k) i h =
      let e = h i (omega arith) (omega arith) in
      ((e.0, held_known s i e.1.0 e.1.1), to_known s k (suc i) (λ j l m. h j (omega arith) (omega arith)))

  from_known : (s : List ℕ) (k i : ℕ) → Known u (sents_at s k i) → (j : ℕ) → i ≤ j → j < i + k → EntryHeld u.keys u.ids u.counts s j
  unfolding sents_at
  from_known s zero i h j l m = absurd (omega arith)
  from_known s (suc k) i h j l m =
      by_eqb (λ t. EntryHeld u.keys u.ids u.counts s j) i j
      (λ e. subst (EntryHeld u.keys u.ids u.counts s) e (h.0.0, known_held s i h.0.1))
      (λ e. from_known s k (suc i) h.1 j (omega arith) (omega arith))

  pub all_known : (s : List ℕ) (n : ℕ) → AllHeld u.keys u.ids u.counts s n → Known u (sents_of s n)
  all_known s n h = to_known s n 0 (λ j l m. h j (omega arith))

  pub known_all : (s : List ℕ) (n : ℕ) → Known u (sents_of s n) → AllHeld u.keys u.ids u.counts s n
  known_all s n h j l = from_known s n 0 h j (omega arith) (omega arith)

module _ (s : List ℕ) where
  -- Keys that rise from entry to entry, as a list.
  to_rise : (k i : ℕ) (b : List ℕ) → (1 ≤ k → comes_before b (key_in s i) ≡ true)
      → ((j : ℕ) → i < j → j < i + k → comes_before (key_in s (j - 1)) (key_in s j) ≡ true) → KeysRiseFrom b (sents_at s k i)
  unfolding sents_at
  to_rise zero i b f h = KeysRiseFrom.end
  to_rise (suc k) i b f h =
      KeysRiseFrom.next {w = record { key = key_in s i; says = says_in s i }} (f (omega arith))
      (to_rise k (suc i) (key_in s i) (λ l. back (h (suc i) (omega arith) (omega arith))) (λ j l m. h j (omega arith) (omega arith)))
    where
      back : comes_before (key_in s (suc i - 1)) (key_in s (suc i)) ≡ true → comes_before (key_in s i) (key_in s (suc i)) ≡ true
      back q = let e : suc i - 1 ≡ i = omega arith in subst (λ x. comes_before (key_in s x) (key_in s (suc i)) ≡ true) e q

  first_rises : (k i : ℕ) (b : List ℕ) → KeysRiseFrom b (sents_at s k i) → 1 ≤ k → comes_before b (key_in s i) ≡ true
  unfolding sents_at
  first_rises zero i b r h = absurd (omega arith)
  first_rises (suc k) i b (KeysRiseFrom.next p r) h = p

  from_rise : (k i : ℕ) (b : List ℕ) → KeysRiseFrom b (sents_at s k i) → (j : ℕ) → i < j → j < i + k → comes_before (key_in s (j - 1)) (key_in s j) ≡ true
  unfolding sents_at
  from_rise zero i b r j l m = absurd (omega arith)
  from_rise (suc k) i b (KeysRiseFrom.next p r) j l m =
      by_eqb (λ t. comes_before (key_in s (j - 1)) (key_in s j) ≡ true) (suc i) j
      (λ e. let d : j - 1 ≡ i = omega arith in
      subst (λ x. comes_before (key_in s x) (key_in s j) ≡ true) (sym d)
      (subst (λ x. comes_before (key_in s i) (key_in s x) ≡ true) e (first_rises k (suc i) (key_in s i) r (omega arith))))
      (λ e. from_rise k (suc i) (key_in s i) r j (omega arith) (omega arith))

  pub rise_list : (n : ℕ) → HasEntries s n → RisesIn s n → KeysRise (sents_of s n)
  rise_list n h r =
      to_rise n 0 [] (λ l. some_bytes (key_in s 0) (let e = length_chunk 8 s (omega arith) in omega (arith, e))) (λ j l m. r j (omega arith) (omega arith))

  pub list_rise : (n : ℕ) → KeysRise (sents_of s n) → RisesIn s n
  list_rise n r j l h = from_rise n 0 [] r j (omega arith) (omega arith)
