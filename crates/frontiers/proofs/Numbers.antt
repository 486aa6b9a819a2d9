-- The entries of a valid frontier: they rise, are valid, and written out again they are its numbers.
-- Assumes nothing.
use Prim.Native.Nat.{ℕ, zero, suc, ◌+◌, ◌-◌, ◌*◌, ◌/◌, ◌%◌, ◌≤◌, ◌<◌}
use mathlib.Core.Path.{◌≡◌, refl, sym, ◌∙◌}
use mathlib.Core.Logic.{inl, inr, ⊎_elim}
use mathlib.Core.List.{List, [], ◌∷◌, ◌++◌}
use mathlib.Core.Option.{some}
use native.Mathlib.Omega.{arith}
use native.Mathlib.Nat.{div-add-mod'}
use lib.ListN.{length, get_or, take, drop}
use lib.Seq.{take-add, drop-cons, drop-drop, take_all}
use borrow.Author.Tests.{eq-eqb, ne_eqb}
use Rattle.basics.specs.Pick.{pick}
use Rattle.basics.proofs.Tests.{by_eqb}
use Rattle.chains.specs.Chain.{Store, State, growing, forked}
use Rattle.frontiers.specs.Entries.{Entry, numbers, flat, entry_of, RisingFrom, end, next, ValidAt, ValidEntries}
use Rattle.frontiers.specs.Numbers.{author_at, phase_at, last_at, low_at, high_at, state_at, entries_at, entries_of, PhaseKept, EntryValid, ValidFrontier}
use Rattle.frontiers.proofs.Entries.{entry_first, entry_later, absent}

module _ (s : Store) (n : ℕ) (f : List ℕ) where
  -- From an entry on, the entries rise above what its author does.
  entries_rising : (k i b : ℕ) → ((j : ℕ) → j < i + k → EntryValid s n f j) → (1 ≤ k → b < author_at f i) → RisingFrom b (entries_at f k i)
  unfolding entries_at
  entries_rising zero i b ok h = end
  entries_rising (suc k) i b ok h =
      next {b = b} {e = record { author = author_at f i; state = state_at f i }} (h (omega arith))
      (entries_rising k (suc i) (author_at f i) (λ j l. ok j (omega arith)) (λ l. step ((ok (suc i) (omega arith)).rises (omega arith))))
    where
      step : author_at f (suc i - 1) < author_at f (suc i) → author_at f i < author_at f (suc i)
      step q = let e : suc i - 1 ≡ i = omega arith in rw e at q

  -- Every entry has a known author and a valid state.
  entries_valid : (k i : ℕ) → ((j : ℕ) → j < i + k → EntryValid s n f j) → (a : ℕ) → ValidAt s n a (entry_of (entries_at f k i) a)
  unfolding entries_at entry_of
  entries_valid zero i ok a = tt
  entries_valid (suc k) i ok a =
      by_eqb (λ t. ValidAt s n a (pick t (some (state_at f i)) (entry_of (entries_at f k (suc i)) a))) (author_at f i) a
      (λ p. let v = ok i (omega arith) in (omega (arith, v.exists), (omega (arith, v.known), rw p at v.state)))
      (λ p. entries_valid k (suc i) (λ j h. ok j (omega arith)) a)

-- Five numbers of a list, one by one.
five_at : (f : List ℕ) (m : ℕ) → m + 5 ≤ length f
    → take 5 (drop m f) ≡ get_or f m 0 ∷ get_or f (m + 1) 0 ∷ get_or f (m + 2) 0 ∷ get_or f (m + 3) 0 ∷ get_or f (m + 4) 0 ∷ []
five_at f m h =
    let p : m + 1 ≡ suc m = omega arith in
    let q : m + 2 ≡ suc (suc m) = omega arith in
    let r : m + 3 ≡ suc (suc (suc m)) = omega arith in
    let t : m + 4 ≡ suc (suc (suc (suc m))) = omega arith in
    rw (
      p,
      q,
      r,
      t,
      drop-cons f m 0 (omega arith),
      drop-cons f (suc m) 0 (omega arith),
      drop-cons f (suc (suc m)) 0 (omega arith),
      drop-cons f
          (suc (suc (suc m))) 0 (omega arith),
      drop-cons f (suc (suc (suc (suc m)))) 0 (omega arith),
    )

-- The numbers of an entry that keeps the rule of phases are those that stand there.
entry_numbers : (f : List ℕ) (i : ℕ) → i * 5 + 5 ≤ length f → PhaseKept f i → numbers (author_at f i) (state_at f i) ≡ take 5 (drop (i * 5) f)
entry_numbers f i h k = ⊎_elim (λ w. growing_numbers w.0 w.1.0 w.1.1) forked_numbers k ∙ sym (five_at f (i * 5) h)
  where
    growing_numbers : phase_at f i ≡ 0 → low_at f i ≡ 0 → high_at f i ≡ 0
        → numbers (author_at f i) (state_at f i) ≡ author_at f i ∷ phase_at f i ∷ last_at f i ∷ low_at f i ∷ high_at f i ∷ []
    growing_numbers p q r = rw (eq-eqb (phase_at f i) 0 p, p, q, r)

    forked_numbers : phase_at f i ≡ 1 → numbers (author_at f i) (state_at f i) ≡ author_at f i ∷ phase_at f i ∷ last_at f i ∷ low_at f i ∷ high_at f i ∷ []
    forked_numbers p = rw (ne_eqb (phase_at f i) 0 (λ z. omega arith), p)

-- Entries written out are the numbers that they stand in.
flat_entries : (f : List ℕ) (k i : ℕ) → (i + k) * 5 ≤ length f → ((j : ℕ) → j < i + k → PhaseKept f j) → flat (entries_at f k i) ≡ take (k * 5) (drop (i * 5) f)
unfolding flat entries_at
flat_entries f zero i h ok = refl
flat_entries f (suc k) i h ok =
    let p : suc k * 5 ≡ 5 + k * 5 = omega arith in
    let q : suc i * 5 ≡ i * 5 + 5 = omega arith in
    let r : flat (entries_at f k (suc i)) ≡ take (k * 5) (drop (suc i * 5) f) = flat_entries f k (suc i) (omega arith) (λ j l. ok j (omega arith)) in
    let w : numbers (author_at f i) (state_at f i) ≡ take 5 (drop (i * 5) f) = entry_numbers f i (omega arith) (ok i (omega arith)) in
    rw (p, take-add 5 (k * 5) (drop (i * 5) f), drop-drop 5 (i * 5) f, ← q, ← r, w)

module _ (s : Store) (n : ℕ) (f : List ℕ) (v : ValidFrontier s n f) where
  -- The entries of a valid frontier rise, and each has a known author and a valid state.
  pub valid_entries : ValidEntries s n (entries_of f)
  unfolding entries_of
  valid_entries =
      record {
        rising = entries_rising s n f (length f / 5) 0 0 (λ j h. v.entries j (omega arith)) (λ h. (v.entries 0 (omega arith)).exists);
        each = entries_valid s n f (length f / 5) 0 (λ j h. v.entries j (omega arith));
      }

  -- Written out they are the frontier.
  pub valid_flat : flat (entries_of f) ≡ f
  unfolding entries_of
  valid_flat =
      let d : length f / 5 * 5 + length f % 5 ≡ length f = div-add-mod' (length f) 5 in
      let e : length f % 5 ≡ 0 = v.whole in
      flat_entries f (length f / 5) 0 (omega arith) (λ j h. (v.entries j (omega arith)).phase) ∙ take_all (length f / 5 * 5) f (omega arith)

-- A number after the first five stands five places earlier in the rest.
get_d_after : (a : ℕ) (st : State) (f : List ℕ) (k m : ℕ) → k ≡ m + 5 → get_or (numbers a st ++ f) k 0 ≡ get_or f m 0
get_d_after a (growing l) f k m e = let p : k ≡ suc (suc (suc (suc (suc m)))) = omega arith in rw p
get_d_after a (forked l lo hi) f k m e = let p : k ≡ suc (suc (suc (suc (suc m)))) = omega arith in rw p

-- The first entry of numbers written out is the one written.
state_first : (a : ℕ) (st : State) (f : List ℕ) → state_at (numbers a st ++ f) 0 ≡ st
state_first a (growing l) f = refl
state_first a (forked l lo hi) f = refl

author_first : (a : ℕ) (st : State) (f : List ℕ) → author_at (numbers a st ++ f) 0 ≡ a
author_first a (growing l) f = refl
author_first a (forked l lo hi) f = refl

phase_first : (a : ℕ) (st : State) (f : List ℕ) → PhaseKept (numbers a st ++ f) 0
phase_first a (growing l) f = inl (refl, (refl, refl))
phase_first a (forked l lo hi) f = inr refl

-- The entries after it are those of the rest.
author_after : (a : ℕ) (st : State) (f : List ℕ) (i : ℕ) → author_at (numbers a st ++ f) (suc i) ≡ author_at f i
author_after a st f i = get_d_after a st f (suc i * 5) (i * 5) (omega arith)

state_after : (a : ℕ) (st : State) (f : List ℕ) (i : ℕ) → state_at (numbers a st ++ f) (suc i) ≡ state_at f i
state_after a st f i =
    rw (
      get_d_after a st f (suc i * 5 + 1) (i * 5 + 1) (omega arith),
      get_d_after a st f (suc i * 5 + 2) (i * 5 + 2) (omega arith),
      get_d_after a st f
          (suc i * 5 + 3) (i * 5 + 3) (omega arith),
      get_d_after a st f (suc i * 5 + 4) (i * 5 + 4) (omega arith),
    )

phase_after : (a : ℕ) (st : State) (f : List ℕ) (i : ℕ) → PhaseKept f i → PhaseKept (numbers a st ++ f) (suc i)
phase_after a st f i k =
    rw (
      get_d_after a st f (suc i * 5 + 1) (i * 5 + 1) (omega arith),
      get_d_after a st f (suc i * 5 + 3) (i * 5 + 3) (omega arith),
      get_d_after a st f
          (suc i * 5 + 4) (i * 5 + 4) (omega arith),
    ) k

entries_after : (a : ℕ) (st : State) (f : List ℕ) (k i : ℕ) → entries_at (numbers a st ++ f) k (suc i) ≡ entries_at f k i
unfolding entries_at
entries_after a st f zero i = refl
entries_after a st f (suc k) i = rw (author_after a st f i, state_after a st f i, entries_after a st f k (suc i))

-- Five numbers an entry.
pub length_flat : (es : List Entry) → length (flat es) ≡ length es * 5
unfolding flat
length_flat [] = refl
length_flat (e ∷ es) = length_five e.author e.state (flat es) ∙ (let p = length_flat es in omega arith)
  where
    length_five : (a : ℕ) (st : State) (f : List ℕ) → length (numbers a st ++ f) ≡ 5 + length f
    length_five a (growing l) f = omega arith
    length_five a (forked l lo hi) f = omega arith

-- How many entries they are.
count_flat : (es : List Entry) → length (flat es) / 5 ≡ length es
count_flat es = let p = length_flat es in omega arith

-- Entries written out and read again, one after the other.
entries_written : (es : List Entry) → entries_at (flat es) (length es) 0 ≡ es
unfolding flat entries_at
entries_written [] = refl
entries_written (e ∷ es) =
    rw (
      author_first e.author e.state (flat es),
      state_first e.author e.state (flat es),
      entries_after e.author e.state (flat es)
          (length es) 0,
      entries_written es,
    )

-- Entries written out and read again are the same.
pub entries_flat : (es : List Entry) → entries_of (flat es) ≡ es
unfolding entries_of
entries_flat es = rw (count_flat es) (entries_written es)

-- The entries after the first of rising entries are valid where all are.
valid_rest : (s : Store) (n : ℕ) (e : Entry) (es : List Entry) → RisingFrom e.author es → ((a : ℕ) → ValidAt s n a (entry_of (e ∷ es) a))
    → (a : ℕ) → ValidAt s n a (entry_of es a)
valid_rest s n e es r v a =
    by_eqb (λ t. ValidAt s n a (entry_of es a)) e.author a
    (λ p. rw (absent r a (omega arith)) tt)
    (λ p. rw (entry_later e es a p) at (v a))

-- One less than the next is the entry itself.
pred_suc : (i : ℕ) → suc i - 1 ≡ i
pred_suc i = omega arith

-- Before an entry of the rest stands one with a lower author: the first one, or the rest's own.
rises_after : (s : Store) (n : ℕ) (e : Entry) (es : List Entry) (i : ℕ) → RisingFrom e.author es → i < length es → EntryValid s n (flat es) i
    → author_at (flat (e ∷ es)) i < author_at (flat es) i
unfolding flat
rises_after s n e [] i r h w = absurd (omega arith)
rises_after s n e (d ∷ es) zero (next p r) h w = rw (author_first e.author e.state (flat (d ∷ es)), author_first d.author d.state (flat es)) p
rises_after s n e (d ∷ es) (suc i) r h w =
    let q : author_at (flat (d ∷ es)) (suc i - 1) < author_at (flat (d ∷ es)) (suc i) = w.rises (omega arith) in
    rw (author_after e.author e.state (flat (d ∷ es)) i) (rw (pred_suc i) at q)

-- Numbers written out from rising valid entries keep the rule of every entry.
written_valid : (s : Store) (n b : ℕ) (es : List Entry) → RisingFrom b es → ((a : ℕ) → ValidAt s n a (entry_of es a)) → (i : ℕ) → i < length es →
    EntryValid s n (flat es) i
unfolding flat
written_valid s n b [] end v i h = absurd (omega arith)
written_valid s n b (e ∷ es) (next p r) v zero h =
    let w : ValidAt s n e.author (some e.state) = rw (entry_first e es e.author refl) at (v e.author) in
    let q : author_at (flat (e ∷ es)) 0 ≡ e.author = author_first e.author e.state (flat es) in
    record {
      phase = phase_first e.author e.state (flat es);
      rises = λ z. absurd (omega arith);
      exists = rw q w.0;
      known = rw q w.1.0;
      state = rw (q, state_first e.author e.state (flat es)) w.1.1;
    }
written_valid s n b (e ∷ es) (next p r) v (suc i) h =
    let w : EntryValid s n (flat es) i = written_valid s n e.author es r (valid_rest s n e es r v) i (omega arith) in
    let q : author_at (flat (e ∷ es)) (suc i) ≡ author_at (flat es) i = author_after e.author e.state (flat es) i in
    record {
      phase = phase_after e.author e.state (flat es) i w.phase;
      rises = λ z. rw (pred_suc i, q) (rises_after s n e es i r (omega arith) w);
      exists = rw q w.exists;
      known = rw q w.known;
      state = rw (q, state_after e.author e.state (flat es) i) w.state;
    }

-- Valid entries written out are a valid frontier.
pub flat_valid : (s : Store) (n : ℕ) (es : List Entry) → ValidEntries s n es → ValidFrontier s n (flat es)
flat_valid s n es v =
    let p = length_flat es in
    record { whole = omega arith; entries = λ i h. written_valid s n 0 es v.rising v.each i (let c = count_flat es in omega arith) }
