-- The computed merge of two rising lists of entries: it rises, and each author's entry is the join of the two.
-- Assumes nothing.
use Prim.Native.Nat.{ℕ, zero, suc, ◌+◌, ◌≤◌, ◌<◌}
use mathlib.Core.Path.{◌≡◌, refl, sym, ap, ◌∙◌}
use mathlib.Core.List.{List, ◌∷◌, ◌++◌}
use mathlib.Core.Logic.{◌≢◌, ◌⊎◌, inl, inr, ⊎_elim}
use mathlib.Core.Option.{Option, none, some}
use native.Mathlib.Omega.{arith}
use borrow.Author.Tests.{eq-eqb, ne_eqb}
use Rattle.basics.proofs.Tests.{by_eqb, by_ltb}
use Rattle.chains.specs.Chain.{State}
use Rattle.frontiers.specs.Entries.{Entry, entry_of, RisingFrom, end, next, slot, collect}

-- What rises above a number rises above a lower one.
pub rising_lower : {b c : ℕ} {f : List Entry} → c ≤ b → RisingFrom b f → RisingFrom c f
rising_lower h end = end
rising_lower {c = c} {f = e ∷ f} h (next p r) = next {b = c} {e = e} (omega arith) r

-- The entry of the first author is the first.
pub entry_first : (e : Entry) (f : List Entry) (a : ℕ) → e.author ≡ a → entry_of (e ∷ f) a ≡ some e.state
unfolding entry_of
entry_first e f a p = rw (eq-eqb e.author a p)

-- The entry of another author is that of the rest.
pub entry_later : (e : Entry) (f : List Entry) (a : ℕ) → e.author ≢ a → entry_of (e ∷ f) a ≡ entry_of f a
unfolding entry_of
entry_later e f a p = rw (ne_eqb e.author a p)

-- An author at or below where a list rises from has no entry in it.
pub absent : {b : ℕ} {f : List Entry} → RisingFrom b f → (a : ℕ) → a ≤ b → entry_of f a ≡ none
unfolding entry_of
absent end a h = refl
absent {f = e ∷ f} (next p r) a h = entry_later e f a (λ q. omega arith) ∙ absent r a (omega arith)

-- An entry is no absence.
pub some_not_none : {l : State} → some l ≡ none → ⊥
some_not_none p = let z : ◌≡◌ {A = ℕ} 0 1 = cc in omega arith

-- Two entries that are one have one state.
pub some_inj : {l k : State} → some l ≡ some k → l ≡ k
some_inj p = cc

-- Two entries with one author and one state are one.
entry_same : (e d : Entry) → e.author ≡ d.author → e.state ≡ d.state → e ≡ d
entry_same e d p q = ap (λ (x : ℕ). record { author = x; state = e.state }) p ∙ ap (λ (y : State). record { author = d.author; state = y }) q

-- An author's slot before what rises above it.
pub slot_rising : (b : ℕ) (x : Option State) {r : List Entry} → RisingFrom (suc b) r → RisingFrom b (slot (suc b) x ++ r)
slot_rising b none h = rising_lower {b = suc b} {c = b} (omega arith) h
slot_rising b (some l) h = next {b = b} {e = record { author = suc b; state = l }} (omega arith) h

-- The entry of the slot's author is the slot's.
pub slot_own : (c : ℕ) (x : Option State) (r : List Entry) (a : ℕ) → c ≡ a → RisingFrom c r → entry_of (slot c x ++ r) a ≡ x
slot_own c none r a p h = absent h a (omega arith)
slot_own c (some l) r a p h = entry_first (record { author = c; state = l }) r a p

-- The entry of another author is that of the rest.
pub slot_other : (c : ℕ) (x : Option State) (r : List Entry) (a : ℕ) → c ≢ a → entry_of (slot c x ++ r) a ≡ entry_of r a
slot_other c none r a h = refl
slot_other c (some l) r a h = entry_later (record { author = c; state = l }) r a h

-- The collected entries rise above where they start.
pub collect_rising : (o : ℕ → Option State) (k b : ℕ) → RisingFrom b (collect o k b)
unfolding collect
collect_rising o zero b = end
collect_rising o (suc k) b = slot_rising b (o (suc b)) (collect_rising o k (suc b))

-- Each author in reach has the entry that `o` gives it.
pub collect_entry : (o : ℕ → Option State) (k b a : ℕ) → b < a → a ≤ b + k → entry_of (collect o k b) a ≡ o a
unfolding collect
collect_entry o zero b a h j = absurd (omega arith)
collect_entry o (suc k) b a h j =
    by_eqb (λ t. entry_of (collect o (suc k) b) a ≡ o a) (suc b) a
    (λ p. slot_own (suc b) (o (suc b)) (collect o k (suc b)) a p (collect_rising o k (suc b)) ∙ ap o p)
    (λ p. slot_other (suc b) (o (suc b)) (collect o k (suc b)) a p ∙ collect_entry o k (suc b) a (omega arith) (omega arith))

-- No author above the reach has an entry.
pub collect_above : (o : ℕ → Option State) (k b a : ℕ) → b + k < a → entry_of (collect o k b) a ≡ none
unfolding collect entry_of
collect_above o zero b a h = refl
collect_above o (suc k) b a h =
    slot_other (suc b) (o (suc b)) (collect o k (suc b)) a (λ p. omega arith) ∙ collect_above o k (suc b) a (omega arith)

-- The first author of a rising list has no entry in a list that has its first entry later.
later_first : (e : Entry) (f : List Entry) (d : Entry) (g : List Entry) → e.author < d.author → RisingFrom d.author g
    → ((a : ℕ) → entry_of (e ∷ f) a ≡ entry_of (d ∷ g) a) → ⊥
later_first e f d g h r same =
    some_not_none (sym (entry_first e f e.author refl) ∙ same e.author ∙ absent (next {b = e.author} {e = d} h r) e.author (omega arith))

-- Two numbers differ one way or the other, or are the same.
apart_or_same : (m n : ℕ) → ((m < n) ⊎ (n < m)) ⊎ (m ≡ n)
apart_or_same m n =
    by_ltb (λ t. ((m < n) ⊎ (n < m)) ⊎ (m ≡ n)) m n (λ h. inl (inl h))
    (λ h. by_ltb (λ t. ((m < n) ⊎ (n < m)) ⊎ (m ≡ n)) n m (λ k. inl (inr k)) (λ k. inr (omega arith)))

-- Lists with one first author and the same entries have the same first entry, and the same rest where that follows.
one_first : (e : Entry) (f : List Entry) (d : Entry) (g : List Entry) → e.author ≡ d.author → RisingFrom e.author f → RisingFrom d.author g
    → ((a : ℕ) → entry_of (e ∷ f) a ≡ entry_of (d ∷ g) a) → (((a : ℕ) → entry_of f a ≡ entry_of g a) → f ≡ g) → e ∷ f ≡ d ∷ g
one_first e f d g p r u same rest =
    let s : e.state ≡ d.state = some_inj (sym (entry_first e f d.author p) ∙ same d.author ∙ entry_first d g d.author refl) in
    let q : e ≡ d = entry_same e d p s in
    let h : f ≡ g = rest (λ a. by_eqb (λ t. entry_of f a ≡ entry_of g a) e.author a
    (λ x. absent r a (omega arith) ∙ sym (absent u a (omega arith)))
    (λ x. sym (entry_later e f a x) ∙ same a ∙ entry_later d g a (λ y. x (p ∙ y)))) in
    cc

-- Two rising lists with the same entry for every author are one.
pub rising_unique : {b c : ℕ} {f g : List Entry} → RisingFrom b f → RisingFrom c g → ((a : ℕ) → entry_of f a ≡ entry_of g a) → f ≡ g
unfolding entry_of
rising_unique end end same = refl
rising_unique {g = d ∷ g} end (next q r) same = absurd (some_not_none (sym (entry_first d g d.author refl) ∙ sym (same d.author)))
rising_unique {f = e ∷ f} (next p r) end same = absurd (some_not_none (sym (entry_first e f e.author refl) ∙ same e.author))
rising_unique {f = e ∷ f} {g = d ∷ g} (next p r) (next q u) same =
    ⊎_elim (λ w. absurd (⊎_elim (λ h. later_first e f d g h u same) (λ h. later_first d g e f h r (λ a. sym (same a))) w))
    (λ w. one_first e f d g w r u same (rising_unique r u))
    (apart_or_same e.author d.author)
