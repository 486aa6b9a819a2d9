-- A search through the entries from the front: the rest decides.
-- Assumes nothing.
use Rattle.std.specs.Prelude.{Some}
use Prim.Native.Nat.{ℕ, suc, ◌+◌, ◌-◌, ◌/◌, ◌≤◌, ◌<◌}
use mathlib.Core.Path.{◌≡◌, sym, ap, ◌∙◌}
use mathlib.Core.Logic.{◌≢◌}
use mathlib.Core.List.{List, ◌∷◌}
use mathlib.Core.Option.{none, some}
use native.Mathlib.Omega.{arith}
use lib.ListN.{length}
use Rattle.logs.specs.declared.LogState.{LogState}
use Rattle.frontiers.specs.Entries.{entry_of}
use Rattle.frontiers.specs.Numbers.{author_at, state_at, entries_at, entries_of}
use Rattle.frontiers.specs.Found.{Read, Holds}
use Rattle.frontiers.proofs.Entries.{entry_first, entry_later}

-- The entries from entry i on: that entry, and the entries from the next on.
rest_entries : (f : List ℕ) (n i : ℕ) → i < n
    → entries_at f (n - i) i ≡ record { author = author_at f i; state = state_at f i } ∷ entries_at f (n - (i + 1)) (i + 1)
unfolding entries_at
rest_entries f n i h =
    let e : n - i ≡ suc (n - (i + 1)) = omega arith in
    let d : i + 1 ≡ suc i = omega arith in
    rw (e, d)

-- Before the first entry the rest is all.
pub rest_all : (f : List ℕ) (n a : ℕ) → n ≡ length f / 5 → entry_of (entries_of f) a ≡ entry_of (entries_at f (n - 0) 0) a
unfolding entries_of
rest_all f n a e = let d : n - 0 ≡ length f / 5 = omega arith in rw d

-- An entry of the author decides.
pub rest_found : (f : List ℕ) (n i a : ℕ) (k : LogState) → i < n → entry_of (entries_of f) a ≡ entry_of (entries_at f (n - i) i) a → Read f i k → k.author ≡ a
    → Holds a (entry_of (entries_of f) a) (Some k)
rest_found f n i a k h e r p = (
  p,
  e ∙ ap (λ es. entry_of es a) (rest_entries f n i h)
      ∙ entry_first (record { author = author_at f i; state = state_at f i }) (entries_at f (n - (i + 1)) (i + 1)) a (sym r.author ∙ p)
      ∙ ap some (sym r.state),
)

-- An entry of another author leaves it to the rest.
pub rest_more : (f : List ℕ) (n i a : ℕ) (k : LogState) → i < n → entry_of (entries_of f) a ≡ entry_of (entries_at f (n - i) i) a → Read f i k → k.author ≢ a
    → entry_of (entries_of f) a ≡ entry_of (entries_at f (n - (i + 1)) (i + 1)) a
rest_more f n i a k h e r p =
    e ∙ ap (λ es. entry_of es a) (rest_entries f n i h)
    ∙ entry_later (record { author = author_at f i; state = state_at f i }) (entries_at f (n - (i + 1)) (i + 1)) a (λ q. p (r.author ∙ q))

-- After the last entry there is none.
pub rest_none : (f : List ℕ) (n i a : ℕ) → n ≤ i → entry_of (entries_of f) a ≡ entry_of (entries_at f (n - i) i) a → entry_of (entries_of f) a ≡ none
unfolding entries_at entry_of
rest_none f n i a h e = let d : n - i ≡ 0 = omega arith in rw d at e
