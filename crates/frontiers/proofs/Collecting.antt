-- Writing the collected entries one author after the other.
-- Assumes nothing.
use Rattle.std.specs.Prelude.{Some, None}
use Rattle.frontiers.specs.Slot.{Slot}
use Prim.Native.Nat.{ℕ, suc, ◌+◌, ◌-◌, ◌<◌}
use mathlib.Core.Path.{◌≡◌, refl, sym, ap, ◌∙◌}
use mathlib.Core.List.{List, [], ◌∷◌, ◌++◌, append_assoc, append-nil}
use mathlib.Core.Option.{Option}
use native.Mathlib.Omega.{arith}
use Rattle.chains.specs.Chain.{State}
use Rattle.logs.specs.States.{state_of}
use Rattle.frontiers.specs.Entries.{Entry, numbers, flat, slot, collect}
use Rattle.frontiers.specs.Found.{Holds, slot_numbers}

-- Entries written out one list after the other.
pub flat_append : (xs ys : List Entry) → flat (xs ++ ys) ≡ flat xs ++ flat ys
unfolding flat
flat_append [] ys = refl
flat_append (e ∷ xs) ys = rw (flat_append xs ys) (sym (append_assoc (numbers e.author e.state) (flat xs) (flat ys)))

-- The numbers of a slot are those of the entry that it holds.
pub holds_numbers : (a : ℕ) (x : Option State) (r : Slot) → Holds a x r → slot_numbers r ≡ flat (slot a x)
unfolding flat
holds_numbers a x None h = rw h
holds_numbers a x (Some k) h = rw (h.1, ← h.0) (sym (append-nil (numbers k.author (state_of k))))

-- The entries of the authors after `b`: that of the next, then those of the authors after it.
pub collect_next : (o : ℕ → Option State) (n b : ℕ) → b < n → collect o (n - b) b ≡ slot (b + 1) (o (b + 1)) ++ collect o (n - (b + 1)) (b + 1)
unfolding collect
collect_next o n b h =
    let e : n - b ≡ suc (n - (b + 1)) = omega arith in
    let d : b + 1 ≡ suc b = omega arith in
    rw (e, d)

-- Written out, they begin with the numbers of the slot of the next author.
pub next_numbers : (o : ℕ → Option State) (n b : ℕ) (r : Slot) → b < n → Holds (b + 1) (o (b + 1)) r
    → flat (collect o (n - b) b) ≡ slot_numbers r ++ flat (collect o (n - (b + 1)) (b + 1))
next_numbers o n b r h k =
    ap flat (collect_next o n b h) ∙ flat_append (slot (b + 1) (o (b + 1))) (collect o (n - (b + 1)) (b + 1))
    ∙ ap (λ l. l ++ flat (collect o (n - (b + 1)) (b + 1))) (sym (holds_numbers (b + 1) (o (b + 1)) r k))
