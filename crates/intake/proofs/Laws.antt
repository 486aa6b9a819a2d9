-- What the window leaves in each of its cases.
-- Assumes nothing.
use Prim.Native.Nat.{ℕ, ◌+◌, ◌-◌, ◌≤◌, ◌<◌}
use mathlib.Core.Path.{◌≡◌, sym, ap, ◌∙◌}
use mathlib.Core.List.{List, ◌++◌}
use native.Mathlib.Omega.{arith}
use lib.ListN.{length, take, drop, length-drop, take-append-drop}
use lib.Seq.{length-paste, take-paste, length-take-le, take_at, take-take}
use Rattle.item.specs.Offsets.{largest_item}
use Rattle.intake.specs.Window.{Within, Filled, Stands, Refilled, stretch, moved}

-- The first bytes of a window whose rest is put anew.
pub front_kept : (k : ℕ) (w r : List ℕ) → k ≤ length w → take k (take k w ++ r) ≡ take k w
front_kept k w r h = take_at (take k w) r k (length-take-le k w h)

-- A window that has a whole item stays.
pub refilled_enough : (w : List ℕ) (at held : ℕ) (w' : List ℕ) (at' held' : ℕ) → at ≤ held → held ≤ length w → largest_item ≤ held - at → w' ≡ w
    → at' ≡ at → held' ≡ held → Refilled w at held w' at' held'
refilled_enough w at held w' at' held' o i h e f g =
    let n : length w' ≡ length w = ap length e in
    record { within = record { ordered = omega arith; inside = omega arith }; size = n; stands = Stands.enough h e f g }

-- Any other is moved and filled.
pub refilled_read : (w : List ℕ) (at held : ℕ) (m w' : List ℕ) (at' held' : ℕ) → at ≤ held → held ≤ length w → held - at < largest_item → m ≡ moved w at held
    → at' ≡ 0 → Filled m (held - at) w' held' → Refilled w at held w' at' held'
refilled_read w at held m w' at' held' o i h e f g =
    let l : length (drop at w) ≡ length w - at = length-drop at w in
    let n : length w' ≡ length w = g.size ∙ ap length e ∙ length-paste w 0 (drop at w) (held - at) (omega arith) (omega arith) in
    let y : held' ≤ length w' = g.inside in
    record { within = record { ordered = omega arith; inside = y }; size = n; stands = Stands.read_on h f (rw e at g) }

-- The bytes that were not judged yet are the first that are left after a refill.
pub unjudged_stay : (w : List ℕ) (at held : ℕ) (w' : List ℕ) (at' held' : ℕ) → Within w at held → Stands w at held w' at' held'
    → take (held - at) (drop at' w') ≡ stretch w at held
unjudged_stay w at held w' at' held' k (Stands.enough h e f g) = rw (e, f)
unjudged_stay w at held w' at' held' k (Stands.read_on h f g) =
    let o : at ≤ held = k.ordered in
    let j : held ≤ length w = k.inside in
    let l : length (drop at w) ≡ length w - at = length-drop at w in
    let z : held - at ≡ 0 + (held - at) = omega arith in
    ap (λ (n : ℕ). take (held - at) (drop n w')) f
    ∙ g.front
    ∙ ap (λ (n : ℕ). take n (moved w at held)) z
    ∙ take-paste w 0 (drop at w) (held - at) (omega arith) (omega arith)

-- More bytes are read, or none.
pub more_held : (w : List ℕ) (at held : ℕ) (w' : List ℕ) (at' held' : ℕ) → Within w at held → Stands w at held w' at' held' → held - at ≤ held' - at'
more_held w at held w' at' held' k (Stands.enough h e f g) = omega arith
more_held w at held w' at' held' k (Stands.read_on h f g) = let m : held - at ≤ held' = g.more in omega arith

-- The bytes that are left after a refill are those that were left, and what was read behind them.
pub read_behind : (w : List ℕ) (at held : ℕ) (w' : List ℕ) (at' held' : ℕ) → Within w at held → Stands w at held w' at' held'
    → stretch w' at' held' ≡ stretch w at held ++ drop (held - at) (stretch w' at' held')
read_behind w at held w' at' held' k s =
    let n = held - at in
    let m : n ≤ held' - at' = more_held w at held w' at' held' k s in
    sym (take-append-drop n (stretch w' at' held'))
    ∙ ap (λ (x : List ℕ). x ++ drop n (stretch w' at' held'))
    (take-take n (held' - at') (drop at' w') m ∙ unjudged_stay w at held w' at' held' k s)
