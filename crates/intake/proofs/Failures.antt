-- What an error leaves: facts that hold whatever is answered, and the turns of an intake that an error ended.
-- Assumes nothing.
use Prim.Native.Nat.{ℕ, ◌+◌, ◌-◌, ◌<◌}
use mathlib.Core.Path.{◌≡◌, refl, subst}
use mathlib.Core.Bool.{Bool, true}
use mathlib.Core.List.{List}
use lib.ListN.{take, drop}
use Rattle.std.specs.Prelude.{Result, Ok, Err, OnErr}
use Rattle.cutting.specs.Cutting.{starts_whole, size_of, CutOff}
use Rattle.morning.specs.Intake.{Kept}
use Rattle.intake.specs.Window.{Within, Refilled, stretch}
use Rattle.intake.specs.Judging.{JudgedAndEntered, Untold}
use Rattle.intake.specs.Taking.{TakesFirst, Turned, TurnFailed, TakenIn, TakenSoFar}
use Rattle.intake.proofs.Laws.{read_behind}
use Rattle.intake.proofs.Turns.{taken_first, taken_more}

-- What holds in any case holds on an error.
pub on_err : {T E : Type 0} {P : Type 0} (r : Result T E) → P → OnErr r P
on_err (Ok x) p = tt
on_err (Err e) p = p

-- An item that is judged and entered, and not printed, is taken.
pub take_untold : (k : Kept) (f : List ℕ) (used : ℕ) (l : Kept) (f' w : List ℕ) (at held size : ℕ) (whole : Bool) → Within w at held → at < held
    → CutOff (stretch w at held) size whole
    → Untold (λ used'. JudgedAndEntered k (take (at + size - at) (drop at w)) f used l f' used')
    → Untold (λ used'. TakesFirst (stretch w at held) k f used (drop (size_of (stretch w at held)) (stretch w at held)) l f' used'
    (starts_whole (stretch w at held)))
take_untold k f used l f' w at held size whole v h c u =
    let t = (taken_first k f used l f' u.used w at held size whole v h c u.holds).1 in
    record { used = u.used; holds = record { some = t.some; judged = t.judged; behind = refl; goes = refl } }

-- A turn whose item was taken and not printed.
pub turn_unprinted : (k : Kept) (f : List ℕ) (used : ℕ) (l : Kept) (f' w : List ℕ) (at held : ℕ) (w' : List ℕ) (at' held' : ℕ) → Within w at held
    → Refilled w at held w' at' held'
    → Untold (λ used'. TakesFirst (stretch w' at' held') k f used (drop (size_of (stretch w' at' held')) (stretch w' at' held')) l f' used'
    (starts_whole (stretch w' at' held')))
    → TurnFailed (stretch w at held) k f used l f'
turn_unprinted k f used l f' w at held w' at' held' v r t =
    let s = stretch w' at' held' in
    TurnFailed.unprinted (drop (size_of s) s) (starts_whole s) (record {
      used = t.used;
      holds =
          Turned.took (drop (held - at) s)
          (subst (λ (x : List ℕ). TakesFirst x k f used (drop (size_of s) s) l f' t.used (starts_whole s)) (read_behind w at held w' at' held' v r.stands)
          t.holds);
    })

-- The intake that a turn ended by an error.
pub taken_so_far : (k₀ : Kept) (f₀ left : List ℕ) (k : Kept) (f : List ℕ) (used : ℕ) (before : Bool) (n : ℕ) (l : Kept) (f' : List ℕ)
    → before ≡ true → TakenIn k₀ f₀ left k f used before n → TurnFailed left k f used l f' → TakenSoFar k₀ f₀ l f'
taken_so_far k₀ f₀ left k f used before n l f' o t (TurnFailed.unread e g) =
    record { left = left; going = before; turns = n; so_far = record { used = used; holds = rw (e, g) t } }
taken_so_far k₀ f₀ left k f used before n l f' o t (TurnFailed.unprinted left' going u) =
    record {
      left = left';
      going = going;
      turns = n + 1;
      so_far = record { used = u.used; holds = taken_more k₀ f₀ left k f used before n left' l f' u.used going o t u.holds };
    }
