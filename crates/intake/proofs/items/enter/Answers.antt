-- `intake::items::enter` meets its contract.
-- Assumes nothing.
use mathlib.Core.Path.{◌≡◌, refl, sym, subst}
use mathlib.Core.List.{List}
use Prim.Native.Nat.{ℕ}
use Rattle.store.specs.declared.lent.Counts.{Counts}
use Rattle.admission.specs.declared.Admitted.{Admitted}
use Rattle.intake.specs.Judging.{EnteredTo}
use Rattle.intake.proofs.items.enter.Goals as goal

-- What holds of an answer holds of the one that it is.
entered_by : (ids rows : List ℕ) (counts : Counts) (f : List ℕ) (used : ℕ) (a b : Admitted) (f' : List ℕ) (used' : ℕ) → a ≡ b → EnteredTo ids rows counts f used b f' used' → EnteredTo ids rows counts f used a f' used'
entered_by ids rows counts f used a b f' used' e p = subst (λ (z : Admitted). EnteredTo ids rows counts f used z f' used') (sym e) p

pub append-requires : goal.append-requires
append-requires c =
    c.requires _ c.in-Done.is

pub returns-in-Done : goal.returns-in-Done
returns-in-Done c =
    let a = c.args in
    entered_by a.store.now.ids.now a.store.now.rows.now a.store.now.counts a.frontier.now a.used a.answer _ _ _ c.in-Done.is
    c.append.ensures

pub returns-in-Held : goal.returns-in-Held
returns-in-Held c =
    let a = c.args in
    entered_by a.store.now.ids.now a.store.now.rows.now a.store.now.counts a.frontier.now a.used a.answer _ _ _ c.in-Held.is (refl, refl)

pub returns-in-Refused : goal.returns-in-Refused
returns-in-Refused c =
    let a = c.args in
    entered_by a.store.now.ids.now a.store.now.rows.now a.store.now.counts a.frontier.now a.used a.answer _ _ _ c.in-Refused.is (refl, refl)
