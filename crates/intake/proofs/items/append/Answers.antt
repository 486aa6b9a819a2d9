-- `intake::items::append` meets its contract.
-- Assumes nothing.
use Rattle.std.specs.Prelude.{Result, Ok, Err}
use Prim.Native.Nat.{ℕ}
use mathlib.Core.Path.{◌≡◌, subst}
use mathlib.Core.List.{List}
use Rattle.answers.specs.declared.Refusal.{Refusal}
use Rattle.store.specs.declared.lent.Counts.{Counts}
use Rattle.frontiers.specs.Appending.{AppendsTo}
use Rattle.intake.specs.Judging.{MayAppend}
use Rattle.intake.proofs.items.append.Goals as goal

module _ (ids rows : List ℕ) (counts : Counts) (f : List ℕ) (used x : ℕ) (f' : List ℕ) (a : Result ℕ Refusal) where
  -- What is never refused was not refused,
  not_refused : (why : Refusal) → MayAppend ids rows counts f used x → AppendsTo ids rows counts f used x f' a → a ≡ Err why → ⊥
  not_refused why n p e = n.never_refused f' why (subst (AppendsTo ids rows counts f used x f') e p)

  -- and what was done is done.
  done : (n : ℕ) → AppendsTo ids rows counts f used x f' a → a ≡ Ok n → AppendsTo ids rows counts f used x f' (Ok n)
  done n p e = subst (AppendsTo ids rows counts f used x f') e p

pub returns-in_default : goal.returns-in_default
returns-in_default c =
    let a = c.args in
    absurd
    (not_refused a.store.now.ids.now a.store.now.rows.now a.store.now.counts a.frontier.now a.used a.row _ _ _ c.requires c.append_row-answer.ensures
    c.in_default.is)

pub returns : goal.returns
returns c =
    let a = c.args in
    done a.store.now.ids.now a.store.now.rows.now a.store.now.counts a.frontier.now a.used a.row _ _ _ c.append_row-answer.ensures c.in-Ok.is
