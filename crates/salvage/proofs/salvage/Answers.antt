-- `salvage::salvage` meets its contract: too many items, too little room, or all is salvaged.
-- Assumes nothing.
use mathlib.Core.Path.{refl, sym}
use mathlib.Core.Logic.{inl, inr, ⊎_elim}
use native.Mathlib.Omega.{arith}
use Rattle.rescue.specs.Salvaging.{too_many, no_room, salvaged}
use Rattle.salvage.proofs.salvage.Goals as goal

pub returns-then-items-gt-ITEM_LIMIT : goal.returns-then-items-gt-ITEM_LIMIT
returns-then-items-gt-ITEM_LIMIT c = too_many (omega (arith, c.count_items-items.ensures, c.if-items-gt-ITEM_LIMIT.true)) refl refl

pub returns-then-clean-stick : goal.returns-then-clean-stick
returns-then-clean-stick c = no_room (omega (arith, c.count_items-items.ensures, c.if-items-gt-ITEM_LIMIT.false)) (inl c.if-clean-stick.true) refl refl

pub returns-then-list-items : goal.returns-then-list-items
returns-then-list-items c = no_room (omega (arith, c.count_items-items.ensures, c.if-items-gt-ITEM_LIMIT.false)) (inr (omega (
  arith,
  c.count_items-items.ensures,
  c.if-list-items.true,
))) refl refl

pub returns : goal.returns
returns c =
    let e = c.count_items-items.ensures in
    let r = c.salvage_few.result in
    let s = c.salvage_few.ensures.same in
    salvaged (omega (
      arith,
      e,
      c.if-items-gt-ITEM_LIMIT.false,
    ))
    (λ t. ⊎_elim (λ h. omega (
      arith,
      h,
      c.if-clean-stick.false,
    )) (λ h. omega (
      arith,
      h,
      e,
      c.if-list-items.false,
    )) t) r.items r.bytes r.counts refl
    (rw (c.keys-1.given.1.1 (sym s.keys), c.ids-1.given.1.1 (sym s.ids), c.rows-1.given.1.1 (sym s.rows), c.deps-1.given.1.1 (sym s.deps), c.branches-1.given.1.1 (sym s.branches))
    c.salvage_few.ensures.kept)
