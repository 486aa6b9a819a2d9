-- `item::payload_of` meets its contract: the payload of a sound item lies inside it.
-- Assumes nothing.
use Rattle.item.proofs.Parts.{payload_sound, payload_refused}
use Rattle.item.proofs.Exact.{inside}
use mathlib.Core.Path.{sym, ◌∙◌}
use native.Mathlib.Omega.{arith}
use Rattle.item.proofs.payload_of.Goals as goal

pub returns-in_default : goal.returns-in_default
returns-in_default c = payload_refused _ _ (sym c.layout_of.ensures ∙ c.in_default.is)

pub overflow_add-end : goal.overflow_add-end
overflow_add-end c = let f = c.in-Ok.f in let e = sym c.layout_of.ensures ∙
    c.in-Ok.is in omega (arith, inside _ f e)

pub slice_bounds-result-end-2 : goal.slice_bounds-result-end-2
slice_bounds-result-end-2 c = let f = c.in-Ok.f in let e = sym c.layout_of.ensures ∙
    c.in-Ok.is in omega (arith, inside _ f e)

pub returns : goal.returns
returns c = let f = c.in-Ok.f in let e = sym c.layout_of.ensures ∙
    c.in-Ok.is in payload_sound _ f e
