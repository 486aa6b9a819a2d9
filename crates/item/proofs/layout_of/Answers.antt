-- `item::layout_of` meets its contract: the tests before the body, and then those on the body.
-- Assumes nothing.
use Rattle.std.specs.Prelude.{Err}
use Rattle.std.proofs.lemmas.Result.{err_from_is_err_and}
use Prim.Native.Nat.{ℕ, ◌-◌}
use mathlib.Core.List.{List}
use mathlib.Core.Path.{◌≡◌, sym, ap, ◌∙◌}
use lib.Dec.{eqb, ltb}
use lib.ListN.{length}
use Rattle.item.specs.Offsets.{length_limit}
use Rattle.item.specs.Head.{head_tests}
use Rattle.item.specs.Layout.{length_of, kind_of, body_tests, layout_of}
use Rattle.item.proofs.Heads.{after_head, after_tests, head_inside}
use Rattle.item.proofs.layout_of.Goals as goal

-- The tests before the body, and what comes after them.
parted : (s : List ℕ) → layout_of s ≡ after_head (body_tests s) (head_tests length_limit 1 s)
unfolding layout_of head_tests
parted s = sym (after_tests (body_tests s) (ltb (length s) 4) (ltb length_limit (length_of s)) (ltb (length_of s) 2) (ltb (length s - 4) (length_of s))
    (ltb (length_of s) (length s - 4)) (eqb (kind_of s) 1))

pub body_layout-requires : goal.body_layout-requires
body_layout-requires c = head_inside _ _ _ (sym c.check_head.ensures ∙ c.in_ok-check_head.was)

pub returns-in_err-check_head : goal.returns-in_err-check_head
returns-in_err-check_head c =
    let s = c.args.item.now in
    let p = err_from_is_err_and c.from_residual.result c.from_residual.ensures.1 in
    p.1 ∙ (ap Err p.2 ∙ (ap (after_head (body_tests s)) (sym c.in_err-check_head.was ∙ c.check_head.ensures) ∙ sym (parted s)))

pub returns : goal.returns
returns c = let s = c.args.item.now in c.body_layout.ensures ∙ (ap (after_head (body_tests s)) (sym c.in_ok-check_head.was ∙ c.check_head.ensures) ∙ sym (parted s))
