-- `intake::all_items` meets its contract.
-- Assumes nothing.
use native.Mathlib.Omega.{arith}
use Rattle.std.proofs.Common.{rules}
use Rattle.morning.specs.Intake.{kept_by}
use Rattle.intake.specs.Taking.{TakenSoFar}
use Rattle.intake.specs.Window.{stretch}
use Rattle.intake.proofs.Keeping.{starts_in_order}
use Rattle.intake.proofs.Turns.{taken_none, taken_more}
use Rattle.intake.proofs.Failures.{on_err, taken_so_far}
use Rattle.intake.proofs.all_items.Goals as goal

pub loop-number-init : goal.loop-number-init
loop-number-init g c =
    let a = c.args in
    rw c.start-stand.ensures (
      (search rules),
      (
        record { ordered = omega arith; inside = omega arith },
        (
          omega arith,
          taken_none _ _ a.window.now
              (starts_in_order a.store.now a.origins.now a.frontier.now c.requires.nothing_counted c.requires.ids_are_bytes c.requires.origins_value
              c.requires.entry_width_in_bounds),
        ),
      ),
    )

pub returns-in_err-stand-clause-err : goal.returns-in_err-stand-clause-err
returns-in_err-stand-clause-err g c =
    let a = c.args in
    let l = c.loop-number in
    let n = c.turn.new in
    let k₀ = kept_by a.store.now a.origins.now in
    let k = kept_by l.store l.origins in
    let m = kept_by n.store n.origins in
    let u : TakenSoFar k₀ a.frontier.now m n.frontier =
    taken_so_far k₀ a.frontier.now (stretch l.window l.stand.span.at l.stand.span.held) k l.frontier l.stand.used l.stand.going l.number m n.frontier
    c.if-stand.true l.invariant.1.1.1 c.in_err-stand.ensures.err in
    on_err c.from_residual.result u

pub loop-number-preserved : goal.loop-number-preserved
loop-number-preserved g c =
    let t = c.in_ok-stand.ensures.ok in
    let l = c.loop-number in (
      (search rules),
      (t.within, (omega (arith, c.loop-number-test.true), taken_more _ _ _ _ _ _ l.stand.going l.number _ _ _ _ _ c.if-stand.true l.invariant.1.1.1 t.turned)),
    )
