-- `block::sixteen_turns` meets its contract: turn by turn, by the constants and words that were cut out.
-- Assumes nothing.
use Rattle.std.proofs.Common.{◌≡◌, ◌+◌, add-zero, arith}
use Rattle.sha256.specs.Sha256.{rounds}
use Rattle.sha256.proofs.Steps.{rounds_more}
use Rattle.sha256.proofs.block.sixteen_turns.Goals as goal

pub returns : goal.returns
returns c s h t e f g =
    let a = c.args in
    let more = rounds_more s h a.k a.w t e f in
    let e0 : a.v ≡ rounds s h (t + 0) = rw add-zero g in
    let e1 = more 0 a.v c.turn-v1.result (omega arith) e0 c.turn-v1.ensures in
    let e2 = more 1 c.turn-v1.result c.turn-v2.result (omega arith) e1 c.turn-v2.ensures in
    let e3 = more 2 c.turn-v2.result c.turn-v3.result (omega arith) e2 c.turn-v3.ensures in
    let e4 = more 3 c.turn-v3.result c.turn-v4.result (omega arith) e3 c.turn-v4.ensures in
    let e5 = more 4 c.turn-v4.result c.turn-v5.result (omega arith) e4 c.turn-v5.ensures in
    let e6 = more 5 c.turn-v5.result c.turn-v6.result (omega arith) e5 c.turn-v6.ensures in
    let e7 = more 6 c.turn-v6.result c.turn-v7.result (omega arith) e6 c.turn-v7.ensures in
    let e8 = more 7 c.turn-v7.result c.turn-v8.result (omega arith) e7 c.turn-v8.ensures in
    let e9 = more 8 c.turn-v8.result c.turn-v9.result (omega arith) e8 c.turn-v9.ensures in
    let e10 = more 9 c.turn-v9.result c.turn-v10.result (omega arith) e9 c.turn-v10.ensures in
    let e11 = more 10 c.turn-v10.result c.turn-v11.result (omega arith) e10 c.turn-v11.ensures in
    let e12 = more 11 c.turn-v11.result c.turn-v12.result (omega arith) e11 c.turn-v12.ensures in
    let e13 = more 12 c.turn-v12.result c.turn-v13.result (omega arith) e12 c.turn-v13.ensures in
    let e14 = more 13 c.turn-v13.result c.turn-v14.result (omega arith) e13 c.turn-v14.ensures in
    let e15 = more 14 c.turn-v14.result c.turn-v15.result (omega arith) e14 c.turn-v15.ensures in
    more 15 c.turn-v15.result c.turn.result (omega arith) e15 c.turn.ensures
