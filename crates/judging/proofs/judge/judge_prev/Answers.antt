-- `judging::judge::judge_prev` meets its contract: no row of the previous id, or the tests on that row.
-- Assumes nothing.
use Rattle.judging.proofs.Judging.{prev_none, prev_some}
use Rattle.judging.proofs.Found.{look_missing, look_found, look_some}
use Rattle.item.specs.Layout.{previous_of}
use Rattle.chunks.specs.Lookup.{place_of}
use Prim.Native.Nat.{ℕ}
use Rattle.judging.proofs.judge.judge_prev.Goals as goal

pub returns-in_default : goal.returns-in_default
returns-in_default c =
    let a = c.args in
    prev_none a.rows.now a.author a.f (place_of a.ids.now a.n (previous_of a.item.now))
    (look_missing a.ids.now (previous_of a.item.now) c.previous_of.result.now a.n c.find_id.result
    c.in_default.is c.find_id.ensures c.previous_of.ensures)

pub returns : goal.returns
returns c =
    let a = c.args in
    let p : ℕ = c.in-Some.p in
    prev_some a.rows.now a.author a.f (place_of a.ids.now a.n (previous_of a.item.now)) p c.row_at.result
    c.judge_step.result
    (look_found a.ids.now (previous_of a.item.now) c.previous_of.result.now a.n c.find_id.result p
    c.in-Some.is c.find_id.ensures c.previous_of.ensures)
    (look_some a.ids.now (previous_of a.item.now) c.previous_of.result.now a.n c.find_id.result p c.in-Some.is c.find_id.ensures)
    c.row_at.ensures
    c.judge_step.ensures
