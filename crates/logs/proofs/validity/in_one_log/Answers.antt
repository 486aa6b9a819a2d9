-- `logs::validity::in_one_log` meets its contract: each test is a part of what two places of one log are.
-- Assumes nothing.
use Rattle.logs.proofs.Valids.{first_past, second_past, first_none, second_none, log_by_author}
use Rattle.logs.proofs.validity.in_one_log.Goals as goal

pub returns-then-count-first : goal.returns-then-count-first
returns-then-count-first c =
    let a = c.args in
    first_past a.rows.now a.count a.a a.b c.wide-first.result c.wide-first.ensures c.if-count-first.true

pub returns-then-count-second : goal.returns-then-count-second
returns-then-count-second c =
    let a = c.args in
    second_past a.rows.now a.count a.a a.b c.wide-second.result c.wide-second.ensures c.if-count-second.true

pub returns-then-a-eq0 : goal.returns-then-a-eq0
returns-then-a-eq0 c =
    let a = c.args in
    first_none a.rows.now a.count a.a a.b c.wide-first.result c.wide-second.result c.wide-first.ensures c.wide-second.ensures
    c.if-count-first.false
    c.if-count-second.false
    c.if-a-eq0.true

pub returns-then-b-eq0 : goal.returns-then-b-eq0
returns-then-b-eq0 c =
    let a = c.args in
    second_none a.rows.now a.count a.a a.b c.wide-first.result c.wide-second.result c.wide-first.ensures c.wide-second.ensures
    c.if-count-first.false
    c.if-count-second.false
    c.if-b-eq0.true

pub returns : goal.returns
returns c =
    let a = c.args in
    log_by_author a.rows.now a.count a.a a.b c.wide-first.result c.wide-second.result c.wide-first.ensures c.wide-second.ensures
    c.if-count-first.false
    c.if-count-second.false
    c.if-a-eq0.false
    c.if-b-eq0.false
    c.row_at-one.result
    c.row_at-other.result
    c.row_at-one.ensures
    c.row_at-other.ensures
