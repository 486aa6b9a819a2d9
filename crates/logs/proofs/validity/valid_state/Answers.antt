-- `logs::validity::valid_state` meets its contract: each test is a part of what a valid state is.
-- Assumes nothing.
use Rattle.logs.proofs.Valids.{no_author, past_authors, no_last, growing_is_valid, forked_by_evidence}
use Rattle.logs.proofs.validity.valid_state.Goals as goal

pub returns-then-author-eq0 : goal.returns-then-author-eq0
returns-then-author-eq0 c =
    let a = c.args in
    no_author a.store.now.ids.now a.store.now.rows.now a.store.now.counts a.state c.requires c.if-author-eq0.true

pub returns-then-counts-wide : goal.returns-then-counts-wide
returns-then-counts-wide c =
    let a = c.args in
    let w = c.wide in
    past_authors a.store.now.ids.now a.store.now.rows.now a.store.now.counts a.state c.requires w.result w.ensures c.if-counts-wide.true

pub returns-then-not-is_none_or_row : goal.returns-then-not-is_none_or_row
returns-then-not-is_none_or_row c =
    let a = c.args in
    let t = c.is_none_or_row in
    no_last a.store.now.ids.now a.store.now.rows.now a.store.now.counts a.state c.requires t.result t.ensures c.if-not-is_none_or_row.true

pub returns-in-Growing : goal.returns-in-Growing
returns-in-Growing c =
    let a = c.args in
    let t = c.is_none_or_row in
    growing_is_valid a.store.now.ids.now a.store.now.rows.now a.store.now.counts a.state c.requires c.wide.result c.if-author-eq0.false c.wide.ensures
    c.if-counts-wide.false
    ((t.ensures a.store.now.ids.now).yes c.if-not-is_none_or_row.false)
    c.in-Growing.is

pub returns-in-Forked : goal.returns-in-Forked
returns-in-Forked c =
    let a = c.args in
    let t = c.is_none_or_row in
    let f = c.in-Forked in
    forked_by_evidence a.store.now.ids.now a.store.now.rows.now a.store.now.counts a.state c.requires c.wide.result c.if-author-eq0.false c.wide.ensures
    c.if-counts-wide.false
    ((t.ensures a.store.now.ids.now).yes c.if-not-is_none_or_row.false)
    f.low
    f.high
    c.is_evidence.result
    f.is
    c.is_evidence.ensures
