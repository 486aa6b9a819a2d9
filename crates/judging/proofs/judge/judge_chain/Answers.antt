-- `judging::judge::judge_chain` meets its contract: each answer by the tests that led there, whatever the store's dependencies and branch counts are.
-- Assumes nothing.
use mathlib.Core.Path.{◌∙◌}
use Rattle.item.specs.Id.{id_of}
use Rattle.store.specs.Clauses.{table_of}
use Rattle.judging.proofs.Found.{look_missing, look_found, look_some}
use Rattle.judging.proofs.Judging.{chain_flag, chain_sign, chain_held, chain_new}
use Rattle.judging.proofs.judge.judge_chain.Goals as goal

pub returns-then-mark-gt1 : goal.returns-then-mark-gt1
returns-then-mark-gt1 c =
    let a = c.args in
    λ d n. chain_flag (table_of a.store.now.keys.now a.store.now.ids.now a.store.now.rows.now d n a.store.now.counts) a.item.now a.f c.if-mark-gt1.true

pub returns-then-mark-eq0 : goal.returns-then-mark-eq0
returns-then-mark-eq0 c =
    let a = c.args in
    λ d n. chain_sign (table_of a.store.now.keys.now a.store.now.ids.now a.store.now.rows.now d n a.store.now.counts) a.item.now a.f c.if-mark-gt1.false c.if-mark-eq0.true

pub returns-in-Some : goal.returns-in-Some
returns-in-Some c =
    let a = c.args in
    λ d n. chain_held (table_of a.store.now.keys.now a.store.now.ids.now a.store.now.rows.now d n a.store.now.counts) a.item.now a.f
    c.if-mark-gt1.false c.if-mark-eq0.false c.in-Some.r
    (look_found a.store.now.ids.now (id_of a.item.now) a.id.now a.store.now.counts.rows c.find_id.result c.in-Some.r c.in-Some.is c.find_id.ensures c.requires.0)
    (look_some a.store.now.ids.now (id_of a.item.now) a.id.now a.store.now.counts.rows c.find_id.result c.in-Some.r c.in-Some.is c.find_id.ensures)

pub returns : goal.returns
returns c =
    let a = c.args in
    λ d n. chain_new (table_of a.store.now.keys.now a.store.now.ids.now a.store.now.rows.now d n a.store.now.counts) a.item.now a.f
    c.if-mark-gt1.false c.if-mark-eq0.false
    (look_missing a.store.now.ids.now (id_of a.item.now) a.id.now a.store.now.counts.rows
    c.find_id.result c.in_default.is c.find_id.ensures c.requires.0)
    c.judge_index.result
    (c.judge_index.ensures ∙ rw c.author_of.ensures)
