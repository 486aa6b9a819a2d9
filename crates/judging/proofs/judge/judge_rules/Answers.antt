-- `judging::judge::judge_rules` meets its contract: the tests 14 and 15 decide on a row that 6 to 12 give; every other verdict stands.
-- Assumes nothing.
use Rattle.store.specs.Clauses.{table_of}
use mathlib.Core.Path.{sym, ◌∙◌}
use Rattle.judging.specs.Verdict.{chain_tests}
use Rattle.judging.proofs.Judging.{rules_fits, rules_holds, rules_breaks}
use Rattle.judging.proofs.judge.judge_rules.Goals as goal

pub returns-in-Fits : goal.returns-in-Fits
returns-in-Fits c =
    let a = c.args in
    λ d n. rules_fits (table_of a.store.now.keys.now a.store.now.ids.now a.store.now.rows.now d n a.store.now.counts) a.item.now a.f
    (chain_tests (table_of a.store.now.keys.now a.store.now.ids.now a.store.now.rows.now d n a.store.now.counts) a.item.now a.f) c.in-Fits.row
    (sym (c.judge_chain-chain.ensures d n) ∙ c.in-Fits.is) c.judge_deps.result c.judge_deps.ensures

pub returns-in-Holds : goal.returns-in-Holds
returns-in-Holds c =
    let a = c.args in
    λ d n. rules_holds (table_of a.store.now.keys.now a.store.now.ids.now a.store.now.rows.now d n a.store.now.counts) a.item.now a.f
    (chain_tests (table_of a.store.now.keys.now a.store.now.ids.now a.store.now.rows.now d n a.store.now.counts) a.item.now a.f) c.in-Holds.r
    (sym (c.judge_chain-chain.ensures d n) ∙ c.in-Holds.is)

pub returns-in-Breaks : goal.returns-in-Breaks
returns-in-Breaks c =
    let a = c.args in
    λ d n. rules_breaks (table_of a.store.now.keys.now a.store.now.ids.now a.store.now.rows.now d n a.store.now.counts) a.item.now a.f
    (chain_tests (table_of a.store.now.keys.now a.store.now.ids.now a.store.now.rows.now d n a.store.now.counts) a.item.now a.f) c.in-Breaks.r
    (sym (c.judge_chain-chain.ensures d n) ∙ c.in-Breaks.is)
