-- `frontiers::checking::check_two` meets its contract: each refusal where its test failed.
-- Assumes nothing.
use Rattle.basics.specs.Bytes.{Bytes}
use Rattle.store.specs.Table.{Table, WellFormed}
use Rattle.store.specs.Clauses.{table_in}
use Rattle.logs.proofs.Tables.{table_sound}
use Rattle.frontiers.proofs.checking.check_two.Goals as goal
use Rattle.frontiers.proofs.checking.check_two.Goals.{Else-not-well_formed}

-- The lent parts hold a table, well formed where the test said so, and the ids are bytes.
abbrev table : Else-not-well_formed → Table
table c = table_in c.args.store.now

bytes : (c : Else-not-well_formed) → Bytes c.args.store.now.ids.now
bytes c i = c.args.store.now.bytes i

well_formed : (c : Else-not-well_formed) → WellFormed (table c)
well_formed c = c.well_formed-2.ensures.yes c.if-not-well_formed.false

pub frontier_valid-requires : goal.frontier_valid-requires
frontier_valid-requires c =
    let d = (goal.at.frontier_valid-requires c).Else-not-well_formed in
    table_sound (table d) (well_formed d) (bytes d)

pub frontier_valid-requires-2 : goal.frontier_valid-requires-2
frontier_valid-requires-2 c =
    let d = (goal.at.frontier_valid-requires-2 c).Else-not-well_formed in
    table_sound (table d) (well_formed d) (bytes d)
