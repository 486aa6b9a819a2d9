-- `frontiers::append_entry` meets its contract.
-- Assumes nothing.
use mathlib.Core.Path.{refl, sym}
use native.Mathlib.Omega.{arith}
use lib.Seq.{length-take-le}
use Rattle.basics.specs.Bytes.{Bytes}
use Rattle.store.specs.Table.{Table, WellFormed}
use Rattle.store.specs.Clauses.{table_in}
use Rattle.logs.proofs.Tables.{table_sound}
use Rattle.frontiers.specs.Appending.{NotAppended, HoldsFrontier}
use Rattle.frontiers.proofs.Appends.{append_ready, append_answers}
use Rattle.frontiers.proofs.append_entry.Goals as goal
use Rattle.frontiers.proofs.append_entry.Goals.{Else-store-wide, Else-not-frontier_valid, Else-not-well_formed}

-- The lent parts hold a table,
abbrev table : Else-not-well_formed → Table
table c = table_in c.args.store.now

-- well formed where the test said so,
well_formed : (c : Else-not-well_formed) → WellFormed (table c)
well_formed c = c.well_formed-2.ensures.yes c.if-not-well_formed.false

bytes : (c : Else-not-well_formed) → Bytes c.args.store.now.ids.now
bytes c i = c.args.store.now.bytes i

-- with a valid frontier in the list from where the test said so,
abbrev frontier_table : Else-not-frontier_valid → Table
frontier_table c = table_in c.args.store.now

holds : (c : Else-not-frontier_valid) → HoldsFrontier (frontier_table c) c.args.frontier.now c.args.used
holds c = record { within = c.if-frontier-used.false; valid = c.frontier_valid.ensures.yes c.if-not-frontier_valid.false }

pub returns-then-not-well_formed : goal.returns-then-not-well_formed
returns-then-not-well_formed c = (NotAppended.not_well_formed refl (c.well_formed-2.ensures.no c.if-not-well_formed.true), refl)

pub returns-then-frontier-used : goal.returns-then-frontier-used
returns-then-frontier-used c =
    let d = (goal.at.returns-then-frontier-used c).Else-not-well_formed in
    (NotAppended.not_valid refl (well_formed d) (λ h. let k = h.within in omega arith), refl)

pub slice_bounds-frontier_valid-end-2 : goal.slice_bounds-frontier_valid-end-2
slice_bounds-frontier_valid-end-2 c = sym (length-take-le c.args.used c.args.frontier.now c.if-frontier-used.false)

pub frontier_valid-requires : goal.frontier_valid-requires
frontier_valid-requires c =
    let d = (goal.at.frontier_valid-requires c).Else-not-well_formed in
    table_sound (table d) (well_formed d) (bytes d)

pub returns-then-not-frontier_valid : goal.returns-then-not-frontier_valid
returns-then-not-frontier_valid c =
    let d = (goal.at.returns-then-not-frontier_valid c).Else-not-well_formed in
    (NotAppended.not_valid refl (well_formed d) (λ h. c.frontier_valid.ensures.no c.if-not-frontier_valid.true h.valid), refl)

pub returns-then-row-eq0 : goal.returns-then-row-eq0
returns-then-row-eq0 c =
    let d = (goal.at.returns-then-row-eq0 c).Else-not-well_formed in
    let e = (goal.at.returns-then-row-eq0 c).Else-not-frontier_valid in
    (NotAppended.not_a_row refl (well_formed d) (holds e) (λ h. let k = h.some in omega arith), refl)

pub returns-then-store-wide : goal.returns-then-store-wide
returns-then-store-wide c =
    let d = (goal.at.returns-then-store-wide c).Else-not-well_formed in
    let e = (goal.at.returns-then-store-wide c).Else-not-frontier_valid in
    (NotAppended.not_a_row refl (well_formed d) (holds e) (λ h. let k = h.counted in omega arith), refl)

pub append_row-requires : goal.append_row-requires
append_row-requires c =
    let a = c.args in
    let d = (goal.at.append_row-requires c).Else-not-well_formed in
    let e = (goal.at.append_row-requires c).Else-not-frontier_valid in
    append_ready (table d) (bytes d) (well_formed d) a.frontier.now a.used a.row
    record { well_formed = well_formed d; frontier = holds e; row = record { some = omega arith; counted = omega arith } }

pub returns : goal.returns
returns c =
    let a = c.args in
    let d = (goal.at.returns c).Else-not-well_formed in
    let e = (goal.at.returns c).Else-not-frontier_valid in
    append_answers (table d) (bytes d) (well_formed d) a.frontier.now a.used a.row
    record { well_formed = well_formed d; frontier = holds e; row = record { some = omega arith; counted = omega arith } } _ c.append_row.result
    c.append_row.ensures
