-- `frontiers::appending::append_row` meets its contract.
-- Assumes nothing.
use mathlib.Core.Path.{◌≡◌, refl, sym, ap, ◌∙◌}
use native.Mathlib.Omega.{arith}
use lib.ListN.{length, take}
use lib.Seq.{length-take-le}
use Rattle.logs.specs.Held.{chain}
use Rattle.frontiers.proofs.Appends.{copy_is}
use Rattle.frontiers.proofs.appending.append_row.Goals as goal
use Rattle.frontiers.proofs.appending.append_row.Goals.{After-copied-old}

-- The numbers in use are copied,
copy : (c : After-copied-old) → take c.args.used c.copied-old.result ≡ take c.args.used c.args.frontier.now
copy c = copy_is c.args.frontier.now c.args.used c.copied-old.result c.requires.within c.copied-old.ensures

-- and they are as many.
copy_size : (c : After-copied-old) → c.args.used ≡ length (take c.args.used c.copied-old.result)
copy_size c = sym (ap length (copy c) ∙ length-take-le c.args.used c.args.frontier.now c.requires.within)

pub slice_bounds-copied-end-2 : goal.slice_bounds-copied-end-2
slice_bounds-copied-end-2 c = sym (length-take-le c.args.used c.args.frontier.now c.requires.within)

pub copied-old-requires : goal.copied-old-requires
copied-old-requires c = rw (length-take-le c.args.used c.args.frontier.now c.requires.within) c.requires.few

pub slice_bounds-merged_length-end : goal.slice_bounds-merged_length-end
slice_bounds-merged_length-end c = copy_size ((goal.at.slice_bounds-merged_length-end c).After-copied-old)

pub returns-then-frontier-merged_length : goal.returns-then-frontier-merged_length
returns-then-frontier-merged_length c =
    let a = c.args in
    let l = c.merged_length.ensures (chain a.store.now.ids.now a.store.now.rows.now a.store.now.counts.rows) in
    let k = rw (copy ((goal.at.returns-then-frontier-merged_length c).After-copied-old), c.author_of.ensures) at l in
    (refl, (omega arith, refl))

pub slice_bounds-write_merged-end : goal.slice_bounds-write_merged-end
slice_bounds-write_merged-end c = copy_size ((goal.at.slice_bounds-write_merged-end c).After-copied-old)

pub write_merged-requires : goal.write_merged-requires
write_merged-requires c =
    let a = c.args in
    let p = c.requires in
    let l = c.merged_length.ensures (chain a.store.now.ids.now a.store.now.rows.now a.store.now.counts.rows) in
    let k = rw (copy ((goal.at.write_merged-requires c).After-copied-old), c.author_of.ensures) at l in
    rw (copy ((goal.at.write_merged-requires c).After-copied-old), c.author_of.ensures)
    (record { sound = p.sound; authors = p.authors; first = p.frontier; second = p.row }, omega arith)

pub returns : goal.returns
returns c =
    let a = c.args in
    let l = c.merged_length.ensures (chain a.store.now.ids.now a.store.now.rows.now a.store.now.counts.rows) in
    let k = rw (copy ((goal.at.returns c).After-copied-old), c.author_of.ensures) at l in
    (omega arith, rw (copy ((goal.at.returns c).After-copied-old), c.author_of.ensures) at c.write_merged.ensures)
