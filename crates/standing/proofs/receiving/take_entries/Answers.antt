-- `standing::receiving::take_entries` meets its contract: keys, zero bytes, and then what was read decides.
-- Assumes nothing.
use mathlib.Core.Path.{refl}
use native.Mathlib.Omega.{arith}
use Rattle.std.proofs.Common.{rules}
use Rattle.standing.specs.Finding.{NotTaken}
use Rattle.standing.proofs.Authors.{numbers_few}
use Rattle.standing.proofs.Takes.{read_there, read_size, kept_takes}
use Rattle.standing.proofs.receiving.take_entries.Goals as goal

pub returns-then-not-keys_rise : goal.returns-then-not-keys_rise
returns-then-not-keys_rise c = (NotTaken.not_valid refl (λ m. c.keys_rise.ensures.no c.if-not-keys_rise.true m.rise), refl)

pub returns-then-not-zeros_kept : goal.returns-then-not-zeros_kept
returns-then-not-zeros_kept c = (NotTaken.not_valid refl (λ m. c.zeros_kept.ensures.no c.if-not-zeros_kept.true m.zeros), refl)

pub read_entries-used-requires : goal.read_entries-used-requires
read_entries-used-requires c = let p = c.requires in let l = p.authors_limit in
    (p.rows_limit, (l, (p.entries, search rules)))

pub slice_bounds-read-end : goal.slice_bounds-read-end
slice_bounds-read-end c =
    let r = c.read_entries-used.ensures in
    let f = numbers_few c.args.store.now.keys.now c.args.store.now.ids.now c.args.store.now.counts c.args.item.now c.args.n in
    let l = c.requires.authors_limit in
    omega (arith, r.grown, f, l)

pub slice_bounds-keep_frontier-end : goal.slice_bounds-keep_frontier-end
slice_bounds-keep_frontier-end c =
    let r = c.read_entries-used.ensures in
    read_size _ _ _ r.grown (read_there _ _ _ _ r)

pub keep_frontier-requires : goal.keep_frontier-requires
keep_frontier-requires c = c.requires.sound

pub returns : goal.returns
returns c =
    let a = c.args in
    kept_takes a.store.now.keys.now a.store.now.ids.now a.store.now.rows.now a.store.now.counts a.item.now a.n _ a.out.now
    c.keep_frontier.new.out c.keep_frontier.result
    (c.keys_rise.ensures.yes
    c.if-not-keys_rise.false)
    (c.zeros_kept.ensures.yes
    c.if-not-zeros_kept.false)
    (read_there _ _ _ _ c.read_entries-used.ensures) c.keep_frontier.ensures
