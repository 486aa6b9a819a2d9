-- `frontiers::merge_frontiers` meets its contract: 21 where the result is longer than the output, else the merge.
-- Assumes nothing.
use mathlib.Core.Path.{refl}
use native.Mathlib.Omega.{arith}
use Rattle.store.specs.Clauses.{table_in}
use Rattle.logs.specs.Held.{chain_of}
use Rattle.frontiers.specs.Calls.{NotMerged}
use Rattle.frontiers.proofs.Calls.{accepted_ready, written_merged, length_short}
use Rattle.frontiers.proofs.merge_frontiers.Goals as goal

pub returns-then-out-merged_length : goal.returns-then-out-merged_length
returns-then-out-merged_length c =
    let a = c.args in
    let m = c.merged_length in
    let h = c.in_ok-check_two.ensures in (
      NotMerged.no_room refl h
          (length_short (table_in a.store.now) a.f.now a.g.now a.store.now.bytes h a.out.now m.result m.ensures c.if-out-merged_length.true),
      refl,
    )

pub write_merged-requires : goal.write_merged-requires
write_merged-requires c =
    let a = c.args in
    let t = table_in a.store.now in
    let l = c.merged_length.ensures (chain_of t) in
    (accepted_ready t a.f.now a.g.now a.store.now.bytes c.in_ok-check_two.ensures, omega (arith, l, c.if-out-merged_length.false))

pub returns : goal.returns
returns c =
    let a = c.args in
    let t = table_in a.store.now in
    let h = c.in_ok-check_two.ensures in
    let l = c.merged_length.ensures (chain_of t) in (
      h,
      written_merged t a.f.now a.g.now a.store.now.bytes h a.out.now _ _ (omega (arith, l, c.if-out-merged_length.false)) c.write_merged.ensures,
    )
