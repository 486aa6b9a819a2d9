-- `standing::sending::put_entries` meets its contract: the entry with the least key above the last one, again and again.
-- Assumes nothing.
use mathlib.Core.Path.{refl}
use native.Mathlib.Omega.{arith}
use Rattle.std.proofs.Common.{rules}
use Rattle.standing.proofs.Putting.{putting_start, putting_end, next_some, next_sendable, putting_more}
use Rattle.standing.proofs.sending.put_entries.Goals as goal

pub loop-k-init : goal.loop-k-init
loop-k-init c = (refl, (refl, putting_start c.args.keys.now c.args.ids.now c.args.f.now c.args.out.now c.requires.0))

pub overflow_sub-next : goal.overflow_sub-next
overflow_sub-next c =
    let l = c.loop-k in
    next_some c.args.keys.now c.args.ids.now c.args.f.now c.args.out.now c.requires.0 l.k l.last l.out l.invariant.1.1 _
    c.loop-k-test.true c.next_entry-next.ensures.0

pub read_entry-entry-requires : goal.read_entry-entry-requires
read_entry-entry-requires c =
    let h = overflow_sub-next c in
    let b = c.next_entry-next.ensures.1 in
    omega (arith, h, b)

pub put_entry-requires : goal.put_entry-requires
put_entry-requires c =
    let l = c.loop-k in
    let m = l.invariant.1.0 in (
      omega (arith, m, c.requires.1, c.loop-k-test.true),
      next_sendable c.args.keys.now c.args.ids.now c.args.f.now c.args.out.now c.requires.0 l.k l.last l.out l.invariant.1.1 _
          c.loop-k-test.true c.next_entry-next.ensures.0 _ c.read_entry-entry.ensures,
    )

pub loop-k-preserved : goal.loop-k-preserved
loop-k-preserved c =
    let l = c.loop-k in (
      refl,
      (
        search rules,
        putting_more c.args.keys.now c.args.ids.now c.args.f.now c.args.out.now c.requires.0 l.k l.last l.out l.invariant.1.1 _
            c.loop-k-test.true c.next_entry-next.ensures.0 _ _
            c.requires.1 c.read_entry-entry.ensures c.put_entry.ensures,
      ),
    )

pub returns : goal.returns
returns c =
    let l = c.loop-k in
    putting_end c.args.keys.now c.args.ids.now c.args.f.now c.args.out.now c.requires.0 l.k l.last l.out l.invariant.1.1
    c.loop-k-test.false
