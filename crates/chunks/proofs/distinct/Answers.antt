-- `chunks::distinct` meets its contract: in the buckets passed no piece is found twice.
-- Assumes nothing.
use Rattle.std.proofs.Common.{rules}
use mathlib.Core.Path.{◌≡◌, refl}
use native.Mathlib.Omega.{arith}
use Rattle.basics.proofs.Decisions.{decided_yes, decided_no}
use Rattle.chunks.proofs.Filing.{filed_none, once_more, twice_broken, once_distinct}
use Rattle.chunks.proofs.distinct.Goals as goal

pub file_pieces-requires : goal.file_pieces-requires
file_pieces-requires c = (filed_none c.args.s.now 256 1025 refl refl, search rules)

pub loop-head-init : goal.loop-head-init
loop-head-init c = (search rules, (c.file_pieces.ensures, λ b h. absurd (omega arith)))

pub search_twice-requires : goal.search_twice-requires
search_twice-requires c =
    let l = c.loop-head in
    let f = l.invariant.1.0 in
    (f.falls, omega (arith, f.low l.head-index))

pub returns-in-Present : goal.returns-in-Present
returns-in-Present c =
    let h = c.file_pieces.new in
    let a = c.args in
    decided_no
    (twice_broken a.s.now h.heads h.next c.loop-head.head-index c.search_twice.result c.search_twice.ensures a.n c.loop-head.invariant.1.0
    c.in-Present.is)

pub returns-in-TooLong : goal.returns-in-TooLong
returns-in-TooLong c = c.by_pairs-in-TooLong.ensures

pub loop-head-preserved : goal.loop-head-preserved
loop-head-preserved c =
    let h = c.file_pieces.new in
    let a = c.args in (
      search rules,
      (
        c.loop-head.invariant.1.0,
        once_more a.s.now h.heads h.next c.loop-head.head-index c.search_twice.result c.search_twice.ensures c.loop-head.invariant.1.1
            c.in-Absent.is,
      ),
    )

pub returns : goal.returns
returns c =
    let l = c.loop-head in
    let h = c.file_pieces.new in
    let a = c.args in
    let e : l.head-index ≡ 256 = omega arith in
    decided_yes (once_distinct a.s.now h.heads h.next a.n l.invariant.1.0 (rw e at l.invariant.1.1))
