-- `store::dep_rules::one_per_author` meets its contract: the rest passed has one row an author, and its authors are marked.
-- Assumes nothing.
use Prim.Native.Nat.{◌+◌, ◌-◌}
use mathlib.Core.Path.{◌≡◌, refl, sym, ap, ◌∙◌}
use native.Mathlib.Omega.{arith}
use lib.ListN.{length, drop, get_or, length-set}
use Rattle.store.specs.declared.Row.{Row}
use Rattle.store.specs.Table.{has_author}
use Rattle.store.proofs.Depends.{author_in}
use Rattle.store.proofs.Turns.{has_end, one_more, one_fails, one_end, one_of_rest, has_rest, marked_more}
use Rattle.store.proofs.dep_rules.one_per_author.Goals as goal
use Rattle.store.proofs.dep_rules.one_per_author.Goals.{After-has_marked}

pub loop-i-init : goal.loop-i-init
loop-i-init c =
    let a = c.args in (
      refl,
      (
        one_end a.rows.now a.ds.now (length a.ds.now) (omega arith),
        λ x z. has_end a.rows.now a.ds.now (length a.ds.now) x (omega arith),
      ),
    )

-- Whether the author of the row before the rest comes there again.
again : (c : After-has_marked) → let a = c.args in has_author a.rows.now (author_in a.rows.now (get_or a.ds.now (c.loop-i.i - 1) 0)) (drop (c.loop-i.i - 1 + 1) a.ds.now) ≡ c.has_marked.result
again c =
    let a = c.args in
    has_rest a.rows.now a.ds.now (c.loop-i.i - 1) c.wide.result c.row_at-row.result c.has_marked.result
    c.wide.ensures c.row_at-row.ensures c.has_marked.ensures

pub returns-then-has_marked : goal.returns-then-has_marked
returns-then-has_marked c =
    let a = c.args in
    sym
    (one_of_rest a.rows.now a.ds.now (c.loop-i.i - 1)
    (one_fails a.rows.now a.ds.now (c.loop-i.i - 1) (omega arith) (again ((goal.at.returns-then-has_marked c).After-has_marked) ∙ c.if-has_marked.true)))

pub loop-i-preserved : goal.loop-i-preserved
loop-i-preserved c =
    let a = c.args in
    let n : c.loop-i.i - 1 + 1 ≡ c.loop-i.i = omega arith in
    let e : c.row_at-row.result.author ≡ author_in a.rows.now (get_or a.ds.now (c.loop-i.i - 1) 0) =
    ap (λ (x : Row). x.author) c.row_at-row.ensures ∙ ap (author_in a.rows.now) c.wide.ensures
    in (
      simp length-set c.loop-i.invariant.0,
      (
        one_more a.rows.now a.ds.now (c.loop-i.i - 1) (omega arith) (again ((goal.at.loop-i-preserved c).After-has_marked) ∙ c.if-has_marked.false) ∙ rw n c.loop-i.invariant.1.0,
        marked_more a.rows.now a.ds.now c.loop-i.marks (c.loop-i.i - 1) c.row_at-row.result.author (omega arith) c.loop-i.invariant.0 e
            (rw n c.loop-i.invariant.1.1),
      ),
    )
