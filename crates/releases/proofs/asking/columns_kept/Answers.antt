-- `releases::asking::columns_kept` meets its contract.
-- Assumes nothing.
use native.Mathlib.Omega.{arith}
use Rattle.basics.proofs.Decisions.{decided_no}
use Rattle.releases.proofs.asking.columns_kept.Goals as goal

pub returns-then-components-n : goal.returns-then-components-n
returns-then-components-n c = decided_no (λ k. omega (arith, k.components, c.if-components-n.true))

pub returns-then-expanded-n : goal.returns-then-expanded-n
returns-then-expanded-n c = decided_no (λ k. omega (arith, k.expanded, c.if-expanded-n.true))

pub returns-then-owners-lt-COMPONENTS : goal.returns-then-owners-lt-COMPONENTS
returns-then-owners-lt-COMPONENTS c = decided_no (λ k. omega (arith, k.table, c.if-owners-lt-COMPONENTS.true))

pub returns : goal.returns
returns c =
    record {
      yes = λ e.
          record {
            components = omega (arith, c.if-components-n.false);
            expanded = omega (arith, c.if-expanded-n.false);
            table = omega (arith, c.if-owners-lt-COMPONENTS.false);
            marked = c.is_marked.ensures.yes e;
          };
      no = λ e k. c.is_marked.ensures.no e k.marked;
    }
