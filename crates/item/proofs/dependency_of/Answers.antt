-- `item::dependency_of` meets its contract: a place past the item gives nothing, any other is a piece of it.
-- Assumes nothing.
use Prim.Native.Nat.{◌+◌, ◌*◌}
use Rattle.basics.proofs.Chunks.{chunk_none}
use native.Mathlib.Omega.{arith}
use Rattle.item.proofs.dependency_of.Goals as goal

pub returns-then-item-start : goal.returns-then-item-start
returns-then-item-start c = let a = c.args in chunk_none (a.f.dependencies + 32 * a.n) a.item.now (omega arith)

pub returns-then-item-start-2 : goal.returns-then-item-start-2
returns-then-item-start-2 c = let a = c.args in chunk_none (a.f.dependencies + 32 * a.n) a.item.now (omega arith)
