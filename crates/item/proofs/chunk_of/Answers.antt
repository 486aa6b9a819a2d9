-- `item::chunk_of` meets its contract: the piece is whole, or cut by the end, or past it.
-- Assumes nothing.
use Rattle.basics.proofs.Chunks.{chunk_none, chunk_rest}
use native.Mathlib.Nat.{add-sub_cancel_left}
use Rattle.item.proofs.chunk_of.Goals as goal

pub returns-then-item-at : goal.returns-then-item-at
returns-then-item-at c = let a = c.args in chunk_none a.at a.item.now c.if-item-at.true

pub returns-then-item-at-lt32 : goal.returns-then-item-at-lt32
returns-then-item-at-lt32 c = let a = c.args in chunk_rest a.at a.item.now c.if-item-at-lt32.true

pub returns : goal.returns
returns c = simp add-sub_cancel_left
