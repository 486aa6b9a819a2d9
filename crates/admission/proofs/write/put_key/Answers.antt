-- `admission::write::put_key` meets its contract: the key is put exactly where the author is new.
-- Assumes nothing.
use borrow.Author.Tests.{lt-ltb, le-ltb}
use native.Mathlib.Omega.{arith}
use Rattle.admission.proofs.write.put_key.Goals as goal

pub put-requires : goal.put-requires
put-requires c = (omega arith, (c.requires.1.0 c.if-authors-author.true, c.requires.1.1))

pub returns-then-authors-author : goal.returns-then-authors-author
returns-then-authors-author c = rw (lt-ltb _ _ c.if-authors-author.true) c.put.ensures

pub returns-else-authors-author : goal.returns-else-authors-author
returns-else-authors-author c = rw (le-ltb _ _ c.if-authors-author.false)
