-- `judging::deps::named_rows` meets its contract: the invariant says that none of the dependencies passed lacks, that their rows stand
-- at the front of the array, and that the rest of it is 0.
-- Assumes nothing.
use Prim.Native.Nat.{ℕ, ◌≤◌}
use mathlib.Core.Path.{◌≡◌}
use mathlib.Core.Bool.{false}
use lib.ListN.{length, take, get_or}
use Rattle.item.specs.Offsets.{count_limit}
use Rattle.judging.specs.Message.{lacks, named}
use Rattle.judging.proofs.deps.named_rows.Given as goal

abbrev pub invariant-loop-k : goal.invariant-loop-k
invariant-loop-k l =
    (length l.rows ≡ count_limit) × ((lacks l.ids l.n l.item l.f l.k ≡ false) × ((take l.k l.rows ≡ named l.ids l.n l.item l.f l.k) × ((i : ℕ) → l.k ≤ i → get_or l.rows i 0 ≡ 0)))
