-- Document 02, request 10: "a previous row never follows the message that names it". So no test asks for it, and 13 is never given.
-- Assumes nothing.
use Prim.Native.Nat.{ℕ, ◌≤◌, ◌<◌}
use mathlib.Core.Path.{◌≡◌}
use mathlib.Core.Bool.{false}
use mathlib.Core.List.{List}
use native.Mathlib.Omega.{arith}
use lib.Dec.{leb}
use borrow.Author.Tests.{lt-leb}
use Rattle.basics.specs.Pick.{pick}
use Rattle.basics.proofs.Tests.{by_eqb}
use Rattle.chunks.specs.Lookup.{place_of}
use Rattle.chunks.proofs.Finding.{place_some}
use Rattle.store.specs.Table.{Table}
use Rattle.judging.specs.Message.{row_with, next_row}
use Rattle.judging.specs.declared.Verdict.{Verdict}

-- A place is none, or one of the first.
pub place_within : (s x : List ℕ) (n : ℕ) → place_of s n x ≤ n
place_within s x n = by_eqb (λ _. place_of s n x ≤ n) (place_of s n x) 0 (λ z. omega arith) (λ z. (place_some s x n z).within)

-- The row that an id names is before the row that a message would take.
pub named_older : (t : Table) (x : List ℕ) → row_with t x < next_row t
named_older t x = let l : row_with t x ≤ t.counts.rows = place_within t.ids x t.counts.rows in omega arith

-- So document 01's test for 13, "previous row is at or after the row the message would take", says no of every store and every item:
-- with it or without it, and whatever it would answer, the verdict is the same.
pub test_13_idle : (t : Table) (x : List ℕ) (u v : Verdict) → pick (leb (next_row t) (row_with t x)) u v ≡ v
test_13_idle t x u v = let e : leb (next_row t) (row_with t x) ≡ false = lt-leb _ _ (named_older t x) in rw e
