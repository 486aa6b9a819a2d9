-- The rows of one store by their ids: a row is the one that has its id, and a place, none or a row, the one that has its id or none.
-- Assumes nothing.
use Prim.Native.Nat.{ℕ, ◌≤◌}
use mathlib.Core.Path.{◌≡◌, sym, ap, ◌∙◌}
use mathlib.Core.Logic.{◌⊎◌, inl, inr, ⊎_elim}
use mathlib.Core.Option.{none, some}
use native.Mathlib.Omega.{arith}
use borrow.Author.Tests.{ne_eqb}
use Rattle.chunks.proofs.Finding.{place_own}
use Rattle.store.specs.Table.{Table, WellFormed, id_at}
use Rattle.store.specs.Paper.{Message}
use Rattle.chains.specs.Chain.{RowOf, Node}
use Rattle.logs.specs.Held.{chain_of}
use Rattle.standing.specs.Standing.{id_of}
use Rattle.standing.specs.Reading.{row_with, last_with}

-- None, or a row of the table.
abbrev pub Place : Table → ℕ → Type 0
Place t x = (x ≡ 0) ⊎ Message t x

-- A row of an author is a row.
pub row_message : (t : Table) (A x : ℕ) → RowOf (chain_of t) A x → Message t x
row_message t A x r = record { some = r.some; held = r.held }

-- None, or a row of an author, is a place.
pub node_place : (t : Table) (A x : ℕ) → Node (chain_of t) A x → Place t x
node_place t A x n = ⊎_elim inl (λ r. inr (row_message t A x r)) n

-- None has no id, and a row has its own.
pub id_none : (t : Table) (x : ℕ) → x ≡ 0 → id_of t x ≡ none
id_none t x e = rw e

pub id_some : (t : Table) (x : ℕ) → 1 ≤ x → id_of t x ≡ some (id_at t x)
id_some t x h = rw (ne_eqb x 0 (λ z. omega arith))

-- The row with a row's id is that row, and the last row with a place's id is that place.
pub row_own : (t : Table) → WellFormed t → (x : ℕ) → Message t x → row_with t (id_at t x) ≡ x
row_own t w x m = place_own t.ids t.counts.rows x w.ids_distinct m.some m.held

pub last_own : (t : Table) → WellFormed t → (x : ℕ) → Place t x → last_with t (id_of t x) ≡ x
last_own t w x (inl e) = ap (last_with t) (id_none t x e) ∙ sym e
last_own t w x (inr m) = ap (last_with t) (id_some t x m.some) ∙ row_own t w x m
