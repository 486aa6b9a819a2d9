-- The numbers of a row have two bytes each, so that one may be added to them.
-- Assumes nothing.
use Prim.Native.Nat.{ℕ, ◌+◌, ◌-◌, ◌*◌, ◌/◌, ◌<◌}
use mathlib.Core.List.{List}
use native.Mathlib.Omega.{arith}
use lib.ListN.{length, get_or}
use lib.Dec.{eqb, ltb}
use Rattle.basics.proofs.Tests.{by_pick}
use Rattle.store.specs.declared.Row.{Row}
use Rattle.store.specs.Limits.{row_width}
use Rattle.store.specs.Table.{no_row, row_at}

-- Four numbers of two bytes.
pub record TwoBytes (row : Row) : Type 0 where
  pub author : row.author < 65536
  pub prev : row.prev < 65536
  pub index : row.index < 65536
  pub deps : row.deps < 65536

-- The numbers of a row have two bytes each.
pub row_two_bytes : (rows : List ℕ) → ((i : ℕ) → get_or rows i 0 < 65536) → (r : ℕ) → TwoBytes (row_at rows r)
unfolding row_at
row_two_bytes rows p r =
    by_pick TwoBytes (eqb r 0) no_row _ (λ _. none)
    (λ _. by_pick TwoBytes (ltb (length rows / row_width) r) no_row _ (λ _. none)
    (λ _. record {
      author = p ((r - 1) * row_width);
      prev = p ((r - 1) * row_width + 1);
      index = p ((r - 1) * row_width + 2);
      deps = p ((r - 1) * row_width + 3);
    }))
  where
    none : TwoBytes no_row
    none = record { author = omega arith; prev = omega arith; index = omega arith; deps = omega arith }
