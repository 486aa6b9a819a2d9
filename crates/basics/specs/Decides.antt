-- A yes or no that is right both ways.
-- Assumes nothing.
use Rattle.std.specs.Prelude.{◌≡◌, Bool, true, false}

-- `r` decides `P`: yes only where `P` holds, and no only where it does not.
pub record Decides (P : Type 0) (r : Bool) : Type 0 where
  pub yes : r ≡ true → P
  pub no : r ≡ false → P → ⊥
