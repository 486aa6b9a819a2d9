-- A store some messages later.
-- Assumes nothing.
use Rattle.std.specs.Prelude.{◌≤◌}
use Rattle.basics.specs.Bytes.{Bytes}
use Rattle.store.specs.Table.{Table, WellFormed}
use Rattle.chains.specs.Merging.{Extends}
use Rattle.logs.specs.Held.{chain_of}

-- `u` is well formed as `t` is, and has the rows of `t` as they were and perhaps later ones, so no fewer authors. The ids are bytes, as
-- a lent part's are.
pub record Later (t u : Table) : Type 0 where
  pub before : WellFormed t
  pub after : WellFormed u
  pub first_ids : Bytes t.ids
  pub second_ids : Bytes u.ids
  pub extends : Extends (chain_of t) (chain_of u)
  pub authors : t.counts.authors ≤ u.counts.authors
