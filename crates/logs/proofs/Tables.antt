-- A well_formed table whose ids are bytes is a valid store of chains.
-- Assumes nothing.
use Prim.Native.Nat.{ℕ, ◌≤◌}
use mathlib.Core.Path.{◌∙◌}
use mathlib.Core.Logic.{inl, inr, ⊎_elim}
use native.Mathlib.Omega.{arith}
use native.Mathlib.Nat.{eq-zero-or-pos}
use Rattle.basics.specs.Bytes.{Bytes}
use Rattle.store.specs.Table.{Table, WellFormed, prev_of}
use Rattle.store.proofs.Facts.{prev_older, prev_own, index_counted, id_number}
use Rattle.chains.specs.Chain.{RowOf, Node, Valid}
use Rattle.logs.specs.Held.{chain_of, Sound}
use Rattle.logs.proofs.Links.{none_prev, none_index}

module _ (t : Table) (w : WellFormed t) where
  -- The previous row is none or the author's.
  own : (A x : ℕ) → RowOf (chain_of t) A x → Node (chain_of t) A (prev_of t x)
  own A x r = ⊎_elim inl some (eq-zero-or-pos (prev_of t x))
    where
      some : 1 ≤ prev_of t x → Node (chain_of t) A (prev_of t x)
      some p =
          ⊎_elim inl (λ e. inr (record { some = p; held = omega (arith, prev_older t w x r.held r.some, r.held); by = e ∙ r.by }))
          (prev_own t w x r.held r.some)

  -- A well_formed table is a valid store of chains.
  pub chain_valid : Bytes t.ids → Valid (chain_of t)
  chain_valid b =
      record {
        none_prev = none_prev t.rows;
        none_index = none_index t.rows;
        older = λ A x r. prev_older t w x r.held r.some;
        own = own;
        counted = λ A x r. omega (arith, index_counted t w x r.held r.some);
        distinct = λ A B x y r q. id_number t w b x y r.some r.held q.some q.held;
      }

  -- And all that the calls on states need.
  pub table_sound : Bytes t.ids → Sound t.ids t.rows t.counts.rows
  table_sound b = record { valid = chain_valid b; held = w.ids_held }
