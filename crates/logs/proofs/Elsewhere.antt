-- Two studios: the same messages of an author in two stores, in other rows, end in the same state by ids.
-- Assumes nothing.
use Rattle.std.specs.Prelude.{Ok}
use Prim.Native.Nat.{ℕ}
use mathlib.Core.Path.{◌≡◌}
use mathlib.Core.Logic.{◌↔◌}
use Rattle.basics.specs.Bytes.{Bytes}
use Rattle.store.specs.Table.{Table, WellFormed}
use Rattle.chains.specs.Elsewhere.{CarriesOn, Image, carried}
use Rattle.chains.proofs.Elsewhere.{same_elsewhere}
use Rattle.logs.specs.declared.LogState.{LogState}
use Rattle.logs.specs.Held.{chain_of}
use Rattle.logs.specs.States.{state_of}
use Rattle.logs.specs.Trees.{Calls, Ran, Proper, Messages}
use Rattle.logs.proofs.Tables.{chain_valid}
use Rattle.logs.proofs.Demand.{messages_closed, done_state}

-- Any calls of merge and append in one store, and any in the other that are given the same messages, end in states with one phase,
-- whose last and evidence rows are those of one and the same messages. `f` takes a message's row in `t` to its row in `u`, for the
-- messages of a closed set `S` that has all those given; the two stores may hold other messages of the author besides.
pub calls_elsewhere : (t u : Table) → WellFormed t → WellFormed u → Bytes t.ids → Bytes u.ids
    → (A B : ℕ) (S : ℕ → Type 0) (f : ℕ → ℕ) → CarriesOn (chain_of t) (chain_of u) A B S f
    → (c d : Calls) → Proper t A c → Proper u B d → ((x : ℕ) → Messages t c x → S x) → ((y : ℕ) → Messages u d y ↔ Image f (Messages t c) y)
    → (k l : LogState) → Ran t c (Ok k) → Ran u d (Ok l) → state_of l ≡ carried f (state_of k)
calls_elsewhere t u w z y q A B S f e c d g h i o k l m n =
    same_elsewhere (chain_of t) (chain_of u) (chain_valid t w y) (chain_valid u z q) A B S f e (Messages t c) (Messages u d) (messages_closed t w y A c g) i o
    (state_of k) (state_of l) (done_state t w y A c k g m) (done_state u z q B d l h n)
