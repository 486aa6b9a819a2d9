-- A store some messages later: what was valid stays valid, and what a call did stays what it does.
-- Assumes nothing.
use Prim.Native.Nat.{ℕ}
use mathlib.Core.Path.{sym, ◌∙◌}
use mathlib.Core.Logic.{inr}
use mathlib.Core.Bool.{Bool}
use native.Mathlib.Omega.{arith}
use Rattle.basics.proofs.Decisions.{decides_same}
use Rattle.store.specs.Table.{Table}
use Rattle.chains.specs.Chain.{Valid, RowOf, growing, ValidState, growing_valid}
use Rattle.chains.proofs.Later.{row_on, prefix_on, leads_on, valid_on, below_on, merge_on}
use Rattle.logs.specs.declared.LogState.{LogState}
use Rattle.logs.specs.declared.Nearest.{Nearest}
use Rattle.logs.specs.Held.{chain_of}
use Rattle.logs.specs.Later.{Later}
use Rattle.logs.specs.States.{state_of}
use Rattle.logs.specs.Refusals.{ValidIn, OneLog}
use Rattle.logs.specs.Calls.{PrefixDone, AppendDone, TwoStates, MergeDone, OrderDone}
use Rattle.logs.proofs.Tables.{chain_valid}
use Rattle.logs.proofs.Dones.{one_log_places}

module _ (t u : Table) (g : Later t u) where
  -- Both are valid stores of chains.
  valid_first : Valid (chain_of t)
  valid_first = chain_valid t g.before g.first_ids

  valid_second : Valid (chain_of u)
  valid_second = chain_valid u g.after g.second_ids

  -- A row of an author stays one, and a valid state stays valid.
  pub row_stays : (A x : ℕ) → RowOf (chain_of t) A x → RowOf (chain_of u) A x
  row_stays A x r = row_on (chain_of t) (chain_of u) valid_first valid_second g.extends A x r

  pub state_stays : (k : LogState) → ValidIn t k → ValidIn u k
  state_stays k v =
      record {
        some = v.some;
        exists = omega (arith, v.exists, g.authors);
        state = valid_on (chain_of t) (chain_of u) valid_first valid_second g.extends k.author v.state;
      }

  -- Two places of one log stay so.
  pub log_stays : (a b : ℕ) → OneLog (chain_of t) a b → OneLog (chain_of u) a b
  log_stays a b o =
      let e = g.extends in
      let m = e.more in
      let h = o.first in
      let k = o.second in
      record { first = omega arith; second = omega arith; own = λ p q. e.author b k ∙ o.own p q ∙ sym (e.author a h) }

  -- Two valid states of one author stay so.
  pub two_stay : (k l : LogState) → TwoStates t k l → TwoStates u k l
  two_stay k l a = record { well_formed = g.after; first = state_stays k a.first; second = state_stays l a.second; one = a.one }

  -- What is done stays done.
  pub prefix_stays : (a b : ℕ) (r : Nearest) → PrefixDone t a b r → PrefixDone u a b r
  prefix_stays a b r d =
      let o = one_log_places (chain_of t) a b d.log in
      record {
        well_formed = g.after;
        log = log_stays a b d.log;
        prefix = (prefix_on (chain_of t) (chain_of u) valid_first valid_second g.extends o.author a b r.row o.first o.second).0 d.prefix;
        first = leads_on (chain_of t) (chain_of u) valid_first valid_second g.extends o.author r.row a r.first o.first d.first;
        second = leads_on (chain_of t) (chain_of u) valid_first valid_second g.extends o.author r.row b r.second o.second d.second;
      }

  pub append_stays : (k : LogState) (x : ℕ) (m : LogState) → AppendDone t k x m → AppendDone u k x m
  append_stays k x m d =
      record {
        well_formed = g.after;
        state = state_stays k d.state;
        row = row_stays k.author x d.row;
        author = d.author;
        merged =
            (merge_on (chain_of t) (chain_of u) valid_first valid_second g.extends k.author (state_of k) (growing x) (state_of m) d.state.state
            (growing_valid (inr d.row))).0 d.merged;
      }

  pub merge_stays : (k l m : LogState) → MergeDone t k l m → MergeDone u k l m
  merge_stays k l m d =
      let a = d.accepted in
      let v : ValidState (chain_of t) k.author (state_of l) = rw a.one a.second.state in
      record {
        accepted = two_stay k l a;
        author = d.author;
        merged =
            (merge_on (chain_of t) (chain_of u) valid_first valid_second g.extends k.author (state_of k) (state_of l) (state_of m) a.first.state
            v).0 d.merged;
      }

  pub order_stays : (k l : LogState) (b : Bool) → OrderDone t k l b → OrderDone u k l b
  order_stays k l b d =
      let a = d.accepted in
      let v : ValidState (chain_of t) k.author (state_of l) = rw a.one a.second.state in
      let e = below_on (chain_of t) (chain_of u) valid_first valid_second g.extends k.author a.first.state v in
      record { accepted = two_stay k l a; order = decides_same e.0 e.1 d.order }
