-- A valid frontier over a well_formed table may be sent.
-- Assumes nothing.
use Prim.Native.Nat.{ℕ, zero, suc, ◌-◌, ◌*◌, ◌/◌, ◌≤◌, ◌<◌}
use mathlib.Core.Path.{◌≡◌, ◌∙◌}
use mathlib.Core.Logic.{⊎_elim}
use mathlib.Core.List.{List}
use native.Mathlib.Omega.{arith}
use lib.ListN.{length}
use Rattle.basics.specs.Bytes.{Bytes}
use Rattle.basics.proofs.Tests.{by_eqb, by_ltb}
use Rattle.store.specs.Table.{Table, WellFormed}
use Rattle.store.proofs.Facts.{same_key_lem}
use Rattle.chains.specs.Chain.{State, growing, forked, Node, ValidState, growing_valid, forked_valid}
use Rattle.logs.specs.Held.{chain_of}
use Rattle.frontiers.specs.Numbers.{author_at, state_at, entries_of}
use Rattle.frontiers.specs.Calls.{FrontierOf}
use Rattle.frontiers.proofs.Appends.{frontier_few}
use Rattle.standing.specs.Sending.{IsSent}
use Rattle.standing.specs.Selecting.{send_all, RowsHeld, MaySend}
use Rattle.standing.proofs.Sends.{all_sent, same_said}

module _ (t : Table) (w : WellFormed t) (b : Bytes t.ids) (f : List ℕ) (v : FrontierOf t f) where
  -- A row, or none, has its id.
  node_held : (A l : ℕ) → Node (chain_of t) A l → l * 32 ≤ length t.ids
  node_held A l n = ⊎_elim (λ z. omega arith) (λ r. let h = r.held in let k = w.ids_held in omega arith) n

  rows_held : (A : ℕ) (l : State) → ValidState (chain_of t) A l → RowsHeld t.ids l
  rows_held A (growing l) (growing_valid n) = node_held A l n
  rows_held A (forked l lo hi) (forked_valid n e) =
      let k = w.ids_held in
      let x = e.low.held in
      let y = e.high.held in
      (node_held A l n, ((e.low.some, omega arith), (e.high.some, omega arith)))

  -- Authors rise from entry to entry.
  rises : (j i : ℕ) → i < j → j < length f / 5 → author_at f i < author_at f j
  rises zero i h l = absurd (omega arith)
  rises (suc j) i h l =
      let r : author_at f j < author_at f (suc j) = step ((v.entries (suc j) l).rises (omega arith)) in
      by_eqb (λ x. author_at f i < author_at f (suc j)) i j (λ e. rw e r) (λ e. let q = rises j i (omega arith) (omega arith) in omega arith)
    where
      step : author_at f (suc j - 1) < author_at f (suc j) → author_at f j < author_at f (suc j)
      step q = let e : suc j - 1 ≡ j = omega arith in rw e at q

  one_author : (i j : ℕ) → i < length f / 5 → j < length f / 5 → author_at f i ≡ author_at f j → i ≡ j
  one_author i j h l e =
      by_ltb (λ x. i ≡ j) i j (λ q. absurd (let r = rises j i q l in omega arith))
      (λ q. by_ltb (λ x. i ≡ j) j i (λ u. absurd (let r = rises i j u h in omega arith)) (λ u. omega arith))

  pub may_send : MaySend t.keys t.ids f
  may_send =
      let l = frontier_few t b w f v in
      let a = w.authors_limit in
      record {
        few = omega arith;
        each = λ i h.
            let e = v.entries i h in
            let k = w.keys_held in
            let n = e.known in
            record { author = e.exists; key = omega arith; rows = rows_held (author_at f i) (state_at f i) e.state };
        distinct = λ i j h m d q.
            let x = v.entries i h in
            let y = v.entries j m in
            d (one_author i j h m (same_key_lem t w (author_at f i) (author_at f j) x.exists x.known y.exists y.known q));
      }

  -- What is found of it is what is sent.
  pub frontier_sent : IsSent t (entries_of f) (send_all t.keys t.ids f)
  frontier_sent =
      let p = all_sent t.keys t.ids f may_send in
      record { rise = p.rise; each = λ q. p.each q ∙ same_said t (entries_of f) q }
