-- What the inner functions did is what the calls promise.
-- Assumes nothing.
use Prim.Native.Nat.{ℕ, ◌≤◌}
use mathlib.Core.Path.{◌≡◌, refl}
use mathlib.Core.Logic.{inl, inr, ⊎_elim}
use native.Mathlib.Nat.{eq-zero-or-pos}
use Rattle.basics.specs.Bytes.{Bytes}
use Rattle.store.specs.Table.{Table, WellFormed}
use Rattle.chains.specs.Chain.{Store, RowOf, Node, IsPrefix}
use Rattle.chains.proofs.Prefix.{prefix_exists}
use Rattle.chains.proofs.Ways.{child_leads}
use Rattle.chains.proofs.Merge.{append_is_merge}
use Rattle.logs.specs.declared.LogState.{LogState}
use Rattle.logs.specs.declared.Nearest.{Nearest}
use Rattle.logs.specs.Held.{chain_of, Linked, Climbed}
use Rattle.logs.specs.States.{state_of, Addable, Added, Pair}
use Rattle.logs.specs.Refusals.{ValidIn, OneLog}
use Rattle.logs.specs.Calls.{PrefixDone, AppendDone, TwoStates}
use Rattle.logs.proofs.Tables.{chain_valid, table_sound}
use Rattle.logs.proofs.Additions.{within_linked}

-- Two places of one log are none or rows of one author.
pub record Places (s : Store) (a b : ℕ) : Type 0 where
  pub author : ℕ
  pub first : Node s author a
  pub second : Node s author b

-- The author is that of the place that is a row.
pub one_log_places : (s : Store) (a b : ℕ) → OneLog s a b → Places s a b
one_log_places s a b o = ⊎_elim none some (eq-zero-or-pos a)
  where
    place : (x : ℕ) → x ≤ s.count → Node s (s.author x) x
    place x h = ⊎_elim inl (λ p. inr (record { some = p; held = h; by = refl })) (eq-zero-or-pos x)

    none : a ≡ 0 → Places s a b
    none e = record { author = s.author b; first = inl e; second = place b o.second }

    some : 1 ≤ a → Places s a b
    some p =
        record {
          author = s.author a;
          first = place a o.first;
          second = ⊎_elim inl (λ q. inr (record { some = q; held = o.second; by = o.own p q })) (eq-zero-or-pos b);
        }

module _ (t : Table) (w : WellFormed t) (y : Bytes t.ids) where
  -- What the climb of a prefix asks, and what it found.
  pub places_linked : (a b : ℕ) → OneLog (chain_of t) a b → Linked t.rows a × Linked t.rows b
  places_linked a b o = (
    within_linked t.ids t.rows t.counts.rows (table_sound t w y) a o.first,
    within_linked t.ids t.rows t.counts.rows (table_sound t w y) b o.second,
  )

  -- What it found.
  pub prefix_done : (a b : ℕ) (r : Nearest) → OneLog (chain_of t) a b → Climbed t.rows a b r → PrefixDone t a b r
  prefix_done a b r o c =
      let q = one_log_places (chain_of t) a b o in
      let v = chain_valid t w y in
      let f : IsPrefix (chain_of t) a b r.row =
      rw (c.prefix t.ids t.counts.rows) (prefix_exists (chain_of t) v q.author a b q.first q.second) in
      record {
        well_formed = w;
        log = o;
        prefix = f;
        first = rw (c.first t.ids t.counts.rows) (child_leads (chain_of t) v q.author r.row a q.first f.left);
        second = rw (c.second t.ids t.counts.rows) (child_leads (chain_of t) v q.author r.row b q.second f.right);
      }

  -- What an append asks, and what it did.
  pub append_ready : (k : LogState) (x : ℕ) → ValidIn t k → RowOf (chain_of t) k.author x → Addable t.ids t.rows t.counts.rows k x
  append_ready k x v r = record { sound = table_sound t w y; state = v.state; row = inr r }

  -- What it did.
  pub append_done : (k : LogState) (x : ℕ) (m : LogState) → ValidIn t k → RowOf (chain_of t) k.author x → Added t.ids t.rows t.counts.rows k x m
      → AppendDone t k x m
  append_done k x m v r a =
      record {
        well_formed = w;
        state = v;
        row = r;
        author = a.author;
        merged = rw a.state (append_is_merge (chain_of t) (chain_valid t w y) k.author (state_of k) x v.state (inr r));
      }

  -- What a call on two states asks, and what it did.
  pub pair_ready : (k l : LogState) → TwoStates t k l → Pair t.ids t.rows t.counts.rows k l
  pair_ready k l a = record { sound = table_sound t w y; one = a.one; first = a.first.state; second = a.second.state }
