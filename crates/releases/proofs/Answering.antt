-- From the walk to the current release, and from the tests to the answer.
-- Assumes nothing.
use Rattle.std.specs.Prelude.{Option, Some, None, Result, Ok, Err}
use Rattle.releases.specs.declared.Shown.{Shown}
use Rattle.frontiers.specs.Slot.{Slot}
use Prim.Native.Nat.{ℕ, ◌-◌, ◌≤◌}
use mathlib.Core.Path.{◌≡◌, refl, sym, ap, subst, ◌∙◌}
use mathlib.Core.Bool.{Bool}
use mathlib.Core.List.{List}
use mathlib.Core.Logic.{⊎_elim, ◌≢◌}
use mathlib.Core.Option.{some}
use native.Mathlib.Omega.{arith}
use lib.ListN.{get_or}
use Rattle.basics.specs.Bytes.{Bytes}
use Rattle.answers.specs.declared.Refusal.{Refusal}
use Rattle.store.specs.Table.{Table, row_at}
use Rattle.store.specs.declared.Row.{Row}
use Rattle.store.proofs.Facts.{index_within}
use Rattle.chains.specs.Chain.{Node, Valid, last_of, AtOrBefore}
use Rattle.chains.proofs.Climb.{before_node, node_row, before_index, before_none}
use Rattle.chains.proofs.Order.{last_node}
use Rattle.logs.specs.Held.{chain, chain_of}
use Rattle.logs.specs.States.{standing, state_of}
use Rattle.logs.specs.declared.Phase.{Phase}
use Rattle.logs.specs.declared.Phase.TheVariants.{Growing, Forked}
use Rattle.logs.specs.declared.LogState.{LogState}
use Rattle.logs.proofs.Tables.{chain_valid}
use Rattle.frontiers.specs.Entries.{entry_of, ValidAt}
use Rattle.frontiers.specs.Numbers.{entries_of}
use Rattle.frontiers.specs.Found.{Holds}
use Rattle.frontiers.proofs.Numbers.{valid_entries}
use Rattle.desk.specs.Payload.{says_yes}
use Rattle.releases.specs.Current.{owner_of, expanded_at, is_frozen, Carries, IsCurrent, no_message, WalksTo}
use Rattle.releases.specs.Calls.{Askable, Answers, MayShow, ShownAt, ShowsEntry}

-- WHAT IS SHOWN OF AN ENTRY

-- The walk came to none,
pub shown_none : (rows cs : List ℕ) (k : LogState) (c w at : ℕ) → w ≡ k.last → at ≡ 0
    → ((ids : List ℕ) (n : ℕ) → WalksTo (chain ids rows n) cs w c at) → (ids : List ℕ) (n : ℕ) → WalksTo (chain ids rows n) cs k.last c 0
shown_none rows cs k c w at e z h ids n =
    subst (λ (x : ℕ). WalksTo (chain ids rows n) cs x c 0) e (subst (WalksTo (chain ids rows n) cs w c) z (h ids n))

-- or to a row.
pub shown_found : (rows cs es : List ℕ) (k : LogState) (c w at n i : ℕ) (this : Row) (z : Bool) → w ≡ k.last → at ≢ 0 → this ≡ row_at rows at → n ≡ at
    → i ≡ this.index → z ≡ is_frozen (state_of k) → ((ids : List ℕ) (m : ℕ) → WalksTo (chain ids rows m) cs w c at)
    → ShownAt rows cs es k c (record { row = n; index = i; expanded = says_yes (expanded_at es at); frozen = z })
shown_found rows cs es k c w at n i this z e d g h j f p =
    record {
      walks = λ ids m. subst (λ (x : ℕ). WalksTo (chain ids rows m) cs x c n) e (subst (WalksTo (chain ids rows m) cs w c) (sym h) (p ids m));
      found = λ q. d (sym h ∙ q);
      index = j ∙ ap (λ (r : Row). r.index) g ∙ ap (λ (x : ℕ). (row_at rows x).index) (sym h);
      expanded = ap (λ (x : ℕ). says_yes (expanded_at es x)) (sym h);
      frozen = f;
    }

-- THE OWNER AND ITS ENTRY

-- The owner is read at the component's place.
pub owner_read : (owners : List ℕ) (w c : ℕ) → w ≡ c → get_or owners (w - 1) 0 ≡ owner_of owners c
owner_read owners w c e = ap (owner_of owners) e

-- The last row of a log state.
last_is : (l : ℕ) (p : Phase) → last_of (standing l p) ≡ l
last_is l Growing = refl
last_is l (Forked low high) = refl

-- The owner has an entry.
pub entry_found : (f : List ℕ) (o a : ℕ) (r : Slot) (k : LogState) → o ≡ a → r ≡ Some k → Holds o (entry_of (entries_of f) o) r
    → entry_of (entries_of f) a ≡ some (state_of k)
entry_found f o a r k e g h =
    let p : Holds o (entry_of (entries_of f) o) (Some k) = subst (Holds o (entry_of (entries_of f) o)) g h in
    subst (λ (x : ℕ). entry_of (entries_of f) x ≡ some (state_of k)) e p.1

module _ (t : Table) (b : Bytes t.ids) (f cs es owners : List ℕ) (c : ℕ) (ask : Askable t f cs es owners c) (k : LogState)
    (entry : entry_of (entries_of f) (owner_of owners c) ≡ some (state_of k)) where
  -- The store of chains is valid.
  stored : Valid (chain_of t)
  stored = chain_valid t ask.well_formed b

  -- So is the owner's state: its last row is none or the owner's,
  last_row : Node (chain_of t) (owner_of owners c) k.last
  last_row =
      let p : ValidAt (chain_of t) t.counts.authors (owner_of owners c) (some (state_of k)) =
      subst (ValidAt (chain_of t) t.counts.authors (owner_of owners c)) entry
      ((valid_entries (chain_of t) t.counts.authors f ask.frontier).each (owner_of owners c)) in
      subst (Node (chain_of t) (owner_of owners c)) (last_is k.last k.phase) (last_node (chain_of t) stored (owner_of owners c) p.1.1)

  -- and is counted.
  last_held : k.last ≤ t.counts.rows
  last_held = ⊎_elim (λ e. omega arith) (λ r. r.held) last_row

  -- The entry may be shown.
  pub may_show : MayShow t.rows cs es t.counts.rows k.last
  may_show =
      record {
        chained = ask.well_formed.rows_chained;
        limit = ask.well_formed.rows_limit;
        indexes = λ r h. omega (arith, index_within t ask.well_formed r h);
        held = last_held;
        components = ask.columns.components;
        expanded = ask.columns.expanded;
      }

  module _ (owned : owner_of owners c ≢ 0) where
    -- The row that the walk came to is the current release.
    walk_current : (r : ℕ) → r ≢ 0 → WalksTo (chain_of t) cs k.last c r → IsCurrent t cs (owner_of owners c) (last_of (state_of k)) c r
    walk_current r z w =
        let s = chain_of t in
        let a = owner_of owners c in
        let l : last_of (state_of k) ≡ k.last = last_is k.last k.phase in
        let n : Node s a r = before_node s stored a r k.last last_row w.back in
        record {
          one = record {
            message = node_row s stored a r n (omega (arith, z));
            back = subst (AtOrBefore s r) (sym l) w.back;
            carries = w.carries z;
          };
          highest = λ q h. before_index s stored a q r n (w.latest q h.message.some (subst (AtOrBefore s q) l h.back) h.carries);
        }

    -- Where it came to none, no message carries the component.
    walk_none : WalksTo (chain_of t) cs k.last c 0 → (r : ℕ) → Carries t cs (owner_of owners c) (last_of (state_of k)) c r → ⊥
    walk_none w r h =
        let s = chain_of t in
        let l : last_of (state_of k) ≡ k.last = last_is k.last k.phase in
        let e : r ≡ 0 = before_none s stored (owner_of owners c) r (w.latest r h.message.some (subst (AtOrBefore s r) l h.back) h.carries) in
        let one = h.message.some in
        omega arith

    -- THE ANSWER of what is shown of the owner's entry.
    pub shown_answer : (r : Result (Option Shown) Refusal) → ShowsEntry t.rows cs es k c r → Answers t f cs es owners c r
    shown_answer (Ok (Some x)) h = (
      ask,
      record {
        owned = owned;
        state = state_of k;
        entry = entry;
        shows = record {
          current = walk_current x.row h.found (h.walks t.ids t.counts.rows);
          index = h.index;
          expanded = h.expanded;
          frozen = h.frozen;
        };
      },
    )
    shown_answer (Ok None) h = (ask, no_message owned (state_of k) entry (walk_none (h t.ids t.counts.rows)))
    shown_answer (Err why) h = absurd h
