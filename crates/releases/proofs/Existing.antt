-- Every sound question has an answer, so that the promise is not empty.
-- Assumes nothing.
use Rattle.std.specs.Prelude.{Option, Some, None, Result, Ok}
use Rattle.answers.specs.declared.Refusal.{Refusal}
use Rattle.releases.specs.declared.Shown.{Shown}
use Prim.Native.Nat.{ℕ, zero, suc, ◌≤◌}
use mathlib.Core.Path.{◌≡◌, refl, sym, ap, subst, ◌∙◌}
use mathlib.Core.List.{List}
use mathlib.Core.Logic.{⊎_elim, ◌≢◌}
use mathlib.Core.Option.{none, some, Option as Perhaps}
use native.Mathlib.Omega.{arith}
use Rattle.basics.specs.Bytes.{Bytes}
use Rattle.store.specs.Clauses.{AllChained}
use Rattle.store.specs.Table.{Table, row_at}
use Rattle.chains.specs.Chain.{State, growing, forked}
use Rattle.chains.proofs.Laws.{eq?}
use Rattle.logs.specs.Held.{chain}
use Rattle.logs.specs.States.{state_of}
use Rattle.logs.specs.declared.Phase.TheVariants.{Growing, Forked}
use Rattle.logs.specs.declared.LogState.{LogState}
use Rattle.frontiers.specs.Entries.{entry_of}
use Rattle.frontiers.specs.Numbers.{entries_of}
use Rattle.desk.specs.Payload.{says_yes}
use Rattle.releases.specs.Current.{owner_of, component_at, expanded_at, is_frozen, no_owner, no_entry, WalksTo}
use Rattle.releases.specs.Calls.{Askable, Answers}
use Rattle.releases.proofs.Walking.{Walked, walked_first, walked_more, walked_found, walked_none}
use Rattle.releases.proofs.Answering.{shown_found, may_show, shown_answer}

-- The row that a walk comes to.
abbrev Comes : List ℕ → List ℕ → ℕ → ℕ → Type 0
Comes rows cs last c = (r : ℕ) × ((ids : List ℕ) (n : ℕ) → WalksTo (chain ids rows n) cs last c r)

-- The walk ends: the row falls with each step.
walk_ends : (rows cs : List ℕ) (count last c : ℕ) → AllChained rows count → last ≤ count → (n at : ℕ) → at ≤ n → Walked rows cs last c at
    → Comes rows cs last c
walk_ends rows cs count last c k b zero at h w = (0, (walked_none rows cs last c at (omega arith) w).1)
walk_ends rows cs count last c k b (suc n) at h w =
    ⊎_elim (λ z. (0, (walked_none rows cs last c at z w).1))
    (λ z. ⊎_elim (λ e. (at, (walked_found rows cs last c at w e).1))
    (λ e.
    let m = walked_more rows cs count last c at (row_at rows at) k b z w e refl in
    let l = m.0 in
    walk_ends rows cs count last c k b n (row_at rows at).prev (omega arith) m.1)
    (eq? (component_at cs at) c))
    (eq? at 0)

-- A log state of no author with this last row and phase.
log_of : State → LogState
log_of (growing l) = record { author = 0; last = l; phase = Growing }
log_of (forked l lo hi) = record { author = 0; last = l; phase = Forked lo hi }

log_state : (k : State) → state_of (log_of k) ≡ k
unfolding log_of
log_state (growing l) = refl
log_state (forked l lo hi) = refl

module _ (t : Table) (b : Bytes t.ids) (f cs es owners : List ℕ) (c : ℕ) (ask : Askable t f cs es owners c) where
  -- The owner has an entry: the walk from its last row comes to a release or to none.
  by_entry : owner_of owners c ≢ 0 → (k : LogState) → entry_of (entries_of f) (owner_of owners c) ≡ some (state_of k) → (a : Result (Option Shown) Refusal) × Answers t f cs es owners c a
  by_entry z k e =
      let m = may_show t b f cs es owners c ask k e in
      let w = walk_ends t.rows cs t.counts.rows k.last c m.chained m.held k.last k.last (omega arith)
      (walked_first t.rows cs k.last c) in
      let r = w.0 in
      ⊎_elim
      (λ q. (
        (Ok None),
        shown_answer t b f cs es owners c ask k e z (Ok None) (λ ids n. subst (WalksTo (chain ids t.rows n) cs k.last c) q (w.1 ids n)),
      ))
      (λ q. (
        Ok (Some (record { row = r; index = (row_at t.rows r).index; expanded = says_yes (expanded_at es r); frozen = is_frozen (state_of k) })),
        shown_answer t b f cs es owners c ask k e z
            (Ok (Some (record { row = r; index = (row_at t.rows r).index; expanded = says_yes (expanded_at es r); frozen = is_frozen (state_of k) })))
            (shown_found t.rows cs es k c k.last r r (row_at t.rows r).index (row_at t.rows r) (is_frozen (state_of k)) refl q refl refl refl refl
            w.1),
      ))
      (eq? r 0)

  -- EVERY SOUND QUESTION HAS AN ANSWER, a release or none.
  pub answer_exists : (a : Result (Option Shown) Refusal) × Answers t f cs es owners c a
  answer_exists =
      ⊎_elim (λ z. ((Ok None), (ask, no_owner z))) (λ z. by_option z (entry_of (entries_of f) (owner_of owners c)) refl) (eq? (owner_of owners c) 0)
    where
      by_option : owner_of owners c ≢ 0 → (o : Perhaps State) → entry_of (entries_of f) (owner_of owners c) ≡ o → (a : Result (Option Shown) Refusal) × Answers t f cs es owners c a
      by_option z none e = ((Ok None), (ask, no_entry z e))
      by_option z (some k) e = by_entry z (log_of k) (e ∙ ap some (sym (log_state k)))
