-- The log state that five numbers are, case by case.
-- Assumes nothing.
use Prim.Native.Nat.{ℕ}
use mathlib.Core.Path.{◌≡◌, refl, sym, ap, subst, ◌∙◌}
use mathlib.Core.Logic.{◌≢◌, ◌⊎◌, inl, inr, ⊎_elim}
use native.Mathlib.Omega.{arith}
use borrow.Author.Tests.{eq-eqb, ne_eqb}
use Rattle.logs.specs.declared.LogState.{LogState}
use Rattle.logs.specs.declared.Phase.{Phase}
use Rattle.logs.specs.declared.Phase.TheVariants.{Growing, Forked}
use Rattle.logs.specs.Refusals.{ValidIn}
use Rattle.store.specs.Table.{Table}
use Rattle.chains.proofs.Laws.{eq?}
use Rattle.plain.specs.declared.states.State.{State}
use Rattle.plain.specs.Plain.{log_of, five_with, five_of, nobody, IsState}

-- Phase 1 is forked.
pub log_forked : (s : State) → s.phase ≡ 1 → record { author = s.author; last = s.last; phase = Forked s.low s.high } ≡ log_of s
unfolding log_of
log_forked s e = simp (eq-eqb _ _ e)

-- Another phase than 0 and 1 is no state.
pub log_no_phase : (s : State) → s.phase ≢ 1 → s.phase ≢ 0 → nobody ≡ log_of s
unfolding log_of
log_no_phase s d e = simp (ne_eqb _ _ d, ne_eqb _ _ e)

-- Growing with a low evidence row is no state.
pub log_low : (s : State) → s.phase ≡ 0 → s.low ≢ 0 → nobody ≡ log_of s
unfolding log_of
log_low s e d = simp (e, ne_eqb _ _ d)

-- Growing with a high evidence row is no state.
pub log_high : (s : State) → s.phase ≡ 0 → s.low ≡ 0 → s.high ≢ 0 → nobody ≡ log_of s
unfolding log_of
log_high s e f d = simp (e, f, ne_eqb _ _ d)

-- Phase 0 with no evidence rows is growing.
pub log_growing : (s : State) → s.phase ≡ 0 → s.low ≡ 0 → s.high ≡ 0 → record { author = s.author; last = s.last; phase = Growing } ≡ log_of s
unfolding log_of
log_growing s e f g = simp (e, f, g)

-- The five numbers of a log state, read again, are that state: an answer may be handed back in.
read_with : (a l : ℕ) (p : Phase) → log_of (five_with a l p) ≡ record { author = a; last = l; phase = p }
unfolding log_of
read_with a l Growing = refl
read_with a l (Forked low high) = refl

pub read_back : (k : LogState) → log_of (five_of k) ≡ k
read_back k = read_with k.author k.last k.phase

-- Five numbers are a state, or are read as one of author 0.
pub state_or_not : (s : State) → IsState s ⊎ (log_of s ≡ nobody)
state_or_not s =
    ⊎_elim (λ e. inl (inr e)) (λ d. ⊎_elim growing_or_not (λ z. inr (sym (log_no_phase s d z))) (eq? s.phase 0)) (eq? s.phase 1)
  where
    growing_or_not : s.phase ≡ 0 → IsState s ⊎ (log_of s ≡ nobody)
    growing_or_not e =
        ⊎_elim (λ f. ⊎_elim (λ g. inl (inl (e, (f, g)))) (λ z. inr (sym (log_high s e f z))) (eq? s.high 0))
        (λ z. inr (sym (log_low s e z)))
        (eq? s.low 0)

-- Five numbers with their phase and evidence known.
same_growing : (a p l x y : ℕ) → p ≡ 0 → x ≡ 0 → y ≡ 0 → five_with a l Growing ≡ record { author = a; phase = p; last = l; low = x; high = y }
same_growing a p l x y e f g = rw (e, f, g) refl

same_forked : (a p l x y : ℕ) → p ≡ 1 → five_with a l (Forked x y) ≡ record { author = a; phase = p; last = l; low = x; high = y }
same_forked a p l x y e = rw e refl

-- A state that is read is written as the same five numbers.
pub five_back : (s : State) → IsState s → five_of (log_of s) ≡ s
five_back s (inl (e, (f, g))) = ap five_of (sym (log_growing s e f g)) ∙ same_growing s.author s.phase s.last s.low s.high e f g
five_back s (inr e) = ap five_of (sym (log_forked s e)) ∙ same_forked s.author s.phase s.last s.low s.high e

-- No store has author 0, so what is read as one of his is not valid.
pub nobody_not_valid : (t : Table) → ValidIn t nobody → ⊥
nobody_not_valid t v = let h = v.some in omega arith

-- Numbers that are read as a valid state are a state.
pub valid_is_state : (t : Table) (s : State) → ValidIn t (log_of s) → IsState s
valid_is_state t s v = ⊎_elim (λ h. h) (λ e. absurd (nobody_not_valid t (subst (ValidIn t) e v))) (state_or_not s)
