-- The number and the values of an answer say the answer: nothing is lost where only they are handed on.
-- Assumes nothing.
use Rattle.std.specs.Prelude.{Result, Ok, Err}
use Rattle.answers.specs.declared.Refusal.{Refusal}
use Prim.Native.Nat.{ℕ}
use mathlib.Core.Path.{◌≡◌, refl, sym, ap, ◌∙◌}
use native.Mathlib.Omega.{arith}
use Rattle.answers.proofs.Distinct.{one_number, not_done}
use Rattle.logs.specs.declared.Phase.{Phase}
use Rattle.logs.specs.declared.Phase.TheVariants.{Growing, Forked}
use Rattle.logs.specs.declared.LogState.{LogState}
use Rattle.logs.specs.declared.Nearest.{Nearest}
use Rattle.logs.specs.Answers.{prefixed_number, prefixed_row, prefixed_first, prefixed_second, merged_number, phase_number, low_row, high_row}
use Rattle.logs.specs.Answers.{merged_author, merged_phase, merged_last, merged_low, merged_high}

-- A prefix with the two children is its three rows.
pub same_nearest : (p q : Nearest) → p.row ≡ q.row → p.first ≡ q.first → p.second ≡ q.second → p ≡ q
same_nearest p q e f g =
    ap (λ z. make z p.first p.second) e ∙ ap (λ z. make q.row z p.second) f ∙ ap (make q.row q.first) g
  where
    make : ℕ → ℕ → ℕ → Nearest
    make x c d = record { row = x; first = c; second = d }

-- Of a prefix.
pub prefixed_says : (r q : Result Nearest Refusal) → prefixed_number r ≡ prefixed_number q → prefixed_row r ≡ prefixed_row q → prefixed_first r ≡ prefixed_first q
    → prefixed_second r ≡ prefixed_second q → r ≡ q
prefixed_says (Ok p) (Ok q) e f g h = ap Ok (same_nearest p q f g h)
prefixed_says (Ok p) (Err w) e f g h = absurd (not_done w (sym e))
prefixed_says (Err v) (Ok q) e f g h = absurd (not_done v e)
prefixed_says (Err v) (Err w) e f g h = ap Err (one_number v w e)

-- A phase is what its numbers say.
phase_says : (p q : Phase) → phase_number p ≡ phase_number q → low_row p ≡ low_row q → high_row p ≡ high_row q → p ≡ q
phase_says Growing Growing e f g = refl
phase_says Growing (Forked c d) e f g = absurd (omega (arith, e))
phase_says (Forked a b) Growing e f g = absurd (omega (arith, e))
phase_says (Forked a b) (Forked c d) e f g = ap (λ z. Forked z b) f ∙ ap (Forked c) g

-- A log state is its author, its last row and its phase.
pub same_parts : (k l : LogState) → k.author ≡ l.author → k.last ≡ l.last → k.phase ≡ l.phase → k ≡ l
same_parts k l a e p =
    ap (λ z. make z k.last k.phase) a ∙ ap (λ z. make l.author z k.phase) e ∙ ap (make l.author l.last) p
  where
    make : ℕ → ℕ → Phase → LogState
    make w x q = record { author = w; last = x; phase = q }

-- Of an append or a merge.
pub merged_says : (r q : Result LogState Refusal) → merged_number r ≡ merged_number q → merged_author r ≡ merged_author q → merged_phase r ≡ merged_phase q
    → merged_last r ≡ merged_last q → merged_low r ≡ merged_low q → merged_high r ≡ merged_high q → r ≡ q
merged_says (Ok k) (Ok l) e a p b c d = ap Ok (same_parts k l a b (phase_says k.phase l.phase p c d))
merged_says (Ok k) (Err w) e a p b c d = absurd (not_done w (sym e))
merged_says (Err v) (Ok l) e a p b c d = absurd (not_done v e)
merged_says (Err v) (Err w) e a p b c d = ap Err (one_number v w e)
