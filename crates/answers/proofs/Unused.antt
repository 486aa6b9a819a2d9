-- Document 02, request 10: "13 is never given", of the answers that several calls share: checks, a yes or no, numbers written.
-- Assumes nothing.
use Rattle.std.specs.Prelude.{Bool, ℕ, Result, Ok, Err}
use Rattle.answers.specs.declared.Refusal.{Refusal}
use mathlib.Core.Path.{◌≡◌}
use native.Mathlib.Omega.{arith}
use Rattle.answers.specs.Answers.{checked_number, choice_number, written_number}
use Rattle.answers.proofs.Distinct.{refusal_never_13}

-- No check is answered 13,
pub checked_never_13 : (c : Result (Unit {0}) Refusal) → checked_number c ≡ 13 → ⊥
checked_never_13 (Ok tt) e = omega arith
checked_never_13 (Err why) e = refusal_never_13 why e

-- nor is a yes or no,
pub choice_never_13 : (c : Result Bool Refusal) → choice_number c ≡ 13 → ⊥
choice_never_13 (Ok b) e = omega arith
choice_never_13 (Err why) e = refusal_never_13 why e

-- nor is a call that writes numbers.
pub written_never_13 : (w : Result ℕ Refusal) → written_number w ≡ 13 → ⊥
written_never_13 (Ok n) e = omega arith
written_never_13 (Err why) e = refusal_never_13 why e
