-- Document 02, request 10: "13 is never given", of the calls on log states.
-- Assumes nothing.
use Rattle.std.specs.Prelude.{Result, Ok, Err}
use Rattle.logs.specs.declared.LogState.{LogState}
use Rattle.answers.specs.declared.Refusal.{Refusal}
use Rattle.logs.specs.declared.Nearest.{Nearest}
use mathlib.Core.Path.{◌≡◌}
use native.Mathlib.Omega.{arith}
use Rattle.answers.proofs.Distinct.{refusal_never_13}
use Rattle.logs.specs.Answers.{prefixed_number, merged_number}

-- No prefix is answered 13,
pub prefixed_never_13 : (p : Result Nearest Refusal) → prefixed_number p ≡ 13 → ⊥
prefixed_never_13 (Ok p) e = omega arith
prefixed_never_13 (Err why) e = refusal_never_13 why e

-- nor is an append or a merge.
pub merged_never_13 : (m : Result LogState Refusal) → merged_number m ≡ 13 → ⊥
merged_never_13 (Ok m) e = omega arith
merged_never_13 (Err why) e = refusal_never_13 why e
