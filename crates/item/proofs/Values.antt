-- The number and the fields of a reading say the answer: nothing is lost where only they are handed on.
-- Assumes nothing.
use Rattle.std.specs.Prelude.{Result, Ok, Err}
use Rattle.answers.specs.declared.Refusal.{Refusal}
use Rattle.item.specs.declared.Fields.{Fields}
use mathlib.Core.Path.{◌≡◌, sym, ap}
use Rattle.answers.proofs.Distinct.{one_number, not_done}
use Rattle.item.specs.Answers.{layout_number, layout_fields}

-- Of two readings.
pub layout_says : (l k : Result Fields Refusal) → layout_number l ≡ layout_number k → layout_fields l ≡ layout_fields k → l ≡ k
layout_says (Ok f) (Ok g) e h = ap Ok h
layout_says (Ok f) (Err w) e h = absurd (not_done w (sym e))
layout_says (Err v) (Ok g) e h = absurd (not_done v e)
layout_says (Err v) (Err w) e h = ap Err (one_number v w e)
