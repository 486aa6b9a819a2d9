-- The plain forms: each answer of a call as a struct of numbers, and a log state as five numbers.
-- Assumes nothing.
use Rattle.logs.specs.declared.Nearest.{Nearest}
use Rattle.item.specs.declared.Fields.{Fields}
use Rattle.answers.specs.declared.Refusal.{Refusal}
use Rattle.std.specs.Prelude.{ℕ, ◌≡◌, ◌⊎◌, eqb, Bool, Result}
use Rattle.basics.specs.Pick.{pick}
use Rattle.answers.specs.Answers.{choice_number, choice_said, written_number, written_count}
use Rattle.item.specs.Answers.{layout_number, layout_fields}
use Rattle.admission.specs.Answer.{answer_number, answer_row}
use Rattle.admission.specs.declared.Admitted.{Admitted}
use Rattle.store.specs.declared.lent.Counts.{Counts}
use Rattle.logs.specs.Answers.{prefixed_number, prefixed_row, prefixed_first, prefixed_second, merged_number, merged_state, phase_number, low_row, high_row}
use Rattle.logs.specs.declared.LogState.{LogState}
use Rattle.logs.specs.declared.Phase.TheVariants.{Growing, Forked}
use Rattle.logs.specs.declared.Phase.{Phase}
use Rattle.origins.specs.Origins.{origin_number, origin_given}
use Rattle.plain.specs.declared.states.State.{State}
use Rattle.plain.specs.declared.PrefixAnswer.{PrefixAnswer}
use Rattle.plain.specs.declared.StateAnswer.{StateAnswer}
use Rattle.plain.specs.declared.YesAnswer.{YesAnswer}
use Rattle.plain.specs.declared.CountAnswer.{CountAnswer}
use Rattle.plain.specs.declared.AdmitAnswer.{AdmitAnswer}
use Rattle.plain.specs.declared.OriginAnswer.{OriginAnswer}
use Rattle.plain.specs.declared.ItemAnswer.{ItemAnswer}
use Rattle.plain.specs.declared.StretchAnswer.{StretchAnswer}

-- LOG STATES: "five numbers (author, phase 0 growing or 1 forked, last, low, high; low and high are 0 when growing)".

-- Five numbers that are a state: the phase is 0 with no evidence rows, or it is 1.
abbrev pub IsState : State → Type 0
IsState s = ((s.phase ≡ 0) × ((s.low ≡ 0) × (s.high ≡ 0))) ⊎ (s.phase ≡ 1)

-- Numbers that are no state are read as a state of author 0, which no store has: so they are answered 17, "log state not valid".
abbrev pub nobody : LogState
nobody = record { author = 0; last = 0; phase = Growing }

-- The log state that the five numbers are.
unfoldable pub log_of : State → LogState
log_of s =
    pick (eqb s.phase 1) (record { author = s.author; last = s.last; phase = Forked s.low s.high })
    (pick (eqb s.phase 0)
    (pick (eqb s.low 0) (pick (eqb s.high 0) (record { author = s.author; last = s.last; phase = Growing }) nobody) nobody) nobody)

-- The five numbers of a state with this author, last row and phase.
abbrev pub five_with : ℕ → ℕ → Phase → State
five_with a l p = record { author = a; phase = phase_number p; last = l; low = low_row p; high = high_row p }

-- The five numbers of a log state.
abbrev pub five_of : LogState → State
five_of k = five_with k.author k.last k.phase

-- "A refusal returns its number .. and no state": five zeros.
abbrev pub no_state : State
no_state = record { author = 0; phase = 0; last = 0; low = 0; high = 0 }

-- ANSWERS: 0 with what the call gives, or the refusal's number with zeros.

-- The row of a prefix, and its child toward each of the two.
abbrev pub prefix_answer : Result Nearest Refusal → PrefixAnswer
prefix_answer p = record { number = prefixed_number p; row = prefixed_row p; first = prefixed_first p; second = prefixed_second p }

-- The state of a merge or an append.
unfoldable pub state_answer : Result LogState Refusal → StateAnswer
state_answer m = record { number = merged_number m; state = five_of (merged_state m) }

-- A yes or no.
abbrev pub choice_answer : Result Bool Refusal → YesAnswer
choice_answer c = record { number = choice_number c; yes = choice_said c }

-- "Both calls return how many numbers they wrote".
abbrev pub written_answer : Result ℕ Refusal → CountAnswer
written_answer w = record { number = written_number w; count = written_count w }

-- "A refusal returns its number and row 0 (HELD: the row)"; the counts are those of the store after the admission.
abbrev pub admit_answer : Admitted → Counts → AdmitAnswer
admit_answer a c = record { number = answer_number a; row = answer_row a; counts = c }

-- The origin of a row.
abbrev pub origin_answer : Result ℕ Refusal → OriginAnswer
origin_answer o = record { number = origin_number o; origin = origin_given o }

-- The fields of an item, as numbers and places.
abbrev pub item_answer : Result Fields Refusal → ItemAnswer
item_answer l =
    record {
      number = layout_number l;
      mark = (layout_fields l).mark;
      index = (layout_fields l).index;
      payload = (layout_fields l).payload;
      size = (layout_fields l).size;
      dependencies = (layout_fields l).dependencies;
      count = (layout_fields l).count;
    }

-- "the payload is handed back as a stretch of the caller's own record ..; a refusal hands back an empty stretch"
abbrev pub stretch_answer : Result Fields Refusal → StretchAnswer
stretch_answer l = record { number = layout_number l; start = (layout_fields l).payload; length = (layout_fields l).size }
