-- C calls of merge and append after one another, over one store: what they are given, and what they end in.
-- Assumes nothing.
use Rattle.std.specs.Prelude.{ℕ, ◌≡◌}
use Rattle.store.specs.Table.{Table}
use Rattle.chains.specs.Chain.{StateOf}
use Rattle.logs.specs.Held.{chain_of}
use Rattle.logs.specs.States.{state_of}
use Rattle.logs.specs.Refusals.{ValidIn}
use Rattle.logs.specs.Trees.{Calls, given, merging, appending, Messages}
use Rattle.logs.specs.declared.LogState.{LogState}
use Rattle.plain.specs.declared.states.State.{State}
use Rattle.plain.specs.declared.StateAnswer.{StateAnswer}
use Rattle.plain.specs.Plain.{log_of, five_of}
use Rattle.host.specs.Calls.{MergesPlainly, AppendsPlainly}

-- A tree of C calls: states, merged two at a time and appended to, in any order and grouping, with repeats.
pub data PlainCalls : Type 0 where
  numbers : State → PlainCalls
  merge : PlainCalls → PlainCalls → PlainCalls
  append : PlainCalls → ℕ → PlainCalls

-- The same tree over log states.
abbrev pub calls_of : PlainCalls → Calls
calls_of (numbers s) = given (log_of s)
calls_of (merge c d) = merging (calls_of c) (calls_of d)
calls_of (append c x) = appending (calls_of c) x

-- A run of the C calls over the store `t`, answer by answer: the numbers that are given; what `snowknoll_merge` may answer of the states
-- of two answers with the number 0; what `snowknoll_append` may answer of the state of one.
pub data RanPlainly (t : Table) : PlainCalls → StateAnswer → Type 0 where
  numbers : {s : State} → RanPlainly t (PlainCalls.numbers s) (record { number = 0; state = s })
  merge : {c d : PlainCalls} {p q r : StateAnswer} → RanPlainly t c p → p.number ≡ 0 → RanPlainly t d q → q.number ≡ 0
      → MergesPlainly t p.state q.state r → RanPlainly t (PlainCalls.merge c d) r
  append : {c : PlainCalls} {x : ℕ} {p r : StateAnswer} → RanPlainly t c p → p.number ≡ 0 → AppendsPlainly t p.state x r
      → RanPlainly t (PlainCalls.append c x) r

-- The calls end with the number 0 in the five numbers of a valid state of the author: the state of the set of those messages.
pub record EndsPlainly (t : Table) (A : ℕ) (c : PlainCalls) (r : StateAnswer) : Type 0 where
  pub end : LogState
  pub answer : r ≡ record { number = 0; state = five_of end }
  pub author : end.author ≡ A
  pub valid : ValidIn t end
  pub state : StateOf (chain_of t) (Messages t (calls_of c)) (state_of end)
