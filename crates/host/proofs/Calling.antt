-- Demand 3 at the C functions: calls of merge and append in any order and grouping, with repeats, end in one state.
-- Assumes nothing.
use Rattle.std.specs.Prelude.{Result, Ok}
use Rattle.answers.specs.declared.Refusal.{Refusal}
use Prim.Native.Nat.{ℕ}
use mathlib.Core.Path.{◌≡◌, refl, sym, ap, subst, ◌∙◌}
use mathlib.Core.Logic.{◌↔◌}
use Rattle.basics.specs.Bytes.{Bytes}
use Rattle.store.specs.Table.{Table, WellFormed}
use Rattle.logs.specs.Calls.{Merges, Appends}
use Rattle.logs.specs.Trees.{Ran, Proper, Messages}
use Rattle.logs.specs.declared.LogState.{LogState}
use Rattle.logs.proofs.Demand.{calls_end, calls_agree, calls_run}
use Rattle.plain.specs.declared.states.State.{State}
use Rattle.plain.specs.declared.StateAnswer.{StateAnswer}
use Rattle.plain.specs.Plain.{log_of, five_of, state_answer}
use Rattle.host.specs.Calls.{MergesPlainly, AppendsPlainly}
use Rattle.host.specs.Trees.{PlainCalls, calls_of, RanPlainly, EndsPlainly}
use Rattle.plain.proofs.Reading.{read_back, five_back, valid_is_state}

-- A state with the number 0.
abbrev pub zero_with : LogState → StateAnswer
zero_with k = record { number = 0; state = five_of k }

-- A done answer is 0 with its state.
done_zero : (k : LogState) (r : Result LogState Refusal) → r ≡ Ok k → state_answer r ≡ zero_with k
unfolding state_answer
done_zero k r e = rw e refl

-- The run of calls over log states behind a run of C calls.
record Behind (t : Table) (c : PlainCalls) (r : StateAnswer) : Type 0 where
  answer : Result LogState Refusal
  ran : Ran t (calls_of c) answer
  plain : r ≡ state_answer answer

-- The state of an answer that is 0 with a state is read as that state.
reads : (p : StateAnswer) (k : LogState) → p ≡ zero_with k → log_of p.state ≡ k
reads p k e = ap (λ z. log_of z.state) e ∙ read_back k

module _ (t : Table) (w : WellFormed t) (y : Bytes t.ids) (A : ℕ) where
  -- What a run of calls over log states ended in, where the C calls ended in `p`.
  ended : (c : PlainCalls) (p : StateAnswer) → Proper t A (calls_of c) → Behind t c p
      → (k : LogState) × (Ran t (calls_of c) (Ok k) × (p ≡ zero_with k))
  ended c p o b =
      let e = calls_end t w y A (calls_of c) b.answer o b.ran in
      (e.end, (subst (Ran t (calls_of c)) e.done b.ran, b.plain ∙ done_zero e.end b.answer e.done))

  -- Every run of C calls has one behind it.
  behind : (c : PlainCalls) (r : StateAnswer) → Proper t A (calls_of c) → RanPlainly t c r → Behind t c r
  behind (PlainCalls.numbers s) r o RanPlainly.numbers =
      record {
        answer = Ok (log_of s);
        ran = Ran.given;
        plain = ap (λ x. record { number = 0; state = x }) (sym (five_back s (valid_is_state t s o.0))) ∙ sym (done_zero (log_of s) (Ok (log_of s)) refl);
      }
  behind (PlainCalls.merge c d) r o (RanPlainly.merge {p = p} {q = q} e z f u m) =
      let a = ended c p o.0 (behind c p o.0 e) in
      let b = ended d q o.1 (behind d q o.1 f) in
      record {
        answer = m.answer;
        ran = Ran.merging a.1.0 b.1.0
            (subst (λ x. Merges t x b.0 m.answer) (reads p a.0 a.1.1)
            (subst (λ x. Merges t (log_of p.state) x m.answer) (reads q b.0 b.1.1) m.promised));
        plain = m.plainly;
      }
  behind (PlainCalls.append c x) r o (RanPlainly.append {p = p} e z m) =
      let a = ended c p o.0 (behind c p o.0 e) in
      record {
        answer = m.answer;
        ran = Ran.appending a.1.0 (subst (λ k. Appends t k x m.answer) (reads p a.0 a.1.1) m.promised);
        plain = m.plainly;
      }

  -- Demand 3: any run of C calls ends in the state of the set of messages that it is given.
  pub plain_calls_end : (c : PlainCalls) (r : StateAnswer) → Proper t A (calls_of c) → RanPlainly t c r → EndsPlainly t A c r
  plain_calls_end c r o g =
      let b = behind c r o g in
      let e = calls_end t w y A (calls_of c) b.answer o b.ran in
      record {
        end = e.end;
        answer = b.plain ∙ done_zero e.end b.answer e.done;
        author = e.author;
        valid = e.valid;
        state = e.state;
      }

  -- Demand 3: two runs of C calls that are given the same messages end in the same numbers.
  pub plain_calls_agree : (c d : PlainCalls) (r q : StateAnswer) → Proper t A (calls_of c) → Proper t A (calls_of d)
      → ((x : ℕ) → Messages t (calls_of c) x ↔ Messages t (calls_of d) x) → RanPlainly t c r → RanPlainly t d q → r ≡ q
  plain_calls_agree c d r q o p e f g =
      let a = behind c r o f in
      let b = behind d q p g in
      a.plain ∙ ap state_answer (calls_agree t w y A (calls_of c) (calls_of d) a.answer b.answer o p e a.ran b.ran) ∙ sym b.plain

  -- A done run of calls over log states is one of C calls.
  plainly : (c : PlainCalls) (k : LogState) → Proper t A (calls_of c) → Ran t (calls_of c) (Ok k) → RanPlainly t c (zero_with k)
  plainly (PlainCalls.numbers s) k o Ran.given =
      subst (λ x. RanPlainly t (PlainCalls.numbers s) (record { number = 0; state = x })) (sym (five_back s (valid_is_state t s o.0))) RanPlainly.numbers
  plainly (PlainCalls.merge c d) m o (Ran.merging {k = k} {l = l} e f g) =
      RanPlainly.merge (plainly c k o.0 e) refl (plainly d l o.1 f) refl
      record {
        answer = Ok m;
        promised = subst (λ x. Merges t x (log_of (five_of l)) (Ok m)) (sym (read_back k)) (subst (λ x. Merges t k x (Ok m)) (sym (read_back l)) g);
        plainly = sym (done_zero m (Ok m) refl);
      }
  plainly (PlainCalls.append c x) m o (Ran.appending {k = k} e g) =
      RanPlainly.append (plainly c k o.0 e) refl
      record {
        answer = Ok m;
        promised = subst (λ z. Appends t z x (Ok m)) (sym (read_back k)) g;
        plainly = sym (done_zero m (Ok m) refl);
      }

  -- Proper C calls have a run, and it ends with the number 0.
  pub plain_calls_run : (c : PlainCalls) → Proper t A (calls_of c) → (k : LogState) × RanPlainly t c (zero_with k)
  plain_calls_run c o = let r = calls_run t w y A (calls_of c) o in (r.0, plainly c r.0 o r.1)
