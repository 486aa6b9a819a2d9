-- Demand 3 over the lent tables: any run of merges and appends ends in the state of the set of messages that it is given, evidence
-- included. Said of any answers that keep the promises of merge and append. The ids are bytes, as a lent part's are.
-- Assumes nothing.
use Rattle.std.specs.Prelude.{Result, Ok, Err}
use Rattle.answers.specs.declared.Refusal.{Refusal}
use Prim.Native.Nat.{ℕ}
use mathlib.Core.Path.{◌≡◌, refl, sym, ap, ◌∙◌}
use mathlib.Core.Logic.{inl, inr, ⊎_elim, ◌↔◌}
use Rattle.answers.specs.Number.{number_of}
use Rattle.basics.specs.Bytes.{Bytes}
use Rattle.store.specs.Table.{Table, WellFormed}
use Rattle.chains.specs.Chain.{Store, RowOf, Valid, State, growing, forked, ValidState, growing_valid, StandsOn, Closed, StateOf, Union, IsMerge, IsForked}
use Rattle.chains.specs.Chain.{AtOrBelow, add, merge_of}
use Rattle.chains.specs.Merging.{HasFork}
use Rattle.chains.specs.Paper.{SamePhaseAndLast, as_paper, paper_merge, paper_append}
use Rattle.chains.proofs.Sandwich.{Sandwich, sandwich_state, sandwich_unique}
use Rattle.chains.proofs.Sets.{history_closed, stands_closed, union_closed, sandwich_ext, own_sandwich, reduce}
use Rattle.chains.proofs.Merge.{merge_sandwich, merge_valid, merge_is_union, merge_above_left, merge_above_right, merge_least, merge_forked_exactly}
use Rattle.chains.proofs.Merge.{forked_merge_index, growing_merge_index}
use Rattle.chains.proofs.Phase.{paper_merge_lem, paper_append_lem}
use Rattle.logs.specs.declared.Phase.TheVariants.{Growing, Forked}
use Rattle.logs.specs.declared.LogState.{LogState}
use Rattle.logs.specs.Held.{chain_of}
use Rattle.logs.specs.States.{state_of}
use Rattle.logs.specs.Refusals.{ValidIn}
use Rattle.logs.specs.Calls.{AppendDone, Appends, TwoStates, MergeDone, IndexKept, Merges}
use Rattle.logs.specs.Trees.{Calls, given, merging, appending, Ran, Proper, Messages, Ends}
use Rattle.logs.proofs.Tables.{chain_valid, table_sound}
use Rattle.logs.proofs.Links.{none_index}
use Rattle.logs.proofs.Additions.{last_standing, last_held}
use Rattle.logs.proofs.Dones.{append_done}
use Rattle.logs.proofs.Agreement.{same_log, append_not_refused, accepted_not_refused}

-- What two sets' states merge to is the state of both sets.
join_sandwich : (s : Store) (v : Valid s) (A : ℕ) {S R : ℕ → Type 0} (K L M : State) → ((x : ℕ) → S x → RowOf s A x) → ((x : ℕ) → R x → RowOf s A x)
    → Sandwich s A S K → Sandwich s A R L → IsMerge s K L M → Sandwich s A (Union S R) M
join_sandwich s v A K L M f g p q i =
    let w = merge_sandwich s v A K L M p.valid q.valid i in
    let one = reduce s v A f p w in
    let two = reduce s v A g q (sandwich_ext s v A (λ x h. ⊎_elim inr inl h) (λ x h. ⊎_elim inr inl h) one) in
    sandwich_ext s v A (λ x h. ⊎_elim inr inl h) (λ x h. ⊎_elim inr inl h) two

-- A state as a log state of the author.
abbrev log_with : ℕ → State → LogState
log_with A (growing l) = record { author = A; last = l; phase = Growing }
log_with A (forked l low high) = record { author = A; last = l; phase = Forked low high }

-- It has that state,
log_state : (A : ℕ) (K : State) → state_of (log_with A K) ≡ K
log_state A (growing l) = refl
log_state A (forked l low high) = refl

-- And that author.
log_author : (A : ℕ) (K : State) → (log_with A K).author ≡ A
log_author A (growing l) = refl
log_author A (forked l low high) = refl

module _ (t : Table) (w : WellFormed t) (y : Bytes t.ids) where
  -- The second of two states that are accepted is a valid state of the first's author.
  second_valid : (k l : LogState) → TwoStates t k l → ValidState (chain_of t) k.author (state_of l)
  second_valid k l a = rw a.one a.second.state

  -- Two valid states of one author have a merge,
  pub merge_exists : (k l : LogState) → TwoStates t k l → (m : LogState) × MergeDone t k l m
  merge_exists k l a =
      let v = second_valid k l a in
      let M = merge_of (chain_of t) (state_of k) (state_of l) in (
        log_with k.author M,
        record {
          accepted = a;
          author = log_author k.author M;
          merged = rw (log_state k.author M) (merge_is_union (chain_of t) (chain_valid t w y) k.author (state_of k) (state_of l) a.first.state v);
        },
      )

  -- And a valid state has an append of each row of its author.
  pub append_exists : (k : LogState) (x : ℕ) → ValidIn t k → RowOf (chain_of t) k.author x → (m : LogState) × AppendDone t k x m
  append_exists k x v r =
      let M = add (chain_of t) (state_of k) x in
      (log_with k.author M, append_done t w y k x (log_with k.author M) v r (record { author = log_author k.author M; state = log_state k.author M }))

  -- The answer of a merge is a valid state.
  pub merge_answer_valid : (k l m : LogState) → MergeDone t k l m → ValidIn t m
  merge_answer_valid k l m d =
      let a = d.accepted in
      let v = second_valid k l a in
      let f = merge_valid (chain_of t) (chain_valid t w y) k.author (state_of k) (state_of l) (state_of m) a.first.state v d.merged in
      record { some = rw d.author a.first.some; exists = rw d.author a.first.exists; state = rw d.author f }

  -- The answer of an append is a valid state.
  pub append_answer_valid : (k : LogState) (x : ℕ) (m : LogState) → AppendDone t k x m → ValidIn t m
  append_answer_valid k x m d =
      let v : ValidState (chain_of t) k.author (growing x) = growing_valid (inr d.row) in
      let f = merge_valid (chain_of t) (chain_valid t w y) k.author (state_of k) (growing x) (state_of m) d.state.state v d.merged in
      record { some = rw d.author d.state.some; exists = rw d.author d.state.exists; state = rw d.author f }

  -- A merge is the least state above both: above each, and at or below every valid state of the author that is above both.
  pub merge_answer_above : (k l m : LogState) → MergeDone t k l m → AtOrBelow (chain_of t) (state_of k) (state_of m) × AtOrBelow (chain_of t) (state_of l)
      (state_of m)
  merge_answer_above k l m d =
      let a = d.accepted in
      let v = second_valid k l a in (
        merge_above_left (chain_of t) (chain_valid t w y) k.author (state_of k) (state_of l) (state_of m) a.first.state v d.merged,
        merge_above_right (chain_of t) (chain_valid t w y) k.author (state_of k) (state_of l) (state_of m) a.first.state v d.merged,
      )

  -- And it is at or below every valid state of the author that is above both.
  pub merge_answer_least : (k l m n : LogState) → MergeDone t k l m → ValidIn t n → n.author ≡ k.author
      → AtOrBelow (chain_of t) (state_of k) (state_of n) → AtOrBelow (chain_of t) (state_of l) (state_of n) → AtOrBelow (chain_of t) (state_of m) (state_of n)
  merge_answer_least k l m n d v e p q =
      let a = d.accepted in
      let u = second_valid k l a in
      let o : ValidState (chain_of t) k.author (state_of n) = rw e at v.state in
      merge_least (chain_of t) (chain_valid t w y) k.author (state_of k) (state_of l) (state_of m) (state_of n) a.first.state u o d.merged p q

  -- It is forked exactly when what the two stand on has two messages on one predecessor, or two first messages.
  pub merge_answer_forked : (k l m : LogState) → MergeDone t k l m
      → IsForked (state_of m) ↔ HasFork (chain_of t) (Union (StandsOn (chain_of t) (state_of k)) (StandsOn (chain_of t) (state_of l)))
  merge_answer_forked k l m d =
      let a = d.accepted in
      let u = second_valid k l a in
      merge_forked_exactly (chain_of t) (chain_valid t w y) k.author (state_of k) (state_of l) (state_of m) a.first.state u d.merged

  -- Its last index is as document 01 says.
  pub merge_answer_index : (k l m : LogState) → MergeDone t k l m → IndexKept t k l m
  merge_answer_index k l m d =
      let a = d.accepted in
      let v = chain_valid t w y in
      let held = last_held t.ids t.rows t.counts.rows (table_sound t w y) in
      record {
        both_forked = λ f g.
            rw (last_standing k.last k.phase, last_standing l.last l.phase, last_standing m.last m.phase) at
            (forked_merge_index (chain_of t) v k.author (state_of k) (state_of l) (state_of m) a.first.state (second_valid k l a) f g d.merged);
        stay_growing = λ f g h.
            growing_merge_index (chain_of t) v k.author k.last l.last m.last (held k a.first.state) (rw a.one (held l a.second.state))
            (rw (f, g, h) at d.merged);
        none_counts = none_index t.rows;
      }

  -- Demand 2: phase and last after a merge are those of source 002's algorithm 3,
  pub merge_answer_paper : (k l m : LogState) → MergeDone t k l m
      → SamePhaseAndLast (state_of m) (paper_merge (chain_of t) (as_paper (state_of k)) (as_paper (state_of l)))
  merge_answer_paper k l m d =
      let a = d.accepted in
      let u = second_valid k l a in
      paper_merge_lem (chain_of t) (chain_valid t w y) k.author (state_of k) (state_of l) (state_of m) a.first.state u d.merged

  -- And after an append those of its algorithm 1.
  pub append_answer_paper : (k : LogState) (x : ℕ) (m : LogState) → AppendDone t k x m → SamePhaseAndLast (state_of m)
      (paper_append (chain_of t) (as_paper (state_of k)) x)
  append_answer_paper k x m d = paper_append_lem (chain_of t) (chain_valid t w y) k.author (state_of k) (state_of m) x d.state.state d.row d.merged

  module _ (A : ℕ) where
    -- The messages of proper calls are the author's, with all before them.
    pub messages_closed : (c : Calls) → Proper t A c → Closed (chain_of t) A (Messages t c)
    messages_closed (given k) p =
        let v : ValidState (chain_of t) A (state_of k) = rw p.1 at p.0.state in
        stands_closed (chain_of t) (chain_valid t w y) A v
    messages_closed (merging c d) p =
        union_closed (chain_of t) (chain_valid t w y) A (messages_closed c p.0) (messages_closed d p.1)
    messages_closed (appending c x) p =
        union_closed (chain_of t) (chain_valid t w y) A (messages_closed c p.0) (history_closed (chain_of t) (chain_valid t w y) A x (inr p.1))

    -- A state that the calls may have come to.
    record Came (c : Calls) (k : LogState) : Type 0 where
      author : k.author ≡ A
      valid : ValidIn t k
      sandwich : Sandwich (chain_of t) A (Messages t c) (state_of k)

    -- An answer that they may have: such a state, and no refusal.
    abbrev CameTo : Calls → Result LogState Refusal → Type 0
    CameTo c (Ok k) = Came c k
    CameTo c (Err r) = ⊥

    -- Two states of the author may be merged.
    both_came : (c d : Calls) (k l : LogState) → Came c k → Came d l → TwoStates t k l
    both_came c d k l p q = record { well_formed = w; first = p.valid; second = q.valid; one = p.author ∙ sym q.author }

    -- Where a merge comes to.
    merge_came : (c d : Calls) → Proper t A c → Proper t A d → (k l : LogState) → Came c k → Came d l → (r : Result LogState Refusal) → Merges t k l r → CameTo (merging c d) r
    merge_came c d p q k l x z (Ok m) g =
        record {
          author = g.author ∙ x.author;
          valid = merge_answer_valid k l m g;
          sandwich =
              join_sandwich (chain_of t) (chain_valid t w y) A (state_of k) (state_of l) (state_of m) (messages_closed c p).rows
              (messages_closed d q).rows x.sandwich z.sandwich g.merged;
        }
    merge_came c d p q k l x z (Err r) g = accepted_not_refused t k l (number_of r) (both_came c d k l x z) g

    -- Where an append comes to.
    append_came : (c : Calls) → Proper t A c → (k : LogState) (b : ℕ) → RowOf (chain_of t) A b → Came c k → (r : Result LogState Refusal) → Appends t k b r → CameTo
        (appending c b) r
    append_came c p k b h x (Ok m) g =
        let v : ValidState (chain_of t) A (growing b) = growing_valid (inr h) in
        record {
          author = g.author ∙ x.author;
          valid = append_answer_valid k b m g;
          sandwich =
              join_sandwich (chain_of t) (chain_valid t w y) A (state_of k) (growing b) (state_of m) (messages_closed c p).rows
              (history_closed (chain_of t) (chain_valid t w y) A b (inr h)).rows x.sandwich (own_sandwich (chain_of t) (chain_valid t w y) A v) g.merged;
        }
    append_came c p k b h x (Err r) g = append_not_refused t k b (number_of r) w x.valid (rw x.author h) g

    -- Where a run of proper calls comes to.
    came : (c : Calls) (r : Result LogState Refusal) → Proper t A c → Ran t c r → CameTo c r
    came c r p (Ran.given {k = k}) =
        let v : ValidState (chain_of t) A (state_of k) = rw p.1 at p.0.state in
        record { author = p.1; valid = p.0; sandwich = own_sandwich (chain_of t) (chain_valid t w y) A v }
    came c r p (Ran.merging {c = a} {d = b} {k = k} {l = l} e f g) =
        merge_came a b p.0 p.1 k l (came a (Ok k) p.0 e) (came b (Ok l) p.1 f) r g
    came c r p (Ran.appending {c = a} {k = k} {x = x} e g) = append_came a p.0 k x p.1 (came a (Ok k) p.0 e) r g

    -- The state that a run ended in is the state of the set of messages that it is given.
    pub done_state : (c : Calls) (k : LogState) → Proper t A c → Ran t c (Ok k) → StateOf (chain_of t) (Messages t c) (state_of k)
    done_state c k p e =
        sandwich_state (chain_of t) (chain_valid t w y) A (Messages t c) (messages_closed c p) (came c (Ok k) p e).sandwich

    -- Demand 3: any run of merges and appends, in any order and grouping, ends in the state of the set of messages that it is given.
    pub calls_end : (c : Calls) (r : Result LogState Refusal) → Proper t A c → Ran t c r → Ends t A c r
    calls_end c (Ok k) p e =
        let r = came c (Ok k) p e in
        record { end = k; done = refl; author = r.author; valid = r.valid; state = done_state c k p e }
    calls_end c (Err r) p e = absurd (came c (Err r) p e)

    -- Demand 3: two runs that are given the same messages end equal, in any order and grouping, with repeats.
    pub calls_agree : (c d : Calls) (r q : Result LogState Refusal) → Proper t A c → Proper t A d → ((x : ℕ) → Messages t c x ↔ Messages t d x) → Ran t c r → Ran t d q → r ≡ q
    calls_agree c d (Ok k) (Ok l) p q e f g =
        let x = came c (Ok k) p f in
        let z = came d (Ok l) q g in
        let u = sandwich_unique (chain_of t) (chain_valid t w y) A (Messages t d) (messages_closed d q)
        (sandwich_ext (chain_of t) (chain_valid t w y) A (λ b. (e b).0) (λ b. (e b).1) x.sandwich) z.sandwich in
        ap Ok (same_log k l (x.author ∙ sym z.author) u)
    calls_agree c d (Ok k) (Err b) p q e f g = absurd (came d (Err b) q g)
    calls_agree c d (Err a) q' p q e f g = absurd (came c (Err a) p f)

    -- An append before a merge or after it: the same end.
    pub append_any_order : (c d : Calls) (x : ℕ) (r q : Result LogState Refusal) → Proper t A c → Proper t A d → RowOf (chain_of t) A x
        → Ran t (appending (merging c d) x) r → Ran t (merging (appending c x) d) q → r ≡ q
    append_any_order c d x r q p o h =
        calls_agree (appending (merging c d) x) (merging (appending c x) d) r q ((p, o), h) ((p, h), o) (λ z. (to z, from z))
      where
        to : (z : ℕ) → Messages t (appending (merging c d) x) z → Messages t (merging (appending c x) d) z
        to z (inl (inl k)) = inl (inl k)
        to z (inl (inr k)) = inr k
        to z (inr k) = inl (inr k)

        from : (z : ℕ) → Messages t (merging (appending c x) d) z → Messages t (appending (merging c d) x) z
        from z (inl (inl k)) = inl (inl k)
        from z (inl (inr k)) = inr k
        from z (inr k) = inl (inr k)

    -- Proper calls have a run, and it is done: each call's answer is there.
    pub calls_run : (c : Calls) → Proper t A c → (k : LogState) × Ran t c (Ok k)
    calls_run (given k) p = (k, Ran.given)
    calls_run (merging c d) p = merged (calls_run c p.0) (calls_run d p.1)
      where
        merged : ((k : LogState) × Ran t c (Ok k)) → ((l : LogState) × Ran t d (Ok l)) → (m : LogState) × Ran t (merging c d) (Ok m)
        merged (k, e) (l, f) =
            let m = merge_exists k l (both_came c d k l (came c (Ok k) p.0 e) (came d (Ok l) p.1 f)) in
            (m.0, Ran.merging e f m.1)
    calls_run (appending c x) p = appended (calls_run c p.0)
      where
        appended : ((k : LogState) × Ran t c (Ok k)) → (m : LogState) × Ran t (appending c x) (Ok m)
        appended (k, e) =
            let q = came c (Ok k) p.0 e in
            let m = append_exists k x q.valid (rw q.author p.1) in
            (m.0, Ran.appending e m.1)
