-- What follows from the promise: the list is exactly document 02's, there is one, and one answer; it has at least two branches, and both
-- evidence rows lie on branches of it.
-- Assumes nothing.
use Rattle.std.specs.Prelude.{Result, Ok, Err}
use Rattle.answers.specs.declared.Refusal.{Refusal}
use Prim.Native.Nat.{ℕ, ◌*◌, ◌≤◌, ◌<◌}
use mathlib.Core.Path.{◌≡◌, sym, ap, subst, ◌∙◌}
use mathlib.Core.Bool.{true}
use mathlib.Core.List.{List, ◌++◌}
use mathlib.Core.Logic.{◌↔◌, ◌≢◌}
use native.Mathlib.Omega.{arith}
use native.Mathlib.Nat.{le_antisymm}
use lib.ListN.{length, take, drop, take-append-drop}
use Rattle.basics.proofs.Tests.{not_both_ways}
use Rattle.chunks.specs.Bytes.{comes_before}
use Rattle.chunks.specs.Piece.{piece_at}
use Rattle.answers.proofs.Distinct.{one_number}
use Rattle.store.specs.Table.{Table, WellFormed, prev_of}
use Rattle.chains.specs.Chain.{RowOf, Before, IsForked, Evidence, ValidState, forked_valid}
use Rattle.logs.specs.declared.Phase.{Phase}
use Rattle.logs.specs.declared.Phase.TheVariants.{Growing, Forked}
use Rattle.logs.specs.declared.LogState.{LogState}
use Rattle.logs.specs.Held.{chain_of}
use Rattle.logs.specs.States.{standing}
use Rattle.logs.specs.Refusals.{ValidIn}
use Rattle.review.specs.Review.{branch_width, Branch, tip_at, child_at, Tipped, EveryBranch, OnBranch, NoRoom}
use Rattle.review.specs.Calls.{Reviewed, NotListed, BranchesDone, ListsBranches}
use Rattle.review.proofs.Order.{before_then, not_before_self}
use Rattle.review.proofs.Rising.{Among, Strict, place_same, no_fewer, same_numbers}
use Rattle.review.proofs.Tips.{one_child, tip_above, child_branch}
use Rattle.review.proofs.Following.{branch_follows, before_child, follows_branch}

-- Every branch of a state's author behind its last row stands in a list.
abbrev pub AllOf : Table → LogState → List ℕ → ℕ → Type 0
AllOf t k l m = EveryBranch t.rows t.ids t.counts.rows k.author k.last l m

-- "each row that follows the state's last row in the log and is no row's previous row", in the words of the order in the log.
pub record FollowsLast (t : Table) (k : LogState) (x : ℕ) : Type 0 where
  pub row : RowOf (chain_of t) k.author x
  pub follows : Before (chain_of t) k.last x
  pub unfollowed : (r : ℕ) → r ≤ t.counts.rows → 1 ≤ r → prev_of t r ≢ x

-- The order of the tips is strict.
rising : (t : Table) → Strict (λ (x y : ℕ). comes_before (piece_at t.ids x) (piece_at t.ids y) ≡ true)
rising t =
    record {
      apart = λ x h. not_both_ways _ h (not_before_self (piece_at t.ids x));
      then = λ x y z. before_then (piece_at t.ids x) (piece_at t.ids y) (piece_at t.ids z);
    }

module _ (t : Table) (w : WellFormed t) (k : LogState) where
  -- The tips of a list are exactly these rows.
  pub listed_exactly : (l : List ℕ) (m : ℕ) → AllOf t k l m → (x : ℕ) → Tipped l m x ↔ FollowsLast t k x
  listed_exactly l m e x = (follows, tipped)
    where
      follows : Tipped l m x → FollowsLast t k x
      follows p =
          let b = subst (λ (y : ℕ). Branch t.rows t.counts.rows k.author k.last y (child_at l p.place)) (sym p.here)
          (e.each p.place p.inside) in
          record {
            row = record { some = b.some; held = b.held; by = b.author };
            follows = branch_follows t.ids t.rows t.counts.rows k.author k.last x (child_at l p.place) w.rows_chained b;
            unfollowed = b.unfollowed;
          }

      tipped : FollowsLast t k x → Tipped l m x
      tipped f =
          let c = before_child t.ids t.rows t.counts.rows k.author k.last x f.row f.follows in
          e.every x c.child
          (follows_branch t.ids t.rows t.counts.rows k.author k.last x f.row f.follows f.unfollowed c)

  module _ (l l' : List ℕ) (m m' : ℕ) (e : AllOf t k l m) (e' : AllOf t k l' m') where
    -- Each tip of the one list is one of the other.
    found : (i : ℕ) → i < m → Among (tip_at l') m' (tip_at l i)
    found i h = let p = e'.every (tip_at l i) (child_at l i) (e.each i h) in record { place = p.place; inside = p.inside; here = p.here }

    found' : (i : ℕ) → i < m' → Among (tip_at l) m (tip_at l' i)
    found' i h = let p = e.every (tip_at l' i) (child_at l' i) (e'.each i h) in record { place = p.place; inside = p.inside; here = p.here }

    -- Two lists of every branch have as many,
    pub same_many : m ≡ m'
    same_many =
        le_antisymm
        (no_fewer _ (tip_at l) (tip_at l') m m' (rising t) e.rising e'.rising found found')
        (no_fewer _ (tip_at l') (tip_at l) m' m (rising t) e'.rising e.rising found' found)

    same_tip : (i : ℕ) → i < m → tip_at l i ≡ tip_at l' i
    same_tip i h = (place_same _ (tip_at l) (tip_at l') m m' (rising t) e.rising e'.rising found found' i h).1

    same_child : (i : ℕ) → i < m → child_at l i ≡ child_at l' i
    same_child i h =
        let b = e'.each i (omega (arith, same_many)) in
        one_child t.rows t.counts.rows w.rows_chained k.author k.last (tip_at l i) (child_at l i) (child_at l' i) (e.each i h)
        (subst (λ (y : ℕ). Branch t.rows t.counts.rows k.author k.last y (child_at l' i)) (sym (same_tip i h)) b)

    -- and are the same numbers.
    pub same_list : branch_width * m ≤ length l → branch_width * m ≤ length l' → take (branch_width * m) l ≡ take (branch_width * m) l'
    same_list h h' = same_numbers l l' m h h' same_tip same_child

module _ (t : Table) (k : LogState) (out : List ℕ) where
  -- A growing state is not forked.
  not_whole : Reviewed t k → k.phase ≡ Growing → ⊥
  not_whole r e = subst (λ (p : Phase). IsForked (standing k.last p)) e r.forked

  -- A list that was written had room.
  not_short : (o : List ℕ) (n : ℕ) → BranchesDone t k out o n → NoRoom t.rows t.ids t.counts.rows k.author k.last out → ⊥
  not_short o n b s =
      let e = same_many t b.accepted.well_formed k o s.result b.wrote.many s.many b.wrote.branches s.branches in
      omega (arith, e, s.size, s.short, b.wrote.count, b.wrote.room)

  -- Where a list is written none is refused,
  not_both : (o : List ℕ) (n p : ℕ) → BranchesDone t k out o n → NotListed t k out p → ⊥
  not_both o n p b (NotListed.not_well_formed e f) = f b.accepted.well_formed
  not_both o n p b (NotListed.not_valid e f g) = g b.accepted.state
  not_both o n p b (NotListed.whole e f g h) = not_whole b.accepted h
  not_both o n p b (NotListed.no_room e f g) = not_short o n b g

  -- and a refusal has one number.
  one_refusal : (p q : ℕ) → NotListed t k out p → NotListed t k out q → p ≡ q
  one_refusal p q (NotListed.not_well_formed e f) (NotListed.not_well_formed e' f') = e ∙ sym e'
  one_refusal p q (NotListed.not_well_formed e f) (NotListed.not_valid e' f' g') = absurd (f f')
  one_refusal p q (NotListed.not_well_formed e f) (NotListed.whole e' f' g' h') = absurd (f f')
  one_refusal p q (NotListed.not_well_formed e f) (NotListed.no_room e' f' g') = absurd (f f'.well_formed)
  one_refusal p q (NotListed.not_valid e f g) (NotListed.not_well_formed e' f') = absurd (f' f)
  one_refusal p q (NotListed.not_valid e f g) (NotListed.not_valid e' f' g') = e ∙ sym e'
  one_refusal p q (NotListed.not_valid e f g) (NotListed.whole e' f' g' h') = absurd (g g')
  one_refusal p q (NotListed.not_valid e f g) (NotListed.no_room e' f' g') = absurd (g f'.state)
  one_refusal p q (NotListed.whole e f g h) (NotListed.not_well_formed e' f') = absurd (f' f)
  one_refusal p q (NotListed.whole e f g h) (NotListed.not_valid e' f' g') = absurd (g' g)
  one_refusal p q (NotListed.whole e f g h) (NotListed.whole e' f' g' h') = e ∙ sym e'
  one_refusal p q (NotListed.whole e f g h) (NotListed.no_room e' f' g') = absurd (not_whole f' h)
  one_refusal p q (NotListed.no_room e f g) (NotListed.not_well_formed e' f') = absurd (f' f.well_formed)
  one_refusal p q (NotListed.no_room e f g) (NotListed.not_valid e' f' g') = absurd (g' f.state)
  one_refusal p q (NotListed.no_room e f g) (NotListed.whole e' f' g' h') = absurd (not_whole f h')
  one_refusal p q (NotListed.no_room e f g) (NotListed.no_room e' f' g') = e ∙ sym e'

  -- Two written lists take as many numbers, and leave the same output.
  one_written : (o o' : List ℕ) (n n' : ℕ) → BranchesDone t k out o n → BranchesDone t k out o' n' → (n ≡ n') × (o ≡ o')
  one_written o o' n n' b b' =
      let x = b.wrote in
      let y = b'.wrote in
      let w = b.accepted.well_formed in
      let m : x.many ≡ y.many = same_many t w k o o' x.many y.many x.branches y.branches in
      let e : n ≡ n' = omega (arith, m, x.count, y.count) in
      let f : take (branch_width * x.many) o ≡ take (branch_width * x.many) o' =
      same_list t w k o o' x.many y.many x.branches y.branches (omega (arith, x.count, x.room, x.same_room))
      (omega (arith, x.count, x.room, y.same_room)) in
      let g : take n o ≡ take n o' = subst (λ (z : ℕ). take z o ≡ take z o') (sym x.count) f in
      let h : drop n o ≡ drop n o' = x.beyond ∙ subst (λ (z : ℕ). drop z out ≡ drop z o') (sym e) (sym y.beyond) in
      let i : take n o ++ drop n o ≡ take n o' ++ drop n o' = ap (λ (z : List ℕ). z ++ drop n o) g ∙ ap (λ (z : List ℕ). take n o' ++ z) h in
      (e, sym (take-append-drop n o) ∙ i ∙ take-append-drop n o')

  -- One answer keeps the promise, and leaves one output.
  pub one_answer : (r r' : Result ℕ Refusal) (o o' : List ℕ) → ListsBranches t k out o r → ListsBranches t k out o' r' → (r ≡ r') × (o ≡ o')
  one_answer (Ok n) (Ok n') o o' b b' = let p = one_written o o' n n' b b' in (ap Ok p.0, p.1)
  one_answer (Ok n) (Err v) o o' b q = absurd (not_both o n _ b q.0)
  one_answer (Err v) (Ok n) o o' q b = absurd (not_both o' n _ b q.0)
  one_answer (Err v) (Err v') o o' q q' = (ap Err (one_number v v' (one_refusal _ _ q.0 q'.0)), q.1 ∙ sym q'.1)

-- The evidence of a valid forked state.
evidence : (t : Table) (k : LogState) (low high : ℕ) → ValidIn t k → k.phase ≡ Forked low high → Evidence (chain_of t) k.author k.last low high
evidence t k low high v e = of (subst (λ (p : Phase). ValidState (chain_of t) k.author (standing k.last p)) e v.state)
  where
    of : ValidState (chain_of t) k.author (standing k.last (Forked low high)) → Evidence (chain_of t) k.author k.last low high
    of (forked_valid n g) = g

module _ (t : Table) (k : LogState) (low high : ℕ) (forked : k.phase ≡ Forked low high) (out out' : List ℕ) (n : ℕ) (b : BranchesDone t k out out' n) where
  -- A child of last lies on a branch of the list.
  child_listed : (x : ℕ) → RowOf (chain_of t) k.author x → prev_of t x ≡ k.last → OnBranch t.rows out' b.wrote.many x
  child_listed x r e =
      let c = b.accepted.well_formed.rows_chained in
      let u = tip_above t.rows t.counts.rows c x r.some r.held in
      let f = child_branch t.rows t.counts.rows c k.author k.last x r.some r.held r.by e u in
      let p = b.wrote.branches.every u.tip x f in
      let g = b.wrote.branches.each p.place p.inside in
      let h = subst (λ (y : ℕ). Branch t.rows t.counts.rows k.author k.last y x) p.here f in
      record {
        place = p.place;
        inside = p.inside;
        child = one_child t.rows t.counts.rows c k.author k.last (tip_at out' p.place) (child_at out' p.place) x g h;
        through = h.through;
      }

  -- Both evidence rows lie on branches of the list,
  pub evidence_listed : OnBranch t.rows out' b.wrote.many low × OnBranch t.rows out' b.wrote.many high
  evidence_listed =
      let e = evidence t k low high b.accepted.state forked in
      (child_listed low e.low e.low_prev, child_listed high e.high e.high_prev)

  -- and there are at least two branches.
  pub at_least_two : branch_width * 2 ≤ n
  at_least_two =
      let e = evidence t k low high b.accepted.state forked in
      let p = evidence_listed in
      let d : p.0.place ≢ p.1.place = λ z.
      let f : low ≡ high = sym p.0.child ∙ ap (child_at out') z ∙ p.1.child in
      let s : (chain_of t).key low < (chain_of t).key high = e.sorted in
      let g : (chain_of t).key low ≡ (chain_of t).key high = ap (chain_of t).key f in
      omega arith in
      omega (arith, p.0.inside, p.1.inside, d, b.wrote.count)
