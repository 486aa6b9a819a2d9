-- "Entries beyond the counts are never read": over two tables that agree within the counts the call keeps its promise with the same
-- answers and lists, so its answer and what it leaves are the same. The ids are bytes, as a lent part's are.
-- Assumes nothing.
use Rattle.std.specs.Prelude.{Result, Ok, Err}
use Rattle.answers.specs.declared.Refusal.{Refusal}
use Prim.Native.Nat.{ℕ, ◌≤◌}
use mathlib.Core.Path.{◌≡◌, sym, ap, subst, ◌∙◌}
use mathlib.Core.Bool.{true}
use mathlib.Core.List.{List}
use mathlib.Core.Logic.{◌↔◌}
use native.Mathlib.Omega.{arith}
use Rattle.basics.specs.Bytes.{Bytes}
use Rattle.chunks.specs.Bytes.{comes_before}
use Rattle.chunks.specs.Piece.{piece_at}
use Rattle.store.specs.declared.Row.{Row}
use Rattle.store.specs.declared.lent.Counts.{Counts}
use Rattle.store.specs.Table.{Table, WellFormed, prev_of}
use Rattle.store.specs.Agree.{Agree}
use Rattle.store.proofs.Facts.{prev_older}
use Rattle.store.proofs.Agreeing.{agree_rows, agree_ids, well_formed_together, agree_back}
use Rattle.logs.specs.declared.LogState.{LogState}
use Rattle.logs.specs.Refusals.{ValidIn}
use Rattle.logs.proofs.Beyond.{agree_later}
use Rattle.logs.proofs.Stays.{state_stays}
use Rattle.review.specs.Review.{RunsThrough, Branch, tip_at, child_at}
use Rattle.review.specs.Calls.{Reviewed, NotListed, ListsBranches}
use Rattle.review.proofs.Tips.{through_earlier}
use Rattle.review.proofs.Theorems.{AllOf, one_answer}

module _ (t u : Table) (g : Agree t u) (w : WellFormed t) where
  -- The previous row of a row is the same there,
  prev_there : (r : ℕ) → r ≤ t.counts.rows → prev_of t r ≡ prev_of u r
  prev_there r h = ap (λ (x : Row). x.prev) (agree_rows t u w g.within r h)

  -- what it runs through it runs through there,
  through_there : (c x : ℕ) → x ≤ t.counts.rows → RunsThrough t.rows c x → RunsThrough u.rows c x
  through_there c x h RunsThrough.here = RunsThrough.here
  through_there c x h (RunsThrough.back y k p) =
      let o = prev_older t w x h k in
      RunsThrough.back x k (subst (RunsThrough u.rows c) (prev_there x h) (through_there c (prev_of t x) (omega arith) p))

  -- and there are as many rows.
  same_rows : t.counts.rows ≡ u.counts.rows
  same_rows = ap (λ (c : Counts). c.rows) g.same_counts

  -- So a branch is a branch there.
  branch_there : (a last tip child : ℕ) → Branch t.rows t.counts.rows a last tip child → Branch u.rows u.counts.rows a last tip child
  branch_there a last tip child b =
      let h = b.held in
      let e = same_rows in
      let c : child ≤ tip = through_earlier t.rows t.counts.rows w.rows_chained child tip h b.through in
      record {
        some = b.some;
        held = omega arith;
        author = sym (ap (λ (x : Row). x.author) (agree_rows t u w g.within tip h)) ∙ b.author;
        unfollowed = λ r k l m. b.unfollowed r (omega arith) l (prev_there r (omega arith) ∙ m);
        child_some = b.child_some;
        child_of_last = sym (prev_there child (omega arith)) ∙ b.child_of_last;
        through = through_there child tip h b.through;
      }

-- What the call promises over a table, it promises over the other.
module _ (t u : Table) (g : Agree t u) (y : Bytes t.ids) (z : Bytes u.ids) where
  -- Every branch is every branch there,
  all_there : WellFormed t → (k : LogState) (l : List ℕ) (m : ℕ) → AllOf t k l m → AllOf u k l m
  all_there w k l m e =
      record {
        each = λ i h. branch_there t u g w k.author k.last (tip_at l i) (child_at l i) (e.each i h);
        rising = λ j h i o. order j i (e.each j h).held (e.each i (omega arith)).held (e.rising j h i o);
        every = λ tip child b.
            e.every tip child (branch_there u t (agree_back t u g) (well_formed_together t u g w) k.author k.last tip child b);
      }
    where
      order : (j i : ℕ) → tip_at l j ≤ t.counts.rows → tip_at l i ≤ t.counts.rows
          → comes_before (piece_at t.ids (tip_at l i)) (piece_at t.ids (tip_at l j)) ≡ true
          → comes_before (piece_at u.ids (tip_at l i)) (piece_at u.ids (tip_at l j)) ≡ true
      order j i h o b =
          ap (λ (s : List ℕ). comes_before s (piece_at u.ids (tip_at l j))) (sym (agree_ids t u w g.within (tip_at l i) o))
          ∙ ap (comes_before (piece_at t.ids (tip_at l i))) (sym (agree_ids t u w g.within (tip_at l j) h)) ∙ b

  -- a valid forked state is one there,
  valid_there : WellFormed t → (k : LogState) → ValidIn t k → ValidIn u k
  valid_there w k v = state_stays t u (agree_later t u g y z w) k v

  reviewed_there : (k : LogState) → Reviewed t k → Reviewed u k
  reviewed_there k r =
      record { well_formed = well_formed_together t u g r.well_formed; state = valid_there r.well_formed k r.state; forked = r.forked }

  -- and what is not valid is not valid there.
  invalid_there : WellFormed t → (k : LogState) → (ValidIn t k → ⊥) → ValidIn u k → ⊥
  invalid_there w k f v = f (state_stays u t (agree_later u t (agree_back t u g) z y (well_formed_together t u g w)) k v)

  refused_there : (k : LogState) (out : List ℕ) (n : ℕ) → NotListed t k out n → NotListed u k out n
  refused_there k out n (NotListed.not_well_formed e f) = NotListed.not_well_formed e (λ w. f (well_formed_together u t (agree_back t u g) w))
  refused_there k out n (NotListed.not_valid e w f) = NotListed.not_valid e (well_formed_together t u g w) (invalid_there w k f)
  refused_there k out n (NotListed.whole e w v p) = NotListed.whole e (well_formed_together t u g w) (valid_there w k v) p
  refused_there k out n (NotListed.no_room e r s) =
      NotListed.no_room e (reviewed_there k r)
      (record {
        result = s.result;
        many = s.many;
        branches = all_there r.well_formed k s.result s.many s.branches;
        size = s.size;
        short = s.short;
      })

  lists_there : (k : LogState) (out out' : List ℕ) (r : Result ℕ Refusal) → ListsBranches t k out out' r → ListsBranches u k out out' r
  lists_there k out out' (Ok n) d =
      let v = d.wrote in
      record {
        accepted = reviewed_there k d.accepted;
        wrote = record {
          many = v.many;
          count = v.count;
          room = v.room;
          same_room = v.same_room;
          branches = all_there d.accepted.well_formed k out' v.many v.branches;
          beyond = v.beyond;
        };
      }
  lists_there k out out' (Err why) d = (refused_there k out _ d.0, d.1)

-- Over tables that agree within the counts the call promises the same, and so answers and leaves the same.
module _ (t u : Table) (g : Agree t u) (y : Bytes t.ids) (z : Bytes u.ids) where
  pub review_beyond : (k : LogState) (out out' : List ℕ) (r : Result ℕ Refusal) → ListsBranches t k out out' r ↔ ListsBranches u k out out' r
  review_beyond k out out' r = (lists_there t u g y z k out out' r, lists_there u t (agree_back t u g) z y k out out' r)

  pub same_review : (k : LogState) (out i j : List ℕ) (r q : Result ℕ Refusal) → ListsBranches t k out i r → ListsBranches u k out j q → (r ≡ q) × (i ≡ j)
  same_review k out i j r q p o = one_answer u k out r q i j ((review_beyond k out i r).0 p) o
