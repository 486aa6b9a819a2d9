-- Frontiers can be merged and sent in whatever way over stores that hold what was given: so the theorem of all ways speaks of something.
-- Assumes nothing.
use Rattle.std.specs.Prelude.{Ok}
use Prim.Native.Nat.{ℕ}
use mathlib.Core.Path.{sym, subst}
use mathlib.Core.Logic.{inl, inr}
use mathlib.Core.List.{List}
use lib.ListN.{take}
use Rattle.store.specs.Table.{Table}
use Rattle.frontiers.specs.Entries.{flat}
use Rattle.frontiers.specs.Numbers.{entries_of}
use Rattle.frontiers.specs.Calls.{FrontierOf, MergesInto}
use Rattle.frontiers.specs.Trees.FrontierCalls.{given as starts, merging as joins}
use Rattle.frontiers.proofs.Rooms.{runs_exist}
use Rattle.standing.specs.Sending.{Sent, IsSent}
use Rattle.standing.specs.Reading.{Known, read_entries}
use Rattle.standing.proofs.Sent.{sent_exists}
use Rattle.standing.proofs.Knowing.{sent_known}
use Rattle.across.specs.Passing.{Passing, given, merging, sending, Passed, HoldsGiven, AllAgree, Placed}
use Rattle.across.proofs.Theorems.{entries}
use Rattle.across.proofs.Passing.{lent_ends, split, ends_valid, mirrored}

module _ (In : Table → Type 0) (agree : AllAgree In) where
  -- What is placed comes over one of the stores.
  placed_in : (p : Passing) (t : Table) → Placed In p t → In t
  placed_in (given t f) u h = subst In (sym h.0) h.1.0
  placed_in (merging p q) u h = placed_in p u h.0
  placed_in (sending p v) u h = subst In (sym h.0) h.1.0

  -- What came over a store is a valid frontier of it.
  came_valid : (p : Passing) (t : Table) (f : List ℕ) → In t → Passed In p t f → HoldsGiven t p → FrontierOf t f
  came_valid p t f i x h = (mirrored In agree t i x h).valid

  -- Two valid frontiers have a merge, where there is room.
  record Joined (t : Table) (f g : List ℕ) : Type 0 where
    count : ℕ
    room : List ℕ
    list : List ℕ
    merges : MergesInto t f g room list (Ok count)

  joined : (t : Table) (f g : List ℕ) → In t → FrontierOf t f → FrontierOf t g → Joined t f g
  joined t f g i v w =
      let s = agree t t i i in
      let r = runs_exist t s.first s.first_ids (joins (starts f) (starts g)) (v, w) in
      let x = split In agree t i (starts f) (starts g) r.count r.list r.ran in
      let a = lent_ends In agree t i f x.first_count x.first_list x.first in
      let b = lent_ends In agree t i g x.second_count x.second_list x.second in
      record {
        count = r.count;
        room = x.room;
        list = r.list;
        merges = subst (λ (k : List ℕ). MergesInto t f k x.room r.list (Ok r.count)) b
            (subst (λ (k : List ℕ). MergesInto t k (take x.second_count x.second_list) x.room r.list (Ok r.count)) a x.merges);
      }

  -- What came over a store is known to every store that holds what was given.
  known_there : (p : Passing) (t u : Table) (f : List ℕ) → In t → In u → Passed In p t f → HoldsGiven u p
      → (ws : List Sent) → IsSent t (entries_of f) ws → Known u ws
  known_there p t u f i j x h ws e =
      let s = agree u u j j in
      let m = mirrored In agree u j x h in
      let r = runs_exist u s.first s.first_ids m.calls m.proper in
      let g = take r.count r.list in
      sent_known t u s.first (entries_of f) (entries_of g) ws
      (entries u g (ends_valid In agree u j m.calls m.proper r.count r.list r.ran))
      (m.ends r.count r.list r.ran) e

  -- Every way that is placed can be taken, where each store holds what was given.
  pub passing_done : (p : Passing) (t : Table) → Placed In p t → ((u : Table) → In u → HoldsGiven u p) → (f : List ℕ) × Passed In p t f
  passing_done (given t f) u a h = (f, subst (λ (z : Table). Passed In (given t f) z f) (sym a.0) (Passed.lent t f a.1.0 a.1.1))
  passing_done (merging p q) u a h =
      let x = passing_done p u a.0 (λ v i w k e. h v i w k (inl e)) in
      let y = passing_done q u a.1 (λ v i w k e. h v i w k (inr e)) in
      let i = placed_in p u a.0 in
      let v = came_valid p u x.0 i x.1 (λ w k e. h u i w k (inl e)) in
      let w = came_valid q u y.0 i y.1 (λ w k e. h u i w k (inr e)) in
      let j = joined u x.0 y.0 i v w in
      (take j.count j.list, Passed.merged u x.0 y.0 j.room j.list j.count x.1 y.1 j.merges)
  passing_done (sending p v) u a h =
      let t = a.1.1.0 in
      let x = passing_done p t a.1.1.1 h in
      let i = placed_in p t a.1.1.1 in
      let s = agree t t i i in
      let ws = sent_exists t s.first (entries_of x.0) (entries t x.0 (came_valid p t x.0 i x.1 (h t i))) in
      let k = known_there p t v x.0 i a.1.0 x.1 (h v a.1.0) ws.0 ws.1 in
      let f = flat (read_entries v ws.0) in
      (f, subst (λ (z : Table). Passed In (sending p v) z f) (sym a.0) (Passed.sent t v x.0 ws.0 x.1 a.1.0 ws.1 k))
