-- "Entries beyond the counts are never read": over two tables that agree within the counts each call on frontiers keeps its promise
-- with the same answers and lists, so its answer and what it leaves are the same. The ids are bytes, as a lent part's are.
-- Assumes nothing.
use Rattle.std.specs.Prelude.{Bool, Result, Ok, Err}
use Rattle.answers.specs.declared.Refusal.{Refusal}
use Prim.Native.Nat.{ℕ}
use mathlib.Core.Path.{◌≡◌, subst}
use mathlib.Core.Logic.{◌↔◌}
use mathlib.Core.List.{List}
use lib.ListN.{take}
use Rattle.basics.proofs.Decisions.{decides_same}
use Rattle.answers.specs.Number.{number_of}
use Rattle.basics.specs.Bytes.{Bytes}
use Rattle.store.specs.Table.{Table, WellFormed}
use Rattle.store.specs.Agree.{Agree}
use Rattle.store.proofs.Agreeing.{well_formed_together, agree_back}
use Rattle.logs.specs.Later.{Later}
use Rattle.logs.proofs.Beyond.{agree_later}
use Rattle.frontiers.specs.Calls.{FrontierOf, NoRoomFor, NotChecked, NotCompared, NotMerged, ChecksFrontier, ComparesFrontiers, MergesInto}
use Rattle.frontiers.specs.Appending.{row_frontier, NotAppended, AppendAccepted, AppendsEntry}
use Rattle.frontiers.proofs.Appends.{append_pair}
use Rattle.frontiers.proofs.Stays.{frontier_stays, two_stay, into_stays, short_stays, below_stays, row_stays, row_same, held_stays, accepted_stays}
use Rattle.frontiers.proofs.Stays.{entry_stays}
use Rattle.frontiers.proofs.Answers.{merge_answers_once}
use Rattle.frontiers.proofs.Once.{check_answers_once, compare_answers_once, append_answers_once}

-- What a call promises over a table, it promises over the other.
module _ (t u : Table) (g : Agree t u) (y : Bytes t.ids) (z : Bytes u.ids) where
  back : Agree u t
  back = agree_back t u g

  -- The one table after the other.
  ahead : WellFormed t → Later t u
  ahead w = agree_later t u g y z w

  behind : WellFormed u → Later u t
  behind w = agree_later u t back z y w

  -- A valid frontier is valid there.
  pub frontier_there : WellFormed t → (f : List ℕ) → FrontierOf t f → FrontierOf u f
  frontier_there w = frontier_stays t u (ahead w)

  -- What is not well formed is not well formed there, and what is no frontier is none there.
  unformed : (WellFormed t → ⊥) → WellFormed u → ⊥
  unformed f w = f (well_formed_together u t back w)

  no_frontier : WellFormed t → (f : List ℕ) → (FrontierOf t f → ⊥) → FrontierOf u f → ⊥
  no_frontier w f n v = n (frontier_stays u t (behind (well_formed_together t u g w)) f v)

  checks_there : (f : List ℕ) (r : Result Bool Refusal) → ChecksFrontier t f r → ChecksFrontier u f r
  checks_there f (Ok b) (w, d) =
      let x = well_formed_together t u g w in
      (x, decides_same (frontier_there w f) (frontier_stays u t (behind x) f) d)
  checks_there f (Err why) (NotChecked.not_well_formed e n) = NotChecked.not_well_formed e (unformed n)

  refused_there : (f h : List ℕ) (n : ℕ) → NotCompared t f h n → NotCompared u f h n
  refused_there f h n (NotCompared.not_well_formed e k) = NotCompared.not_well_formed e (unformed k)
  refused_there f h n (NotCompared.first_not_valid e w k) = NotCompared.first_not_valid e (well_formed_together t u g w) (no_frontier w f k)
  refused_there f h n (NotCompared.second_not_valid e w v k) =
      NotCompared.second_not_valid e (well_formed_together t u g w) (frontier_there w f v) (no_frontier w h k)

  compares_there : (f h : List ℕ) (r : Result Bool Refusal) → ComparesFrontiers t f h r → ComparesFrontiers u f h r
  compares_there f h (Ok b) (a, d) =
      let w = a.well_formed in
      let e = below_stays t u (ahead w) f h a in
      (two_stay t u (ahead w) f h a, decides_same e.0 e.1 d)
  compares_there f h (Err why) n = refused_there f h (number_of why) n

  merges_there : (f h out out' : List ℕ) (r : Result ℕ Refusal) → MergesInto t f h out out' r → MergesInto u f h out out' r
  merges_there f h out out' (Ok n) (a, m) =
      let w = a.well_formed in
      (two_stay t u (ahead w) f h a, into_stays t u (ahead w) f h out out' n a m)
  merges_there f h out out' (Err why) (NotMerged.not_sound c, e) = (NotMerged.not_sound (refused_there f h (number_of why) c), e)
  merges_there f h out out' (Err why) (NotMerged.no_room n a s, e) =
      let w = a.well_formed in
      (NotMerged.no_room n (two_stay t u (ahead w) f h a) (short_stays t u (ahead w) f h out a s), e)

  appends_there : (f : List ℕ) (used x : ℕ) (f' : List ℕ) (r : Result ℕ Refusal) → AppendsEntry t f used x f' r → AppendsEntry u f used x f' r
  appends_there f used x f' (Ok n) (a, m) =
      let w = a.well_formed in
      (accepted_stays t u (ahead w) f used x a, entry_stays t u (ahead w) f used x f' n a m)
  appends_there f used x f' (Err why) (NotAppended.not_well_formed e k, d) = (NotAppended.not_well_formed e (unformed k), d)
  appends_there f used x f' (Err why) (NotAppended.not_valid e w k, d) =
      let o = well_formed_together t u g w in
      (NotAppended.not_valid e o (λ h. k (held_stays u t (behind o) f used h)), d)
  appends_there f used x f' (Err why) (NotAppended.not_a_row e w v k, d) =
      let o = well_formed_together t u g w in
      (NotAppended.not_a_row e o (held_stays t u (ahead w) f used v) (λ h. k (row_stays u t (behind o) x h)), d)
  appends_there f used x f' (Err why) (NotAppended.no_room e w v i k, d) =
      let a : AppendAccepted t f used x = record { well_formed = w; frontier = v; row = i } in (
        NotAppended.no_room e (well_formed_together t u g w) (held_stays t u (ahead w) f used v) (row_stays t u (ahead w) x i)
            (subst (λ (h : List ℕ). NoRoomFor u (take used f) h f) (row_same t u (ahead w) x i)
            (short_stays t u (ahead w) (take used f) (row_frontier t.rows x) f (append_pair t y w f used x a) k)),
        d,
      )

-- Over tables that agree within the counts a call promises the same, and so answers and leaves the same.
module _ (t u : Table) (g : Agree t u) (y : Bytes t.ids) (z : Bytes u.ids) where
  pub check_beyond : (f : List ℕ) (r : Result Bool Refusal) → ChecksFrontier t f r ↔ ChecksFrontier u f r
  check_beyond f r = (checks_there t u g y z f r, checks_there u t (agree_back t u g) z y f r)

  pub frontier_order_beyond : (f h : List ℕ) (r : Result Bool Refusal) → ComparesFrontiers t f h r ↔ ComparesFrontiers u f h r
  frontier_order_beyond f h r = (compares_there t u g y z f h r, compares_there u t (agree_back t u g) z y f h r)

  pub frontier_beyond : (f h out out' : List ℕ) (r : Result ℕ Refusal) → MergesInto t f h out out' r ↔ MergesInto u f h out out' r
  frontier_beyond f h out out' r = (merges_there t u g y z f h out out' r, merges_there u t (agree_back t u g) z y f h out out' r)

  pub entry_beyond : (f : List ℕ) (used x : ℕ) (f' : List ℕ) (r : Result ℕ Refusal) → AppendsEntry t f used x f' r ↔ AppendsEntry u f used x f' r
  entry_beyond f used x f' r = (appends_there t u g y z f used x f' r, appends_there u t (agree_back t u g) z y f used x f' r)

  pub same_check : (f : List ℕ) (r q : Result Bool Refusal) → ChecksFrontier t f r → ChecksFrontier u f q → r ≡ q
  same_check f r q p = check_answers_once u f r q ((check_beyond f r).0 p)

  pub same_frontier_order : (f h : List ℕ) (r q : Result Bool Refusal) → ComparesFrontiers t f h r → ComparesFrontiers u f h q → r ≡ q
  same_frontier_order f h r q p = compare_answers_once u f h r q ((frontier_order_beyond f h r).0 p)

  pub same_frontier : (f h out i j : List ℕ) (r q : Result ℕ Refusal) → MergesInto t f h out i r → MergesInto u f h out j q → (r ≡ q) × (i ≡ j)
  same_frontier f h out i j r q p = merge_answers_once u z f h out i j r q ((frontier_beyond f h out i r).0 p)

  pub same_entry : (f : List ℕ) (used x : ℕ) (i j : List ℕ) (r q : Result ℕ Refusal) → AppendsEntry t f used x i r → AppendsEntry u f used x j q → (r ≡ q) × (i ≡ j)
  same_entry f used x i j r q p = append_answers_once u z f used x i j r q ((entry_beyond f used x i r).0 p)
