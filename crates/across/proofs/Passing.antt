-- Frontiers that are merged and sent through stores, held against the same merges over one store that holds all that was given.
-- Assumes nothing.
use Rattle.std.specs.Prelude.{Ok}
use Prim.Native.Nat.{ℕ}
use mathlib.Core.Path.{◌≡◌, refl, sym, ap, ◌∙◌}
use mathlib.Core.Logic.{inl, inr}
use mathlib.Core.List.{List}
use lib.ListN.{take}
use lib.Seq.{take-append_seam}
use Rattle.store.specs.Table.{Table}
use Rattle.frontiers.specs.Entries.{flat}
use Rattle.frontiers.specs.Numbers.{entries_of}
use Rattle.frontiers.specs.Calls.{FrontierOf, MergesInto}
use Rattle.frontiers.specs.Trees.{FrontierCalls, Ran, Proper}
use Rattle.frontiers.specs.Trees.FrontierCalls.{given as starts, merging as joins}
use Rattle.frontiers.proofs.Trees.{runs_end}
use Rattle.frontiers.proofs.Wrote.{wrote_merged, wrote_valid}
use Rattle.standing.specs.Standing.{standing, SameStanding}
use Rattle.standing.specs.Sending.{Sent, IsSent}
use Rattle.standing.specs.Reading.{Known, read_entries}
use Rattle.standing.proofs.Sent.{sent_exists}
use Rattle.across.specs.Passing.{Passing, given, Passed, AllAgree, HoldsGiven}
use Rattle.across.proofs.Merging.{merged_same}
use Rattle.across.proofs.Theorems.{entries, read_there}

module _ (In : Table → Type 0) (agree : AllAgree In) (v : Table) (iv : In v) where
  -- The same merges over `v`: they come to a frontier that says the same.
  pub record Mirror (t : Table) (f : List ℕ) : Type 0 where
    pub store : In t
    pub valid : FrontierOf t f
    pub calls : FrontierCalls
    pub proper : Proper v calls
    pub ends : (n : ℕ) (l : List ℕ) → Ran v calls (Ok n) l → SameStanding t (entries_of f) v (entries_of (take n l))

  -- A run over `v` ends in a valid frontier.
  pub ends_valid : (c : FrontierCalls) → Proper v c → (n : ℕ) (l : List ℕ) → Ran v c (Ok n) l → FrontierOf v (take n l)
  ends_valid c p n l r = let s = agree v v iv iv in (runs_end v s.first s.first_ids c (Ok n) l p r).1.valid

  -- A frontier that is lent is what a run of it alone ends in.
  pub lent_ends : (g : List ℕ) (n : ℕ) (l : List ℕ) → Ran v (starts g) (Ok n) l → take n l ≡ g
  lent_ends g n l (Ran.lent f room) = take-append_seam f room

  -- A frontier that is given is read over `v`.
  mirror_given : (t : Table) (f : List ℕ) → In t → FrontierOf t f → HoldsGiven v (given t f) → Mirror t f
  mirror_given t f i w h =
      let s = agree t v i iv in
      let x = sent_exists t s.first (entries_of f) (entries t f w) in
      let r = read_there t v s f x.0 w x.1 (h t f (refl, refl) x.0 x.1) in
      let g = flat (read_entries v x.0) in
      record {
        store = i;
        valid = w;
        calls = starts g;
        proper = r.valid;
        ends = λ n l q k. r.standing k ∙ ap (λ z. standing v (entries_of z) k) (sym (lent_ends g n l q));
      }

  -- What a run of a merge ends in: the merge of what two runs ended in.
  pub record Split (c d : FrontierCalls) (n : ℕ) (l : List ℕ) : Type 0 where
    pub first_count : ℕ
    pub second_count : ℕ
    pub first_list : List ℕ
    pub second_list : List ℕ
    pub room : List ℕ
    pub first : Ran v c (Ok first_count) first_list
    pub second : Ran v d (Ok second_count) second_list
    pub merges : MergesInto v (take first_count first_list) (take second_count second_list) room l (Ok n)

  pub split : (c d : FrontierCalls) (n : ℕ) (l : List ℕ) → Ran v (joins c d) (Ok n) l → Split c d n l
  split c d n l (Ran.merged i m k o out out' r x y q) =
      record {
        first_count = i;
        second_count = m;
        first_list = k;
        second_list = o;
        room = out;
        first = x;
        second = y;
        merges = q;
      }

  -- A merge is the merge over `v`.
  mirror_merged : (t : Table) (f g out out' : List ℕ) (n : ℕ) → Mirror t f → Mirror t g → MergesInto t f g out out' (Ok n) → Mirror t (take n out')
  mirror_merged t f g out out' n x y m =
      let w = wrote_valid t f g out out' n m (agree t v x.store iv).first_ids in
      record {
        store = x.store;
        valid = w;
        calls = joins x.calls y.calls;
        proper = (x.proper, y.proper);
        ends = λ k l r. ends k l w (split x.calls y.calls k l r);
      }
    where
      ends : (k : ℕ) (l : List ℕ) → FrontierOf t (take n out') → Split x.calls y.calls k l
          → SameStanding t (entries_of (take n out')) v (entries_of (take k l))
      ends k l w r =
          let a = take r.first_count r.first_list in
          let b = take r.second_count r.second_list in
          let va = ends_valid x.calls x.proper r.first_count r.first_list r.first in
          let vb = ends_valid y.calls y.proper r.second_count r.second_list r.second in
          let vc = wrote_valid v a b r.room l k r.merges (agree v v iv iv).first_ids in
          merged_same t v (agree t v x.store iv) (entries_of f) (entries_of g) (entries_of (take n out')) (entries_of a) (entries_of b) (entries_of (take k l))
          (entries t f x.valid) (entries t g y.valid) (entries t (take n out') w) (entries v a va) (entries v b vb) (entries v (take k l) vc)
          (x.ends r.first_count r.first_list r.first) (y.ends r.second_count r.second_list r.second)
          (wrote_merged t f g out out' n m) (wrote_merged v a b r.room l k r.merges)

  -- What is sent is over `v` what it was.
  mirror_sent : (t u : Table) (f : List ℕ) (ws : List Sent) → Mirror t f → In u → IsSent t (entries_of f) ws → Known u ws
      → Mirror u (flat (read_entries u ws))
  mirror_sent t u f ws x i e h =
      let r = read_there t u (agree t u x.store i) f ws x.valid e h in
      record { store = i; valid = r.valid; calls = x.calls; proper = x.proper; ends = λ n l q k. sym (r.standing k) ∙ x.ends n l q k }

  -- So has every way the same merges over `v`.
  pub mirrored : {p : Passing} {t : Table} {f : List ℕ} → Passed In p t f → HoldsGiven v p → Mirror t f
  mirrored (Passed.lent t f i w) h = mirror_given t f i w h
  mirrored (Passed.merged t f g out out' n x y m) h =
      mirror_merged t f g out out' n (mirrored x (λ u k e. h u k (inl e))) (mirrored y (λ u k e. h u k (inr e))) m
  mirrored (Passed.sent t u f ws x i e k) h = mirror_sent t u f ws (mirrored x h) i e k
