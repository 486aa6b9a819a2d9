-- Five numbers an author are room enough: with them no call on valid frontiers is refused, and so calls over valid frontiers and
-- rows have a run that is done. The ids are bytes, as a lent part's are.
-- Assumes nothing.
use Rattle.std.specs.Prelude.{Ok, Err}
use Prim.Native.Nat.{ℕ, ◌*◌, ◌≤◌}
use mathlib.Core.Path.{refl}
use mathlib.Core.List.{List, ◌++◌}
use native.Mathlib.Omega.{arith}
use lib.ListN.{length, take, replicate, length-append, length-replicate}
use lib.Seq.{paste}
use Rattle.basics.proofs.Tests.{by_ltb}
use Rattle.answers.specs.declared.Refusal.{Refusal}
use Rattle.basics.specs.Bytes.{Bytes}
use Rattle.store.specs.Table.{Table, WellFormed}
use Rattle.logs.specs.Held.{chain_of}
use Rattle.frontiers.specs.Entries.{flat}
use Rattle.frontiers.specs.Merging.{merged_numbers}
use Rattle.frontiers.specs.Calls.{MergedInto, NoRoomFor, TwoFrontiers, NotMerged, MergesInto}
use Rattle.frontiers.specs.Appending.{row_frontier, Held, AppendAccepted, NotAppended, AppendsEntry}
use Rattle.frontiers.specs.Trees.{FrontierCalls, given, merging, appending, Ran, Proper, Runs}
use Rattle.frontiers.proofs.Calls.{written_merged, numbers_short}
use Rattle.frontiers.proofs.Appends.{frontier_few, append_pair}
use Rattle.frontiers.proofs.Answers.{accepted_compared, result_valid}
use Rattle.frontiers.proofs.Wrote.{wrote_length, appended_length}
use Rattle.frontiers.proofs.Trees.{runs_end}

module _ (t : Table) (w : WellFormed t) (b : Bytes t.ids) where
  -- No merged frontier has more than five numbers an author, so that is room enough.
  enough : (f g out : List ℕ) → TwoFrontiers t f g → t.counts.authors * 5 ≤ length out → NoRoomFor t f g out → ⊥
  enough f g out a h n =
      let k = frontier_few t b w (flat n.result) (result_valid t b f g out a n.result n.merged) in
      let l = n.short in
      omega arith

  -- With that room no merge of valid frontiers is refused,
  pub room_enough : (f g out out' : List ℕ) (why : Refusal) → TwoFrontiers t f g → t.counts.authors * 5 ≤ length out
      → MergesInto t f g out out' (Err why) → ⊥
  room_enough f g out out' why a h (NotMerged.not_sound c, e) = accepted_compared a c
  room_enough f g out out' why a h (NotMerged.no_room e c n, d) = enough f g out a h n

  -- and no append of a row to a valid frontier.
  pub append_room_enough : (f : List ℕ) (used x : ℕ) (f' : List ℕ) (why : Refusal) → AppendAccepted t f used x → t.counts.authors * 5 ≤ length f
      → AppendsEntry t f used x f' (Err why) → ⊥
  append_room_enough f used x f' why a h (NotAppended.not_well_formed e n, d) = n w
  append_room_enough f used x f' why a h (NotAppended.not_valid e u n, d) = n a.frontier
  append_room_enough f used x f' why a h (NotAppended.not_a_row e u v n, d) = n a.row
  append_room_enough f used x f' why a h (NotAppended.no_room e u v i n, d) =
      enough (take used f) (row_frontier t.rows x) f (append_pair t b w f used x a) h n

  -- A list in which the merged frontier stands.
  record Filled (f g out : List ℕ) : Type 0 where
    count : ℕ
    list : List ℕ
    into : MergedInto t f g out list count

  -- With that room there is one.
  fill : (f g out : List ℕ) → TwoFrontiers t f g → t.counts.authors * 5 ≤ length out → Filled f g out
  fill f g out a h =
      let text = merged_numbers (chain_of t) t.counts.authors f g in
      by_ltb (λ _. Filled f g out) (length out) (length text)
      (λ l. absurd (enough f g out a h (numbers_short t f g b a out l)))
      (λ l.
      record {
        count = length text;
        list = paste out 0 text (length text);
        into = written_merged t f g b a out (paste out 0 text (length text)) (length text) l (record { content = refl; grown = omega arith });
      })

  -- A blank list with that room.
  blank : List ℕ
  blank = replicate (t.counts.authors * 5) 0

  blank_room : t.counts.authors * 5 ≤ length blank
  unfolding blank
  blank_room = rw (length-replicate {A = ℕ} (t.counts.authors * 5) 0) (omega arith)

  -- A merge of what was done, and an append to it, is done.
  run_merged : (c d : FrontierCalls) → Proper t c → Proper t d → Runs t c → Runs t d → Runs t (merging c d)
  run_merged c d p q x y =
      let f = take x.count x.list in
      let g = take y.count y.list in
      let a : TwoFrontiers t f g = record {
        well_formed = w;
        first = (runs_end t w b c (Ok x.count) x.list p x.ran).1.valid;
        second = (runs_end t w b d (Ok y.count) y.list q y.ran).1.valid;
      } in
      let s = fill f g blank a blank_room in
      let e = wrote_length t f g blank s.list s.count (a, s.into) in
      record {
        count = s.count;
        list = s.list;
        room = rw e blank_room;
        ran = Ran.merged x.count y.count x.list y.list blank s.list (Ok s.count) x.ran y.ran (a, s.into);
      }

  run_appended : (c : FrontierCalls) (x : ℕ) → Proper t c → Held t x → Runs t c → Runs t (appending c x)
  run_appended c x p h y =
      let i = runs_end t w b c (Ok y.count) y.list p y.ran in
      let a : AppendAccepted t y.list y.count x = record { well_formed = w; frontier = record { within = i.0; valid = i.1.valid }; row = h } in
      let s = fill (take y.count y.list) (row_frontier t.rows x) y.list (append_pair t b w y.list y.count x a) y.room in
      let e = appended_length t y.list y.count x s.list s.count b (a, s.into) in
      record {
        count = s.count;
        list = s.list;
        room = rw e y.room;
        ran = Ran.appended y.count x y.list s.list (Ok s.count) y.ran (a, s.into);
      }

  -- Any tree of merges and appends over valid frontiers and rows has a run that is done.
  pub runs_exist : (c : FrontierCalls) → Proper t c → Runs t c
  runs_exist (given f) p =
      record { count = length f; list = f ++ blank; room = rw (length-append f blank) (omega (arith, blank_room)); ran = Ran.lent f blank }
  runs_exist (merging c d) p = run_merged c d p.0 p.1 (runs_exist c p.0) (runs_exist d p.1)
  runs_exist (appending c x) p = run_appended c x p.0 p.1 (runs_exist c p.0)
