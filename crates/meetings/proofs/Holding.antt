-- The meetings can be held: with room for five numbers an author no merge of a meeting is refused.
-- Assumes nothing.
use Rattle.std.specs.Prelude.{Err}
use Prim.Native.Nat.{ℕ, ◌*◌}
use mathlib.Core.Path.{refl}
use mathlib.Core.List.{List}
use native.Mathlib.Omega.{arith}
use borrow.Author.Tests.{eq-eqb, ne_eqb}
use lib.Dec.{eqb}
use lib.ListN.{length, take, replicate, length-replicate}
use lib.Seq.{paste}
use Rattle.basics.specs.Pick.{pick}
use Rattle.basics.proofs.Tests.{by_ltb}
use Rattle.store.specs.Table.{Table}
use Rattle.logs.specs.Held.{chain_of}
use Rattle.frontiers.specs.Numbers.{entry_width}
use Rattle.frontiers.specs.Merging.{merged_numbers}
use Rattle.frontiers.specs.Calls.{TwoFrontiers, NotMerged, MergesInto}
use Rattle.frontiers.proofs.Calls.{written_merged, numbers_short}
use Rattle.frontiers.proofs.Rooms.{room_enough}
use Rattle.answers.specs.declared.Refusal.{Refusal}
use Rattle.answers.specs.declared.Refusal.TheVariants.{Room}
use Rattle.meetings.specs.Meetings.{Studio, Shown, Starts, Meeting, Meets, Meetings, start, ◌then◌, Held, Among}
use Rattle.meetings.specs.Shows.{CanBeHeld, MergeIsDone, RoomEnough}
use Rattle.meetings.proofs.Showing.{shows_valid}

module _ (t : Table) (n : ℕ) (s : Shown) (g : Starts t n s) where
  -- Frontiers of two studios that have met may be merged.
  two_shown : (ms : Meetings) (u : Shown) → Held t n s ms u → (i j : ℕ) → Studio n i → Studio n j → TwoFrontiers t (u i) (u j)
  two_shown ms u h i j p q =
      record { well_formed = g.store; first = shows_valid t n s g ms u h i p; second = shows_valid t n s g ms u h j q }

  -- NO ANSWER IS 21: at any moment, and whichever two studios meet next, the merge is not refused where its room has five numbers an author.
  pub never_refused : (ms : Meetings) (u : Shown) → Held t n s ms u → (i j : ℕ) → Studio n i → Studio n j
      → (room after : List ℕ) (why : Refusal) → RoomEnough t room → MergesInto t (u i) (u j) room after (Err why) → ⊥
  never_refused ms u h i j p q room after why e = room_enough t g.store g.bytes (u i) (u j) room after why (two_shown ms u h i j p q) e

  -- And it is done.
  pub then_merged : (ms : Meetings) (u : Shown) → Held t n s ms u → (i j : ℕ) → Studio n i → Studio n j → (room : List ℕ) → RoomEnough t room
      → MergeIsDone t (u i) (u j) room
  then_merged ms u h i j p q room e =
      let a = two_shown ms u h i j p q in
      let text = merged_numbers (chain_of t) t.counts.authors (u i) (u j) in
      by_ltb (λ _. MergeIsDone t (u i) (u j) room) (length room) (length text)
      (λ l.
      absurd (never_refused ms u h i j p q room room Room e (NotMerged.no_room refl a (numbers_short t (u i) (u j) g.bytes a room l), refl)))
      (λ l.
      record {
        after = paste room 0 text (length text);
        count = length text;
        merges = (
          a,
          written_merged t (u i) (u j) g.bytes a room (paste room 0 text (length text)) (length text) l
              (record { content = refl; grown = omega arith }),
        );
      })

  -- What the studios show when the frontier of the one has been replaced.
  afterwards : Shown → ℕ → List ℕ → Shown
  afterwards u one f i = pick (eqb i one) f (u i)

  -- So the next meeting is one.
  next_meets : (u : Shown) (m : Meeting) (room : List ℕ) → Studio n m.one → Studio n m.other → (x : MergeIsDone t (u m.one) (u m.other) room)
      → Meets t n u m (afterwards u m.one (take x.count x.after))
  unfolding afterwards
  next_meets u m room p q x =
      record {
        one = p;
        other = q;
        room = room;
        after = x.after;
        count = x.count;
        merges = x.merges;
        replaced = rw (eq-eqb m.one m.one refl);
        others = λ i _ d. rw (ne_eqb i m.one d);
      }

  -- A list with room for five numbers an author, and no more.
  blank : List ℕ
  blank = replicate (t.counts.authors * entry_width) 0

  blank_room : RoomEnough t blank
  unfolding blank
  blank_room = rw (length-replicate {A = ℕ} (t.counts.authors * entry_width) 0) (omega arith)

  -- THE MEETINGS CAN BE HELD, whatever they are, in rooms of that size.
  pub meetings_held : (ms : Meetings) → Among n ms → CanBeHeld t n s ms
  meetings_held start a = record { shown = s; held = Held.begun }
  meetings_held (ms then m) a =
      let h = meetings_held ms a.0 in
      let x = then_merged ms h.shown h.held m.one m.other a.1.0 a.1.1 blank blank_room in
      record {
        shown = afterwards h.shown m.one (take x.count x.after);
        held =
            Held.met h.shown (afterwards h.shown m.one (take x.count x.after)) h.held
            (next_meets h.shown m blank a.1.0 a.1.1 x);
      }
