-- What the verdict gives to the one who writes.
-- Assumes nothing.
use Rattle.std.specs.Prelude.{Result, Ok, Err}
use Prim.Native.Nat.{ℕ, ◌+◌, ◌≤◌}
use mathlib.Core.Path.{◌≡◌, refl, sym, ◌∙◌}
use mathlib.Core.List.{List}
use mathlib.Core.Logic.{⊎_elim}
use native.Mathlib.Omega.{arith}
use lib.ListN.{length}
use lib.Dec.{ltb}
use lib.Seq.{paste}
use Rattle.store.specs.Limits.{row_limit}
use Rattle.basics.specs.Chunk.{chunk_size}
use Rattle.basics.specs.Pick.{pick}
use Rattle.answers.specs.declared.Refusal.{Refusal}
use Rattle.basics.proofs.Chunks.{length_chunk}
use Rattle.chunks.specs.Piece.{put_at}
use Rattle.chunks.proofs.Finding.{place_some}
use Rattle.sha256.proofs.Result.{length_sha256_of}
use Rattle.item.specs.Id.{id_of}
use Rattle.item.specs.Layout.{layout_of, key_of, previous_of, hashed_of}
use Rattle.item.specs.declared.Fields.{Fields}
use Rattle.item.proofs.Laid.{sound_item}
use Rattle.item.proofs.Places.{item_length}
use Rattle.store.specs.Branches.{branches_with}
use Rattle.store.specs.Clauses.{table_of}
use Rattle.store.specs.Table.{Table, WellFormed, row_put}
use Rattle.store.specs.declared.lent.Counts.{Counts}
use Rattle.store.specs.declared.Row.{Row}
use Rattle.store.proofs.Facts.{index_within}
use Rattle.judging.specs.Message.{row_with, author_with, next_row, dep_rows}
use Rattle.judging.specs.Verdict.{row_for, judged_of, then_judged}
use Rattle.admission.specs.After.{Writable, counts_with, admitted, store_then, store_by, JudgedItem, Judged}
use Rattle.judging.specs.declared.Verdict.{Verdict}
use Rattle.judging.specs.declared.Verdict.TheVariants.{Fits, Holds, Breaks}
use Rattle.admission.specs.declared.Admitted.{Admitted}
use Rattle.admission.specs.declared.Admitted.TheVariants.{Done, Held, Refused}
use Rattle.judging.proofs.Older.{named_older}
use Rattle.judging.proofs.Passing.{Follows, starts, steps, passes, holds_row}
use Rattle.admission.proofs.Growing.{has_room}
use Rattle.admission.proofs.Joining.{author_numbered, joins, fits_keeps}
use Rattle.admission.proofs.Branching.{countable}
use Rattle.admission.proofs.Keeping.{placed}

-- An id has 32 bytes.
pub length_id : (s : List ℕ) → length (id_of s) ≡ chunk_size
length_id s = length_sha256_of (hashed_of s)

-- The key of an item has 32 bytes.
pub length_key : (s : List ℕ) (f : Fields) → layout_of s ≡ Ok f → length (key_of s) ≡ chunk_size
length_key s f e = length_chunk 7 s (omega (arith, item_length (sound_item s f e)))

-- A previous id of an item has 32 bytes.
pub length_previous : (s : List ℕ) (f : Fields) → layout_of s ≡ Ok f → length (previous_of s) ≡ chunk_size
length_previous s f e = length_chunk 39 s (omega (arith, item_length (sound_item s f e)))

-- A store that was well formed is well formed after a row that is given.
pub keeps_row : (t : Table) (s : List ℕ) (f : Fields) → WellFormed t → layout_of s ≡ Ok f → (row : Row) → judged_of t s f ≡ Fits row → WellFormed
    (admitted t s f row)
keeps_row t s f w e = fits_keeps t s f w (length_id s) (length_key s f e)

module _ (t : Table) (s : List ℕ) (f : Fields) (w : WellFormed t) (e : layout_of s ≡ Ok f) where
  -- The index of a message that follows is not above the number of rows.
  index_small : (p : ℕ) → Follows t s f p → f.index ≤ t.counts.rows + 1
  index_small p (starts i z) = omega arith
  index_small p (steps h g z o i) =
      let l = named_older t (previous_of s) in
      let k = index_within t w p (omega arith) in omega arith

  -- So is its previous row.
  prev_small : (p : ℕ) → Follows t s f p → p ≤ t.counts.rows
  prev_small p (starts i z) = omega arith
  prev_small p (steps h g z o i) = let l = named_older t (previous_of s) in omega arith

  -- A row that is given can be written.
  pub writable : (row : Row) (id : List ℕ) → id ≡ id_of s → judged_of t s f ≡ Fits row → Writable t s f id row
  writable row id g h =
      let q = passes t s f row h in
      let p = q.0 in
      let y = q.1.1 in
      let room = has_room t (row_for t s f p) y.room in
      let a = author_numbered t (key_of s) in
      let few = (sound_item s f e).count_limit_lem in
      let n : author_with t (key_of s) ≤ t.counts.authors + 1 =
      ⊎_elim (λ (x : author_with t (key_of s) ≤ t.counts.authors). omega arith) (λ (x : author_with t (key_of s) ≡ t.counts.authors + 1). omega arith)
      a.next in
      rw (q.1.0, g)
      (record {
        small = record {
          author = omega (arith, w.authors_limit, n);
          prev = omega (arith, room.rows_limit, prev_small p y.follows);
          index = omega (arith, room.rows_limit, index_small p y.follows);
          deps = omega (arith, few);
        };
        counted = refl;
        few = few;
        rows_limit = omega (arith, room.rows_limit);
        deps_limit = w.deps_limit;
        rows_place = room.rows_place;
        ids_place = room.ids_place;
        deps_place = room.deps_place;
        author_next = n;
        keys_place = λ k. let z = room.keys_place k in omega arith;
        countable = countable t (row_for t s f p) w room (placed t (row_for t s f p) (id_of s) (key_of s) (dep_rows t s f) w (joins t s f p y));
        key_sized = omega (arith, length_key s f e);
        id_sized = omega (arith, length_id s);
        id_is = refl;
      })

  -- A row that holds the item is a row of the store.
  pub held_within : (r : ℕ) → judged_of t s f ≡ Holds r → r ≤ t.counts.rows
  held_within r h =
      let q = holds_row t s f r h in
      let z : row_with t (id_of s) ≡ r = q.0 in
      let p = place_some t.ids (id_of s) t.counts.rows (rw z q.1) in
      rw z at p.within

  -- A row that is given is not above the most rows.
  pub row_free : (row : Row) → judged_of t s f ≡ Fits row → t.counts.rows + 1 ≤ row_limit
  row_free row h =
      let q = passes t s f row h in
      let room = has_room t (row_for t s f q.0) q.1.1.room in
      omega (arith, room.rows_limit)

module _ (t : Table) (s : List ℕ) (f : Fields) (v : Verdict) (g : v ≡ judged_of t s f) where
  -- The row was written.
  pub item_done : (row : Row) (u : Table) (n : ℕ) → v ≡ Fits row → u ≡ admitted t s f row → n ≡ next_row t → JudgedItem t s f u (Done n)
  unfolding store_then
  item_done row u n e h k = let z : judged_of t s f ≡ Fits row = sym g ∙ e in record { answer = rw (z, k); after = rw z h }

  -- The item is held.
  pub item_held : (r n : ℕ) → v ≡ Holds r → n ≡ r → JudgedItem t s f t (Held n)
  unfolding store_then
  item_held r n e k = let z : judged_of t s f ≡ Holds r = sym g ∙ e in record { answer = rw (z, k); after = rw z }

  -- A rule is broken.
  pub item_refused : (x : Refusal) → v ≡ Breaks x → JudgedItem t s f t (Refused x)
  unfolding store_then
  item_refused x e = let z : judged_of t s f ≡ Breaks x = sym g ∙ e in record { answer = rw z; after = rw z }

module _ (t : Table) (s : List ℕ) (l : Result Fields Refusal) (g : l ≡ layout_of s) where
  -- The layout is sound: the item is judged by its fields.
  pub layout_sound : (f : Fields) (u : Table) (a : Admitted) → l ≡ Ok f → JudgedItem t s f u a → Judged t s u a
  unfolding then_judged store_by
  layout_sound f u a e j = let z : layout_of s ≡ Ok f = sym g ∙ e in record { answer = rw z j.answer; after = rw z j.after }

  -- The layout is refused.
  pub layout_refused : (x : Refusal) → l ≡ Err x → Judged t s t (Refused x)
  unfolding then_judged store_by
  layout_refused x e = let z : layout_of s ≡ Err x = sym g ∙ e in record { answer = rw z; after = rw z }

-- The parts that were written are those of the store with the row.
pub written : (t : Table) (s : List ℕ) (f : Fields) (row : Row) (id key ks is rs ds bs : List ℕ) (c : Counts)
    → key ≡ key_of s → id ≡ id_of s
    → ks ≡ pick (ltb t.counts.authors row.author) (put_at t.keys row.author key) t.keys
    → is ≡ put_at t.ids (next_row t) id
    → rs ≡ row_put t.rows t.counts.rows row
    → ds ≡ paste t.deps t.counts.deps (dep_rows t s f) f.count
    → bs ≡ branches_with t.branches t.counts row
    → c ≡ counts_with t.counts row
    → table_of ks is rs ds bs c ≡ admitted t s f row
written t s f row id key ks is rs ds bs c ek ei a b d g n h = rw (a, b, d, g, n, h, ek, ei)
