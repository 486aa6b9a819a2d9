-- "Entries beyond the counts are never read": over two stores that agree within the counts, with parts of equal lengths, an admission
-- gives one answer, and leaves two such stores again.
-- Assumes nothing.
use Rattle.std.specs.Prelude.{Result, Ok, Err}
use Rattle.answers.specs.declared.Refusal.{Refusal}
use Prim.Native.Nat.{ℕ, ◌+◌, ◌-◌, ◌*◌, ◌≤◌}
use mathlib.Core.Path.{◌≡◌, refl, sym, ap, subst, ◌∙◌}
use mathlib.Core.List.{List, ◌++◌}
use native.Mathlib.Omega.{arith}
use lib.ListN.{length, take}
use lib.Seq.{paste, take-paste, length-paste}
use Rattle.basics.specs.Chunk.{chunk_size}
use Rattle.basics.specs.Pick.{pick}
use Rattle.basics.proofs.Tests.{by_ltb}
use Rattle.chunks.specs.Piece.{put_at}
use Rattle.item.specs.Id.{id_of}
use Rattle.item.specs.Layout.{layout_of, key_of}
use Rattle.item.specs.declared.Fields.{Fields}
use Rattle.store.specs.Agree.{Agree}
use Rattle.store.specs.Limits.{row_width}
use Rattle.store.specs.Table.{Table, WellFormed, row_numbers}
use Rattle.store.specs.declared.lent.Counts.{Counts}
use Rattle.store.specs.declared.Row.{Row}
use Rattle.store.proofs.Agreeing.{well_formed_together, agree_back}
use Rattle.judging.specs.Lengths.{SameLengths}
use Rattle.judging.specs.Message.{next_row, named, dep_rows}
use Rattle.judging.specs.Verdict.{row_for, judged_of, verdict_of}
use Rattle.judging.specs.declared.Verdict.{Verdict}
use Rattle.judging.specs.declared.Verdict.TheVariants.{Fits, Holds, Breaks}
use Rattle.judging.proofs.Beyond.{named_same, judged_same, verdict_same}
use Rattle.judging.proofs.Named.{named_length}
use Rattle.judging.proofs.Passing.{passes}
use Rattle.admission.specs.After.{keyed, counts_with, admitted, Writable, store_then, store_by, answer_of, Admits, damaged, sound}
use Rattle.admission.specs.declared.Admitted.{Admitted}
use Rattle.admission.specs.declared.Admitted.TheVariants.{Done}
use Rattle.admission.proofs.Growing.{Room, has_room}
use Rattle.admission.proofs.Branching.{Placed, firsts_left, branches_left, counted_length}
use Rattle.admission.proofs.Keeping.{placed}
use Rattle.admission.proofs.Joining.{joins}
use Rattle.admission.proofs.Writing.{writable}

module _ (t u : Table) (g : Agree t u) (l : SameLengths t u) (s : List ℕ) where
  -- One verdict is one answer: the next row is the same.
  answer_same : (v : Verdict) → answer_of t v ≡ answer_of u v
  answer_same (Fits row) = ap (λ (c : Counts). Done (c.rows + 1)) g.same_counts
  answer_same (Holds r) = refl
  answer_same (Breaks r) = refl

  -- The answers of an admission over the two are one.
  pub same_answer : (v x : Table) (a b : Admitted) → Admits t s v a → Admits u s x b → a ≡ b
  same_answer v x a b (damaged n e p) (damaged m f q) = e ∙ sym f
  same_answer v x a b (damaged n e p) (sound w j) = absurd (n (well_formed_together u t (agree_back t u g) w))
  same_answer v x a b (sound w j) (damaged n e p) = absurd (n (well_formed_together t u g w))
  same_answer v x a b (sound w j) (sound m k) =
      j.answer ∙ ap (answer_of t) (verdict_same t u g l w s) ∙ answer_same (verdict_of u s) ∙ sym k.answer

-- Lists that agree up to a place agree up to the end of what is then copied into both.
pasted_same : (d e x : List ℕ) (at n m : ℕ) → at ≤ length d → at ≤ length e → n ≤ length x → m ≡ at + n → take at d ≡ take at e
    → take m (paste d at x n) ≡ take m (paste e at x n)
pasted_same d e x at n m h k l q p =
    rw q (take-paste d at x n h l ∙ ap (λ (y : List ℕ). y ++ take n x) p ∙ sym (take-paste e at x n k l))

-- Lists of one length have one length after a copy into both.
pasted_length : (d e x z : List ℕ) (at n : ℕ) → at + n ≤ length d → length d ≡ length e → n ≤ length x → n ≤ length z
    → length (paste d at x n) ≡ length (paste e at z n)
pasted_length d e x z at n h q k l = length-paste d at x n h k ∙ q ∙ sym (length-paste e at z n (omega arith) l)

-- Two stores agree within the counts and have parts of equal lengths.
pub record Alike (t u : Table) : Type 0 where
  pub agree : Agree t u
  pub lengths : SameLengths t u

-- The other store's parts, with the counts of the first.
abbrev with_counts : Table → Counts → Table
with_counts u c = record { keys = u.keys; ids = u.ids; rows = u.rows; deps = u.deps; branches = u.branches; counts = c }

module _ (t u : Table) (g : Agree t u) (l : SameLengths t u) (w : WellFormed t) (s : List ℕ) (f : Fields) (y : layout_of s ≡ Ok f) (row : Row)
    (e : judged_of t s f ≡ Fits row) where
  can : Writable t s f (id_of s) row
  can = writable t s f w y row (id_of s) refl e

  -- There is room for the row, and a place where it counts.
  place : Room t row × Placed t row
  place =
      let q = passes t s f row e in
      let r : Row = row_for t s f q.0 in
      rw q.1.0
      (has_room t r q.1.1.room, placed t r (id_of s) (key_of s) (dep_rows t s f) w (joins t s f q.0 q.1.1))

  -- The keys, with the author's where it is new.
  keys_left : take ((counts_with t.counts row).authors * chunk_size) (keyed t row (key_of s))
      ≡ take ((counts_with t.counts row).authors * chunk_size) (keyed (with_counts u t.counts) row (key_of s))
  keys_left =
      let k = can.author_next in
      let z = can.key_sized in
      let q = l.keys in
      by_ltb
      (λ b. take (pick b row.author t.counts.authors * chunk_size) (pick b (put_at t.keys row.author (key_of s)) t.keys)
      ≡ take (pick b row.author t.counts.authors * chunk_size) (pick b (put_at u.keys row.author (key_of s)) u.keys))
      t.counts.authors row.author
      (λ h.
      let p = can.keys_place h in
      let a : (row.author - 1) * chunk_size ≡ t.counts.authors * chunk_size = omega arith in
      pasted_same t.keys u.keys (key_of s) ((row.author - 1) * chunk_size) chunk_size (row.author * chunk_size) (omega arith) (omega arith) (omega arith)
      (omega arith) (rw a g.within.same_keys))
      (λ h. g.within.same_keys)

  -- The stores with the row agree within their counts,
  row_agrees : Agree (admitted t s f row) (admitted (with_counts u t.counts) s f row)
  row_agrees =
      let i = can.ids_place in
      let r = can.rows_place in
      let d = can.deps_place in
      let z = can.id_sized in
      let n = can.counted in
      let li = l.ids in
      let lr = l.rows in
      let ld = l.deps in
      let ln : length (dep_rows t s f) ≡ f.count = named_length t.ids t.counts.rows s f f.count in
      let a : (next_row t - 1) * chunk_size ≡ t.counts.rows * chunk_size = omega arith in
      record {
        same_counts = refl;
        within =
            record {
              same_keys = keys_left;
              same_ids =
                  pasted_same t.ids u.ids (id_of s) ((next_row t - 1) * chunk_size) chunk_size (next_row t * chunk_size) (omega arith) (omega arith)
                  (omega arith) (omega arith) (rw a g.within.same_ids);
              same_rows =
                  pasted_same t.rows u.rows (row_numbers row) (t.counts.rows * row_width) row_width (next_row t * row_width) (omega arith) (omega arith)
                  (omega arith) (omega arith) g.within.same_rows;
              same_deps =
                  pasted_same t.deps u.deps (dep_rows t s f) t.counts.deps f.count (t.counts.deps + row.deps) (omega arith) (omega arith)
                  (omega arith) (omega arith) g.within.same_deps
                  ∙ ap (λ (x : List ℕ). take (t.counts.deps + row.deps) (paste u.deps t.counts.deps x f.count))
                  (named_same t u g l w s f f.count ∙ ap (λ (c : Counts). named u.ids c.rows s f f.count) (sym g.same_counts));
            };
        counted =
            record {
              same_firsts = firsts_left t row w place.0 place.1 u g.counted l.branches;
              same_branches = branches_left t row w place.0 place.1 u g.counted l.branches;
            };
      }

  -- their parts have equal lengths,
  row_lengths : SameLengths (admitted t s f row) (admitted (with_counts u t.counts) s f row)
  row_lengths =
      let i = can.ids_place in
      let r = can.rows_place in
      let d = can.deps_place in
      let z = can.id_sized in
      let m = can.key_sized in
      let ln : length (dep_rows t s f) ≡ f.count = named_length t.ids t.counts.rows s f f.count in
      let lo : length (dep_rows (with_counts u t.counts) s f) ≡ f.count = named_length u.ids t.counts.rows s f f.count in
      record {
        keys =
            by_ltb
            (λ b. length (pick b (put_at t.keys row.author (key_of s)) t.keys) ≡ length (pick b (put_at u.keys row.author (key_of s)) u.keys))
            t.counts.authors row.author
            (λ h.
            let p = can.keys_place h in
            pasted_length t.keys u.keys (key_of s) (key_of s) ((row.author - 1) * chunk_size) chunk_size (omega arith) l.keys (omega arith) (omega arith))
            (λ h. l.keys);
        ids = pasted_length t.ids u.ids (id_of s) (id_of s) ((next_row t - 1) * chunk_size) chunk_size (omega arith) l.ids (omega arith) (omega arith);
        rows =
            pasted_length t.rows u.rows (row_numbers row) (row_numbers row) (t.counts.rows * row_width) row_width (omega arith) l.rows
            (omega arith) (omega arith);
        deps =
            pasted_length t.deps u.deps (dep_rows t s f) (dep_rows (with_counts u t.counts) s f) t.counts.deps f.count (omega arith) l.deps
            (omega arith) (omega arith);
        branches = counted_length t row w place.0 place.1 u g.counted l.branches;
      }

  -- and so they are alike.
  pub row_alike : Alike (admitted t s f row) (admitted u s f row)
  row_alike =
      let q : with_counts u t.counts ≡ u = ap (with_counts u) g.same_counts in
      subst (λ (x : Table). Alike (admitted t s f row) (admitted x s f row)) q (record { agree = row_agrees; lengths = row_lengths })

module _ (t u : Table) (g : Agree t u) (l : SameLengths t u) (s : List ℕ) where
  -- After one verdict the stores left are alike.
  verdict_left : WellFormed t → (f : Fields) → layout_of s ≡ Ok f → (v : Verdict) → judged_of t s f ≡ v → Alike (store_then t s f v) (store_then u s f v)
  unfolding store_then
  verdict_left w f y (Fits row) e = row_alike t u g l w s f y row e
  verdict_left w f y (Holds r) e = record { agree = g; lengths = l }
  verdict_left w f y (Breaks r) e = record { agree = g; lengths = l }

  -- The same, by the layout.
  layout_left : WellFormed t → (y : Result Fields Refusal) → layout_of s ≡ y → Alike (store_by t s y) (store_by u s y)
  unfolding store_by
  layout_left w (Ok f) y =
      subst (λ (v : Verdict). Alike (store_then t s f (judged_of t s f)) (store_then u s f v)) (judged_same t u g l w s f)
      (verdict_left w f y (judged_of t s f) refl)
  layout_left w (Err r) y = record { agree = g; lengths = l }

  -- The stores that an admission leaves of the two are alike.
  pub same_left : (v x : Table) (a b : Admitted) → Admits t s v a → Admits u s x b → Alike v x
  same_left v x a b (damaged n e p) (damaged m f q) = rw (p, q) (record { agree = g; lengths = l })
  same_left v x a b (damaged n e p) (sound w j) = absurd (n (well_formed_together u t (agree_back t u g) w))
  same_left v x a b (sound w j) (damaged n e p) = absurd (n (well_formed_together t u g w))
  same_left v x a b (sound w j) (sound m k) = rw (j.after, k.after) (layout_left w (layout_of s) refl)
