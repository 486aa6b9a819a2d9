-- A row that passes every test, written into a well_formed store: what stands in the store after it.
-- Assumes nothing.
use Prim.Native.Nat.{ℕ, ◌+◌, ◌-◌, ◌*◌, ◌≤◌, ◌<◌}
use mathlib.Core.Path.{◌≡◌, refl, sym, ap, ◌∙◌}
use mathlib.Core.Bool.{Bool, true, false}
use mathlib.Core.List.{List}
use native.Mathlib.Omega.{arith}
use lib.ListN.{length, take, drop}
use lib.Seq.{paste, length-paste, take_all}
use lib.Dec.{eqb, ltb, leb}
use borrow.Author.Tests.{ltb-false, leb-false, eqb-false, lt-ltb, le-ltb}
use Rattle.basics.specs.Chunk.{chunk_size}
use Rattle.basics.specs.Pick.{pick, both}
use Rattle.basics.proofs.Prefixes.{before_paste, after_paste, at_paste}
use Rattle.chunks.specs.Piece.{piece_at, put_at}
use Rattle.chunks.proofs.Finding.{place_some}
use Rattle.chunks.proofs.Pieces.{length_put, piece_put}
use Rattle.item.specs.Layout.{key_of}
use Rattle.item.specs.Id.{id_of}
use Rattle.item.specs.declared.Fields.{Fields}
use Rattle.store.specs.Limits.{row_width, author_limit, dep_limit, row_limit}
use Rattle.store.specs.Table.{Table, WellFormed, row_at, row_numbers, row_put, dep_sum}
use Rattle.store.specs.Agree.{SameWithin}
use Rattle.store.specs.declared.Row.{Row}
use Rattle.store.proofs.Agreeing.{agree_rows}
use Rattle.basics.proofs.Tests.{neither_first, neither_second}
use Rattle.store.proofs.Rows.{sum_agree}
use Rattle.judging.specs.Message.{key_number, next_row, dep_rows}
use Rattle.judging.specs.Verdict.{row_for, row_room, author_room, dep_room, full}
use Rattle.admission.specs.After.{admitted}
use Rattle.admission.specs.Grown.{BranchesGrow, Grows}
use Rattle.store.proofs.Putting.{added_length, added_there}
use Rattle.judging.proofs.Named.{named_length}

-- There is room for a row: what the test for FULL says where it lets pass.
pub record Room (t : Table) (row : Row) : Type 0 where
  pub rows_limit : t.counts.rows < row_limit
  pub ids_place : (t.counts.rows + 1) * chunk_size ≤ length t.ids
  pub rows_place : (t.counts.rows + 1) * row_width ≤ length t.rows
  pub authors_limit : t.counts.authors < row.author → t.counts.authors < author_limit
  pub keys_place : t.counts.authors < row.author → (t.counts.authors + 1) * chunk_size ≤ length t.keys
  pub branches_place : t.counts.rows + 1 ≤ length t.branches - author_limit
  pub firsts_place : t.counts.authors < row.author → t.counts.authors + 1 ≤ length t.branches
  pub deps_limit : t.counts.deps + row.deps ≤ dep_limit
  pub deps_place : t.counts.deps + row.deps ≤ length t.deps

-- Both tests hold or the joined one does not; where the first holds the second does not.
pub both_refuted : (p q : Bool) → both p q ≡ false → p ≡ true → q ≡ false
both_refuted true q e h = e
both_refuted false q e h = absurd (Rattle.basics.proofs.Tests.not_both_ways false h refl)

-- What the test for FULL says where it lets pass.
pub has_room : (t : Table) (row : Row) → full t row ≡ false → Room t row
has_room t row e =
    let a = neither_first (leb (row_room t) t.counts.rows) _ e in
    let b = neither_second (leb (row_room t) t.counts.rows) _ e in
    let c = neither_first (both (ltb t.counts.authors row.author) (leb (author_room t) t.counts.authors)) _ b in
    let d = neither_second (both (ltb t.counts.authors row.author) (leb (author_room t) t.counts.authors)) _ b in
    let r : t.counts.rows < row_room t = leb-false (row_room t) t.counts.rows a in
    let w : t.counts.deps + row.deps ≤ dep_room t = ltb-false (dep_room t) (t.counts.deps + row.deps) d in
    let q : t.counts.authors < row.author → t.counts.authors < author_room t =
    λ h. leb-false (author_room t) t.counts.authors (both_refuted _ _ c (lt-ltb _ _ h)) in
    record {
      rows_limit = omega arith;
      ids_place = omega arith;
      rows_place = omega arith;
      authors_limit = λ h. let z = q h in omega arith;
      keys_place = λ h. let z = q h in omega arith;
      branches_place = omega arith;
      firsts_place = λ h. let z = q h in omega arith;
      deps_limit = omega arith;
      deps_place = omega arith;
    }

-- The keys after an author's key: the old ones, and the author's own; what lies beyond the `n` that there are then stays.
pub record Keys (t : Table) (a n : ℕ) (k ks : List ℕ) : Type 0 where
  pub len : length ks ≡ length t.keys
  pub kept : take (t.counts.authors * chunk_size) t.keys ≡ take (t.counts.authors * chunk_size) ks
  pub new : piece_at ks a ≡ k
  pub beyond : drop (n * chunk_size) ks ≡ drop (n * chunk_size) t.keys

module _ (t : Table) (k : List ℕ) (sized : length k ≡ chunk_size) where
  -- A known author's key stands already; a new one is put after the others.
  keys_by : (b : Bool) → eqb (key_number t k) 0 ≡ b
      → (t.counts.authors < pick b (t.counts.authors + 1) (key_number t k) → (t.counts.authors + 1) * chunk_size ≤ length t.keys)
      → Keys t (pick b (t.counts.authors + 1) (key_number t k))
      (pick (ltb t.counts.authors (pick b (t.counts.authors + 1) (key_number t k))) (pick b (t.counts.authors + 1) (key_number t k))
      t.counts.authors) k
      (pick (ltb t.counts.authors (pick b (t.counts.authors + 1) (key_number t k)))
      (put_at t.keys (pick b (t.counts.authors + 1) (key_number t k)) k) t.keys)
  keys_by false e room =
      let p = place_some t.keys k t.counts.authors (eqb-false _ _ e) in
      rw (le-ltb t.counts.authors (key_number t k) p.within) (record { len = refl; kept = refl; new = p.here; beyond = refl })
  keys_by true e room =
      let h : (t.counts.authors + 1) * chunk_size ≤ length t.keys = room (omega arith) in
      let z : chunk_size ≤ length k = omega arith in
      let o : 1 ≤ t.counts.authors + 1 = omega arith in
      rw (lt-ltb t.counts.authors (t.counts.authors + 1) (omega arith))
      (record {
        len = length_put t.keys (t.counts.authors + 1) k o h z;
        kept = sym (before_paste t.keys ((t.counts.authors + 1 - 1) * chunk_size) k chunk_size (t.counts.authors * chunk_size) (omega arith) (omega arith));
        new = piece_put t.keys (t.counts.authors + 1) k o h z ∙ take_all chunk_size k (omega arith);
        beyond =
            after_paste t.keys ((t.counts.authors + 1 - 1) * chunk_size) k chunk_size ((t.counts.authors + 1) * chunk_size) (omega arith) (omega arith)
            (omega arith);
      })

-- The dependencies of a row by its number of them and the sum before it.
part_new : (b es : List ℕ) (r : ℕ) (row : Row) (m : ℕ) → row_at b r ≡ row → dep_sum b (r - 1) ≡ m
    → take (row_at b r).deps (drop (dep_sum b (r - 1)) es) ≡ take row.deps (drop m es)
part_new b es r row m e g = rw (e, g)

module _ (t : Table) (s : List ℕ) (f : Fields) (p : ℕ) (w : WellFormed t) (sized : length (id_of s) ≡ chunk_size) (keyed32 : length (key_of s) ≡ chunk_size)
    (room : Room t (row_for t s f p)) (counted : BranchesGrow t (admitted t s f (row_for t s f p)) (row_for t s f p)) where
  -- What was in use is what it was.
  stays : SameWithin t (admitted t s f (row_for t s f p)) t.counts.rows t.counts.authors t.counts.deps
  stays =
      record {
        same_keys = (keys_by t (key_of s) keyed32 (eqb (key_number t (key_of s)) 0) refl room.keys_place).kept;
        same_ids =
            sym (before_paste t.ids ((next_row t - 1) * chunk_size) (id_of s) chunk_size (t.counts.rows * chunk_size) (omega (arith, room.ids_place))
            (omega arith));
        same_rows = sym (before_paste t.rows (t.counts.rows * row_width) (row_numbers (row_for t s f p)) row_width (t.counts.rows * row_width)
            (omega (arith, room.rows_place)) (omega arith));
        same_deps = sym (before_paste t.deps t.counts.deps (dep_rows t s f) f.count t.counts.deps (omega (arith, room.deps_place)) (omega arith));
      }

  -- The store after the row is the old one with that row.
  pub grows : Grows t (admitted t s f (row_for t s f p)) (row_for t s f p) (id_of s) (key_of s) (dep_rows t s f)
  grows =
      let rows : List ℕ = row_put t.rows t.counts.rows (row_for t s f p) in
      let ks = keys_by t (key_of s) keyed32 (eqb (key_number t (key_of s)) 0) refl room.keys_place in
      let i32 : chunk_size ≤ length (id_of s) = omega arith in
      let o : 1 ≤ next_row t = omega arith in
      let rn = added_there t.rows (row_for t s f p) t.counts.rows room.rows_place in
      let z : t.counts.rows + 1 - 1 ≡ t.counts.rows = omega arith in
      let sum : dep_sum rows (next_row t - 1) ≡ t.counts.deps =
      ap (dep_sum rows) z ∙ sym (sum_agree t.rows rows t.counts.rows (agree_rows t (admitted t s f (row_for t s f p)) w stays)) ∙ w.deps_sum in
      let dl : length (dep_rows t s f) ≡ f.count = named_length t.ids t.counts.rows s f f.count in
      let dp : t.counts.deps + f.count ≤ length t.deps = room.deps_place in
      record {
        kept = stays;
        row_new = rn;
        id_new = piece_put t.ids (next_row t) (id_of s) o room.ids_place i32 ∙ take_all chunk_size (id_of s) (omega arith);
        key_new = ks.new;
        deps_new =
            part_new rows (paste t.deps t.counts.deps (dep_rows t s f) f.count) (next_row t) (row_for t s f p) t.counts.deps rn sum
            ∙ at_paste t.deps t.counts.deps (dep_rows t s f) f.count (omega arith) (omega arith)
            ∙ take_all f.count (dep_rows t s f) (omega arith);
        counts_new = refl;
        keys_length = ks.len;
        ids_length = length_put t.ids (next_row t) (id_of s) o room.ids_place i32;
        rows_length = added_length t.rows (row_for t s f p) t.counts.rows room.rows_place;
        deps_length = length-paste t.deps t.counts.deps (dep_rows t s f) f.count dp (omega arith);
        keys_beyond = ks.beyond;
        ids_beyond =
            after_paste t.ids ((next_row t - 1) * chunk_size) (id_of s) chunk_size (next_row t * chunk_size) (omega (arith, room.ids_place)) (omega arith)
            (omega arith);
        rows_beyond =
            after_paste t.rows (t.counts.rows * row_width) (row_numbers (row_for t s f p)) row_width (next_row t * row_width)
            (omega (arith, room.rows_place)) (omega arith) (omega arith);
        deps_beyond = after_paste t.deps t.counts.deps (dep_rows t s f) f.count (t.counts.deps + f.count) (omega arith) (omega arith) (omega arith);
        branches_new = counted;
      }
