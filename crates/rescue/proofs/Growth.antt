-- A store after admissions: what it had it still has, and nothing but the ids of what was admitted is new.
-- Assumes nothing.
use Prim.Native.Nat.{ℕ, ◌+◌, ◌-◌, ◌*◌, ◌≤◌, ◌<◌}
use mathlib.Core.Path.{◌≡◌, refl, sym, ap, subst, ◌∙◌}
use mathlib.Core.List.{List}
use mathlib.Core.Logic.{◌⊎◌, inl, inr, ⊎_elim, ◌≢◌}
use native.Mathlib.Omega.{arith}
use native.Mathlib.Nat.{eq-or-lt_of_le}
use lib.Dec.{ltb}
use lib.ListN.{length, length-set}
use Rattle.basics.specs.Pick.{pick}
use Rattle.basics.proofs.Tests.{by_ltb}
use Rattle.basics.proofs.Prefixes.{shorter_prefix}
use Rattle.chunks.proofs.Finding.{none_place}
use Rattle.item.specs.Id.{id_of}
use Rattle.item.specs.Layout.{key_of}
use Rattle.item.specs.declared.Fields.{Fields}
use Rattle.store.specs.Paper.{Message}
use Rattle.store.specs.Table.{Table, id_at, author_of, index_of, key_at}
use Rattle.store.specs.declared.lent.Counts.{Counts}
use Rattle.store.specs.declared.Row.{Row}
use Rattle.store.proofs.Agreeing.{agree_rows, agree_ids, agree_keys}
use Rattle.store.proofs.Facts.{author_held}
use Rattle.judging.specs.Message.{next_row, row_with, dep_rows}
use Rattle.admission.specs.Grown.{RowOfItem, Grows}
use Rattle.admission.specs.Paper.{Has, author_key, Accepted}
use Rattle.admission.specs.declared.Admitted.{Admitted}
use Rattle.admission.specs.declared.Admitted.TheVariants.{Done, Held, Refused}
use Rattle.admission.proofs.Accepting.{has_found, found_has, not_found}
use Rattle.admission.proofs.Theorems.{done_grows}
use Rattle.origins.specs.Origins.{AdmitsFrom, sound, origins_after}
use Rattle.origins.proofs.Theorems.{from_done_exactly_when, from_keeps, done_admits, undone_keeps}
use Rattle.morning.specs.Intake.{Kept, Sound, answer_to, kept_after}
use Rattle.rescue.specs.Growing.{Grown}

-- An answer is done, or it is not.
pub done_or_not : (a : Admitted) → ((n : ℕ) × (a ≡ Done n)) ⊎ ((n : ℕ) → a ≡ Done n → ⊥)
done_or_not (Done n) = inl (n, refl)
done_or_not (Held r) = inr (λ n e. let z : ◌≡◌ {A = ℕ} 0 1 = cc in omega arith)
done_or_not (Refused why) = inr (λ n e. let z : ◌≡◌ {A = ℕ} 0 1 = cc in omega arith)

-- What is not there is not found.
pub found_not : (t : Table) (x : List ℕ) → ((r : ℕ) → Has t x r → ⊥) → row_with t x ≡ 0
found_not t x h = none_place t.ids x t.counts.rows (λ i l k e. h i (record { message = record { some = k; held = l }; id = e }))

-- A store has grown of itself,
pub grown_still : (k : Kept) → Grown k k
grown_still k =
    record {
      within = record { same_keys = refl; same_ids = refl; same_rows = refl; same_deps = refl };
      rows = omega arith;
      authors = omega arith;
      deps = omega arith;
      lengths = record { keys = refl; ids = refl; rows = refl; deps = refl; branches = refl };
      places = refl;
    }

-- and of all that it came of.
pub grown_on : (k l m : Kept) → Grown k l → Grown l m → Grown k m
grown_on k l m g h =
    let t = k.store in
    let u = l.store in
    let v = m.store in
    record {
      within =
          record {
            same_keys =
                g.within.same_keys
                ∙ shorter_prefix (u.counts.authors * 32) (t.counts.authors * 32) u.keys v.keys (omega (arith, g.authors)) h.within.same_keys;
            same_ids =
                g.within.same_ids
                ∙ shorter_prefix (u.counts.rows * 32) (t.counts.rows * 32) u.ids v.ids (omega (arith, g.rows)) h.within.same_ids;
            same_rows =
                g.within.same_rows
                ∙ shorter_prefix (u.counts.rows * 4) (t.counts.rows * 4) u.rows v.rows (omega (arith, g.rows)) h.within.same_rows;
            same_deps =
                g.within.same_deps
                ∙ shorter_prefix u.counts.deps t.counts.deps u.deps v.deps g.deps h.within.same_deps;
          };
      rows = omega (arith, g.rows, h.rows);
      authors = omega (arith, g.authors, h.authors);
      deps = omega (arith, g.deps, h.deps);
      lengths =
          record {
            keys = g.lengths.keys ∙ h.lengths.keys;
            ids = g.lengths.ids ∙ h.lengths.ids;
            rows = g.lengths.rows ∙ h.lengths.rows;
            deps = g.lengths.deps ∙ h.lengths.deps;
            branches = g.lengths.branches ∙ h.lengths.branches;
          };
      places = g.places ∙ h.places;
    }

-- A store with one row more has grown.
grown_row : (k l : Kept) (row : Row) (id key ds : List ℕ) → Grows k.store l.store row id key ds → length k.origins ≡ length l.origins → Grown k l
grown_row k l row id key ds g e =
    let t = k.store in
    let u = l.store in
    let r : u.counts.rows ≡ t.counts.rows + 1 = ap (λ (c : Counts). c.rows) g.counts_new in
    let b : u.counts.authors ≡ pick (ltb t.counts.authors row.author) row.author t.counts.authors =
    ap (λ (c : Counts). c.authors) g.counts_new in
    let d : u.counts.deps ≡ t.counts.deps + row.deps = ap (λ (c : Counts). c.deps) g.counts_new in
    record {
      within = g.kept;
      rows = omega arith;
      authors =
          rw b
          (by_ltb (λ y. t.counts.authors ≤ pick y row.author t.counts.authors) t.counts.authors row.author (λ h. omega arith)
          (λ h. omega arith));
      deps = omega arith;
      lengths =
          record {
            keys = sym g.keys_length;
            ids = sym g.ids_length;
            rows = sym g.rows_length;
            deps = sym g.deps_length;
            branches = sym g.branches_new.branches_length;
          };
      places = e;
    }

module _ (k : Kept) (w : Sound k) (g : ℕ) (i : List ℕ) where
  -- The admission of an item to a sound store.
  pub admitting : AdmitsFrom k.store k.origins g i (kept_after k g i).store (kept_after k g i).origins (answer_to k i)
  admitting = sound w (record { answer = refl; after = refl; origins = refl })

  -- It leaves a sound store.
  pub sound_after : Sound (kept_after k g i)
  sound_after = from_keeps k.store k.origins g i (kept_after k g i).store (kept_after k g i).origins (answer_to k i) admitting w

  -- Where it is not done it leaves the same.
  pub undone_after : ((n : ℕ) → answer_to k i ≡ Done n → ⊥) → kept_after k g i ≡ k
  undone_after h =
      let e = undone_keeps k.store k.origins g i (kept_after k g i).store (kept_after k g i).origins (answer_to k i) admitting h in
      ap (λ (t : Table). record { store = t; origins = (kept_after k g i).origins }) e.0
      ∙ ap (λ (o : List ℕ). record { store = k.store; origins = o }) e.1

  -- Where it is done the item is accepted, and has a place among the origins.
  pub done_accepted : (n : ℕ) → answer_to k i ≡ Done n → ((f : Fields) × Accepted k.store i f) × (k.store.counts.rows < length k.origins)
  done_accepted n e =
      let c = (from_done_exactly_when k.store k.origins g i (kept_after k g i).store (kept_after k g i).origins (answer_to k i) admitting).0 (n, e) in
      (c.0.1, c.1)

  module _ (n : ℕ) (e : answer_to k i ≡ Done n) where
    -- The done admission.
    pub admitting_done : AdmitsFrom k.store k.origins g i (kept_after k g i).store (kept_after k g i).origins (Done n)
    admitting_done = subst (AdmitsFrom k.store k.origins g i (kept_after k g i).store (kept_after k g i).origins) e admitting

    -- It has the next row, which is the item's, and the store has grown by it.
    pub done_row : (n ≡ next_row k.store) × ((f : Fields) × ((row : Row) × (RowOfItem k.store i f row (dep_rows k.store i f)
        × Grows k.store (kept_after k g i).store row (id_of i) (key_of i) (dep_rows k.store i f))))
    done_row =
        done_grows k.store i (kept_after k g i).store n
        (done_admits k.store k.origins g i (kept_after k g i).store (kept_after k g i).origins n admitting_done)

    -- It has the row that the counts then end with,
    pub done_count : (n ≡ k.store.counts.rows + 1) × ((kept_after k g i).store.counts.rows ≡ k.store.counts.rows + 1)
    done_count = (done_row.0, ap (λ (c : Counts). c.rows) done_row.1.1.1.1.counts_new)

    -- the item's id,
    pub done_has : Has (kept_after k g i).store (id_of i) n
    done_has =
        let x = done_row.1.1.1.1 in
        let c = done_count in
        record { message = record { some = omega (arith, c.0); held = omega (arith, c.0, c.1) }; id = rw done_row.0 x.id_new }

  -- What an admission leaves has grown.
  pub grown_after : Grown k (kept_after k g i)
  grown_after =
      ⊎_elim
      (λ d.
      let x = (done_row d.0 d.1).1 in
      let l : length k.origins ≡ length (kept_after k g i).origins =
      sym (ap (λ (a : Admitted). length (origins_after k.origins g a)) d.1 ∙ length-set k.origins (d.0 - 1) g) in
      grown_row k (kept_after k g i) x.1.0 (id_of i) (key_of i) (dep_rows k.store i x.0) x.1.1.1 l)
      (λ h. subst (Grown k) (sym (undone_after h)) (grown_still k))
      (done_or_not (answer_to k i))

module _ (k l : Kept) (w : Sound k) (g : Grown k l) where
  -- A message of the earlier store is one of the later,
  pub message_later : (r : ℕ) → Message k.store r → Message l.store r
  message_later r m = record { some = m.some; held = omega (arith, m.held, g.rows) }

  -- with the same id,
  pub id_later : (r : ℕ) → Message k.store r → id_at l.store r ≡ id_at k.store r
  id_later r m = sym (agree_ids k.store l.store w.store g.within r m.held)

  pub has_later : (x : List ℕ) (r : ℕ) → Has k.store x r → Has l.store x r
  has_later x r h = record { message = message_later r h.message; id = id_later r h.message ∙ h.id }

  -- author
  pub key_later : (r : ℕ) → Message k.store r → author_key l.store r ≡ author_key k.store r
  key_later r m =
      let e : author_of k.store r ≡ author_of l.store r =
      ap (λ (x : Row). x.author) (agree_rows k.store l.store w.store g.within r m.held) in
      ap (key_at l.store) (sym e)
      ∙ sym (agree_keys k.store l.store w.store g.within (author_of k.store r) (author_held k.store w.store r m.held m.some).1)

  -- and index.
  pub index_later : (r : ℕ) → Message k.store r → index_of l.store r ≡ index_of k.store r
  index_later r m = sym (ap (λ (x : Row). x.index) (agree_rows k.store l.store w.store g.within r m.held))

  -- An id that was found is found later, in the same row.
  pub found_later : Sound l → (x : List ℕ) → row_with k.store x ≢ 0 → row_with l.store x ≡ row_with k.store x
  found_later v x h = found_has l.store v.store x (row_with k.store x) (has_later x (row_with k.store x) (has_found k.store w.store x h))

module _ (k : Kept) (w : Sound k) (g : ℕ) (i : List ℕ) (n : ℕ) (e : answer_to k i ≡ Done n) where
  -- After a done admission the item's id is found in the new row,
  pub found_new : row_with (kept_after k g i).store (id_of i) ≡ n
  found_new = found_has (kept_after k g i).store (sound_after k w g i).store (id_of i) n (done_has k w g i n e)

  -- and no other id is newly there.
  pub has_before : (x : List ℕ) (r : ℕ) → Has (kept_after k g i).store x r → (x ≡ id_of i) ⊎ Has k.store x r
  has_before x r h =
      let c = done_count k w g i n e in
      let b = grown_after k w g i in
      ⊎_elim
      (λ (z : r ≡ n). inl (sym h.id ∙ ap (id_at (kept_after k g i).store) z ∙ (done_has k w g i n e).id))
      (λ (z : r < n).
      let m : r ≤ k.store.counts.rows = omega (arith, c.0) in
      inr
      (record {
        message = record { some = h.message.some; held = m };
        id = agree_ids k.store (kept_after k g i).store w.store b.within r m ∙ h.id;
      }))
      (eq-or-lt_of_le (omega (arith, h.message.held, c.0, c.1)))

  pub lacks_still : (x : List ℕ) → row_with k.store x ≡ 0 → x ≢ id_of i → row_with (kept_after k g i).store x ≡ 0
  lacks_still x z d =
      found_not (kept_after k g i).store x
      (λ r h. ⊎_elim (λ q. d q) (λ q. not_found k.store w.store x z r q) (has_before x r h))
