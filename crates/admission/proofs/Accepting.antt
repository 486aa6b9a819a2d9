-- A message is accepted exactly when M1 to M6 and document 01 hold.
-- Assumes nothing.
use Rattle.std.specs.Prelude.{Ok}
use Prim.Native.Nat.{ℕ, zero, suc, ◌+◌, ◌<◌}
use mathlib.Core.Path.{◌≡◌, refl, sym, ap, ◌∙◌}
use mathlib.Core.Bool.{true, false}
use mathlib.Core.List.{List}
use mathlib.Core.Logic.{◌≢◌, inl, inr}
use native.Mathlib.Omega.{arith}
use lib.ListN.{length, get_or, replicate}
use lib.Dec.{ltb, leb}
use borrow.Author.Tests.{ne_eqb, lt-leb, le-ltb, lt-ltb, leb-false, ltb-false, not-false}
use Rattle.basics.specs.Pick.{pick, both}
use Rattle.basics.proofs.Tests.{by_eqb, by_ltb}
use Rattle.basics.proofs.Decisions.{decides_yes}
use Rattle.chunks.specs.Lookup.{place_of}
use Rattle.chunks.specs.Piece.{piece_at}
use Rattle.chunks.proofs.Finding.{place_some, place_none, none_place, place_own}
use Rattle.chunks.proofs.Sameness.{zero_decides}
use Rattle.item.specs.Id.{id_of}
use Rattle.item.specs.Layout.{layout_of, key_of, previous_of, dependency_of}
use Rattle.item.specs.declared.Fields.{Fields}
use Rattle.item.proofs.Laid.{sound_item}
use Rattle.item.proofs.Places.{item_sound}
use Rattle.store.specs.Paper.{Message, back}
use Rattle.store.specs.Table.{Table, WellFormed, row_at, key_at, author_of, has_author, one_per_author}
use Rattle.store.proofs.Depends.{one_at}
use Rattle.store.proofs.Facts.{author_held, same_key_lem}
use Rattle.basics.proofs.Tests.{neither_first, neither_second}
use Rattle.judging.specs.Message.{key_number, row_with, author_with, lacks, dep_rows}
use Rattle.admission.specs.Paper.{Has, author_key, NoPrevious, M1, M2, M3, M4, Indexed, first, later, HasRoom, Accepted}
use Rattle.admission.specs.Grown.{RowOfItem}
use Rattle.judging.specs.Verdict.{row_for, row_room, author_room, dep_room, full}
use Rattle.admission.proofs.Growing.{both_refuted}
use Rattle.admission.proofs.Authors.{none_of, of_none, of_one}
use Rattle.judging.proofs.Named.{named_length, named_at, each_found}
use Rattle.judging.proofs.Passing.{Follows, starts, steps, Passes}
use Rattle.admission.proofs.Writing.{length_previous}

-- Where each dependency is found, none lacks.
none_lacks : (ids : List ℕ) (m : ℕ) (s : List ℕ) (f : Fields) (n : ℕ) → ((k : ℕ) → k < n → place_of ids m (dependency_of f k s) ≢ 0) → lacks ids m s f n ≡ false
unfolding lacks
none_lacks ids m s f zero h = refl
none_lacks ids m s f (suc n) h = rw (none_lacks ids m s f n (λ k l. h k (omega arith)), ne_eqb _ _ (h n (omega arith)))

module _ (t : Table) (w : WellFormed t) where
  -- What is found in the store is there.
  pub has_found : (x : List ℕ) → row_with t x ≢ 0 → Has t x (row_with t x)
  has_found x h =
      let p = place_some t.ids x t.counts.rows h in
      record { message = record { some = p.some; held = p.within }; id = p.here }

  -- What is there is found.
  pub found_has : (x : List ℕ) (r : ℕ) → Has t x r → row_with t x ≡ r
  found_has x r h =
      let e : place_of t.ids t.counts.rows (piece_at t.ids r) ≡ r = place_own t.ids t.counts.rows r w.ids_distinct
      h.message.some h.message.held in
      rw h.id at e

  -- What is not found is not there.
  pub not_found : (x : List ℕ) → row_with t x ≡ 0 → (r : ℕ) → Has t x r → ⊥
  not_found x e r h = place_none t.ids x t.counts.rows e r h.message.held h.message.some h.id

  -- What is not there is not found.
  found_not : (x : List ℕ) → ((r : ℕ) → Has t x r → ⊥) → row_with t x ≡ 0
  found_not x h = none_place t.ids x t.counts.rows (λ i l k e. h i (record { message = record { some = k; held = l }; id = e }))

  -- A row's author has the number of a key exactly where it has the key.
  pub key_of_number : (r : ℕ) → Message t r → (k : List ℕ) → author_of t r ≡ author_with t k → author_key t r ≡ k
  key_of_number r h k =
      let a = author_held t w r h.held h.some in
      by_eqb (λ b. author_of t r ≡ pick b (t.counts.authors + 1) (key_number t k) → author_key t r ≡ k) (key_number t k) 0
      (λ z e. absurd (omega (arith, a.1, e)))
      (λ z e. ap (key_at t) e ∙ (place_some t.keys k t.counts.authors z).here)

  pub number_of_key : (r : ℕ) → Message t r → (k : List ℕ) → author_key t r ≡ k → author_of t r ≡ author_with t k
  number_of_key r h k e =
      let a = author_held t w r h.held h.some in
      let g : place_of t.keys t.counts.authors (piece_at t.keys (author_of t r)) ≡ author_of t r = place_own t.keys t.counts.authors
      (author_of t r) w.keys_distinct a.0 a.1 in
      let z : key_number t k ≡ author_of t r = rw e at g in
      let n : author_of t r ≢ 0 = λ (q : author_of t r ≡ 0). omega (arith, a.0) in
      rw (z, ne_eqb _ _ n)

module _ (t : Table) (w : WellFormed t) (s : List ℕ) (f : Fields) (l : layout_of s ≡ Ok f) where
  -- M1 of a message that follows.
  m1_of : (p : ℕ) → Follows t s f p → M1 t s f
  m1_of p (starts i z) = inl i
  m1_of p (steps h g z o i) = inr (row_with t (previous_of s), has_found t w (previous_of s) (rw g z))

  -- M2 of a message that follows.
  m2_of : (p : ℕ) → Follows t s f p → M2 t s f
  m2_of p (starts i z) = λ n. absurd (n i)
  m2_of p (steps h g z o i) = λ n r has.
      let e : r ≡ p = sym (found_has t w (previous_of s) r has) ∙ g in
      key_of_number t w r has.message (key_of s) (rw e o)

  -- The index of a message that follows.
  indexed_of : (p : ℕ) → Follows t s f p → Indexed t s f
  indexed_of p (starts i z) =
      first i ((zero_decides (previous_of s)).yes z ∙ ap (λ (n : ℕ). replicate {A = ℕ} n 0) (length_previous s f l))
  indexed_of p (steps h g z o i) = later h (λ r has. let e : r ≡ p = sym (found_has t w (previous_of s) r has) ∙ g in rw e i)

  -- The place of a dependency has the row that it names.
  pub named_has : (k r : ℕ) → k < f.count → Has t (dependency_of f k s) r → get_or (dep_rows t s f) k 0 ≡ r
  named_has k r h has = named_at t.ids t.counts.rows s f f.count k h ∙ found_has t w (dependency_of f k s) r has

  -- As many rows as dependencies.
  pub length_deps : length (dep_rows t s f) ≡ f.count
  length_deps = named_length t.ids t.counts.rows s f f.count

  -- M3 of a message whose dependencies are found, none of its own author.
  m3_of : lacks t.ids t.counts.rows s f f.count ≡ false → has_author t.rows (author_with t (key_of s)) (dep_rows t s f) ≡ false → M3 t s f
  m3_of e g k h =
      let x : List ℕ = dependency_of f k s in
      let n = each_found t.ids t.counts.rows s f f.count k e h in
      let has = has_found t w (dependency_of f k s) n in (
        row_with t (dependency_of f k s),
        (
          has,
          λ q.
              none_of t.rows (author_with t (key_of s)) (dep_rows t s f) g k (omega (arith, length_deps))
              (ap (λ (i : ℕ). (row_at t.rows i).author) (named_has k (row_with t (dependency_of f k s)) h has)
              ∙ number_of_key t w (row_with t (dependency_of f k s)) has.message (key_of s) q),
        ),
      )

  -- Two dependencies of one author are one, in a message whose dependencies have one author each.
  apart : one_per_author t.rows (dep_rows t s f) ≡ true → (i j q r : ℕ) → i < j → j < f.count
      → Has t (dependency_of f i s) q → Has t (dependency_of f j s) r → author_key t q ≡ author_key t r → ⊥
  apart e i j q r h k a b g =
      let x = author_held t w q a.message.held a.message.some in
      let y = author_held t w r b.message.held b.message.some in
      let z : author_of t q ≡ author_of t r = same_key_lem t w (author_of t q) (author_of t r) x.0 x.1 y.0 y.1 g in
      one_at t.rows (dep_rows t s f) e i j h (omega (arith, length_deps))
      (ap (λ (d : ℕ). (row_at t.rows d).author) (named_has j r k b) ∙ sym z
      ∙ sym (ap (λ (d : ℕ). (row_at t.rows d).author) (named_has i q (omega arith) a)))

  -- M4 of such a message.
  m4_of : one_per_author t.rows (dep_rows t s f) ≡ true → M4 t s f
  m4_of e author n i j h k q r a b x y =
      by_ltb (λ _. i ≡ j) i j
      (λ m. absurd (apart e i j q r m k a b (x ∙ sym y)))
      (λ m. by_ltb (λ _. i ≡ j) j i
      (λ o. absurd (apart e j i r q o h b a (y ∙ sym x)))
      (λ o. omega arith))

  -- The room of a message for which the store is not full.
  room_of : (p : ℕ) → full t (row_for t s f p) ≡ false → HasRoom t s f
  room_of p e =
      let a = neither_first (leb (row_room t) t.counts.rows) _ e in
      let b = neither_second (leb (row_room t) t.counts.rows) _ e in
      let c = neither_first (both (ltb t.counts.authors (author_with t (key_of s))) (leb (author_room t) t.counts.authors)) _ b in
      let d = neither_second (both (ltb t.counts.authors (author_with t (key_of s))) (leb (author_room t) t.counts.authors)) _ b in
      record {
        row = leb-false (row_room t) t.counts.rows a;
        key = λ h.
            let z : key_number t (key_of s) ≡ 0 = none_place t.keys (key_of s) t.counts.authors h in
            let g : author_with t (key_of s) ≡ t.counts.authors + 1 = rw z in
            leb-false (author_room t) t.counts.authors (both_refuted _ _ c (lt-ltb t.counts.authors (author_with t (key_of s)) (omega arith)));
        deps = ltb-false (dep_room t) (t.counts.deps + f.count) d;
      }

  -- A message that passes every test is accepted.
  pub accepted : (p : ℕ) → Passes t s f p → Accepted t s f
  accepted p h =
      let own = neither_first (has_author t.rows (author_with t (key_of s)) (dep_rows t s f)) _ h.deps_apart in
      let one = not-false _ (neither_second (has_author t.rows (author_with t (key_of s)) (dep_rows t s f)) _ h.deps_apart) in
      record {
        item = sound_item s f l;
        m5 = h.marked;
        fresh = not_found t w (id_of s) h.fresh;
        m1 = m1_of p h.follows;
        m2 = m2_of p h.follows;
        indexed = indexed_of p h.follows;
        m6 = λ n r has k. not_found t w (id_of s) h.fresh (back t k r);
        m3 = m3_of h.deps_found own;
        m4 = m4_of one;
        room = room_of p h.room;
      }

  -- The row of a message that follows has its previous row: none, or the one that has the previous id.
  prev_none : (p : ℕ) → Follows t s f p → NoPrevious f → p ≡ 0
  prev_none p (starts i z) h = refl
  prev_none p (steps l g z o i) h = absurd (omega arith)

  prev_named : (p : ℕ) → Follows t s f p → (NoPrevious f → ⊥) → Has t (previous_of s) p
  prev_named p (starts i z) h = absurd (h i)
  prev_named p (steps l g z o i) h = rw g at (has_found t w (previous_of s) (rw g z))

  -- The row of a message that passes every test is the item's.
  pub row_of_item : (p : ℕ) → Passes t s f p → RowOfItem t s f (row_for t s f p) (dep_rows t s f)
  row_of_item p h =
      record {
        item = sound_item s f l;
        index = refl;
        number = refl;
        prev_none = prev_none p h.follows;
        prev_named = prev_named p h.follows;
        deps_number = length_deps;
        deps_named = λ k b.
            let n = each_found t.ids t.counts.rows s f f.count k h.deps_found b in
            rw (named_at t.ids t.counts.rows s f f.count k b) (has_found t w (dependency_of f k s) n);
      }

module _ (t : Table) (w : WellFormed t) (s : List ℕ) (f : Fields) (a : Accepted t s f) where
  -- The layout of an accepted message is sound.
  laid : layout_of s ≡ Ok f
  laid = item_sound s f a.item

  -- An accepted message follows.
  follows_from : Indexed t s f → M1 t s f → (p : ℕ) × Follows t s f p
  follows_from (first i z) m =
      (0, starts i (decides_yes (zero_decides (previous_of s)) (z ∙ ap (λ (n : ℕ). replicate {A = ℕ} n 0) (sym (length_previous s f laid)))))
  follows_from (later h e) (inl i) = absurd (omega arith)
  follows_from (later h e) (inr x) =
      let r = x.0 in
      let has = x.1 in (
        r,
        steps h (found_has t w (previous_of s) r has) (λ (q : r ≡ 0). omega (arith, has.message.some))
            (number_of_key t w r has.message (key_of s) (a.m2 (λ (q : f.index ≡ 1). omega arith) r has))
            (e r has),
      )

  -- The author of a dependency is another.
  other_author : (k : ℕ) → k < f.count → (row_at t.rows (get_or (dep_rows t s f) k 0)).author ≢ author_with t (key_of s)
  other_author k h q =
      let x = a.m3 k h in
      x.1.1
      (key_of_number t w x.0 x.1.0.message (key_of s)
      (ap (λ (d : ℕ). (row_at t.rows d).author) (sym (named_has t w s f laid k x.0 h x.1.0)) ∙ q))

  -- Two dependencies have two authors.
  two_authors : (i j : ℕ) → i < j → j < f.count → (row_at t.rows (get_or (dep_rows t s f) j 0)).author ≢ (row_at t.rows (get_or (dep_rows t s f) i 0)).author
  two_authors i j h k q =
      let x = a.m3 i (omega arith) in
      let y = a.m3 j k in
      let e : author_of t y.0 ≡ author_of t x.0 =
      ap (λ (d : ℕ). (row_at t.rows d).author) (sym (named_has t w s f laid j y.0 k y.1.0)) ∙ q
      ∙ ap (λ (d : ℕ). (row_at t.rows d).author) (named_has t w s f laid i x.0 (omega arith) x.1.0) in
      let z : i ≡ j = a.m4 (author_key t x.0) x.1.1 i j (omega arith) k x.0 y.0 x.1.0 y.1.0 refl (ap (key_at t) e) in
      omega arith

  -- The store is not full for an accepted message.
  not_full : (p : ℕ) → full t (row_for t s f p) ≡ false
  not_full p =
      let r : leb (row_room t) t.counts.rows ≡ false = lt-leb (row_room t) t.counts.rows a.room.row in
      let d : ltb (dep_room t) (t.counts.deps + f.count) ≡ false = le-ltb (dep_room t) (t.counts.deps + f.count) a.room.deps in
      rw (r, d, no_key) refl
    where
      no_key : both (ltb t.counts.authors (author_with t (key_of s))) (leb (author_room t) t.counts.authors) ≡ false
      no_key =
          by_eqb (λ b. both (ltb t.counts.authors (pick b (t.counts.authors + 1) (key_number t (key_of s))))
          (leb (author_room t) t.counts.authors) ≡ false)
          (key_number t (key_of s)) 0
          (λ z.
          let g : leb (author_room t) t.counts.authors ≡ false =
          lt-leb (author_room t) t.counts.authors (a.room.key (place_none t.keys (key_of s) t.counts.authors z)) in
          rw (lt-ltb t.counts.authors (t.counts.authors + 1) (omega arith), g))
          (λ z. rw (le-ltb t.counts.authors (key_number t (key_of s)) (place_some t.keys (key_of s) t.counts.authors z).within))

  -- An accepted message passes every test.
  pub passing : (p : ℕ) × Passes t s f p
  passing =
      let g = follows_from a.indexed a.m1 in
      let n : length (dep_rows t s f) ≡ f.count = length_deps t w s f laid in (
        g.0,
        record {
          marked = a.m5;
          fresh = found_not t w (id_of s) a.fresh;
          follows = g.1;
          deps_found = none_lacks t.ids t.counts.rows s f f.count
              (λ k h z. let x = a.m3 k h in not_found t w (dependency_of f k s) z x.0 x.1.0);
          deps_apart =
              let o = of_none t.rows (author_with t (key_of s)) (dep_rows t s f) (λ k h. other_author k (omega arith)) in
              let e = of_one t.rows (dep_rows t s f) (λ i j h k. two_authors i j h (omega arith)) in
              rw (o, e);
          room = not_full g.0;
        },
      )
