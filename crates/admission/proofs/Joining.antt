-- A message that passes every test joins the store: its row is as the rules of the store ask.
-- Assumes nothing.
use Prim.Native.Nat.{ℕ, ◌+◌, ◌≤◌, ◌<◌}
use mathlib.Core.Path.{◌≡◌, refl, sym}
use mathlib.Core.List.{List}
use mathlib.Core.Logic.{◌≢◌, ◌⊎◌, inl, inr}
use native.Mathlib.Omega.{arith}
use lib.ListN.{length}
use borrow.Author.Tests.{not-false}
use Rattle.basics.specs.Chunk.{chunk_size}
use Rattle.basics.specs.Pick.{pick}
use Rattle.basics.proofs.Tests.{by_eqb}
use Rattle.chunks.specs.Piece.{piece_at}
use Rattle.chunks.proofs.Finding.{place_some, place_none}
use Rattle.item.specs.Layout.{key_of, previous_of}
use Rattle.item.specs.Id.{id_of}
use Rattle.item.specs.declared.Fields.{Fields}
use Rattle.store.specs.Table.{Table, WellFormed, author_of, index_of, has_author}
use Rattle.store.specs.declared.Row.{Row}
use Rattle.basics.proofs.Tests.{neither_first, neither_second}
use Rattle.judging.specs.Message.{key_number, author_with, dep_rows}
use Rattle.judging.specs.Verdict.{row_for, judged_of}
use Rattle.admission.specs.After.{admitted}
use Rattle.admission.specs.Grown.{BranchesGrow}
use Rattle.judging.specs.declared.Verdict.TheVariants.{Fits}
use Rattle.judging.proofs.Passing.{Follows, starts, steps, Passes, passes}
use Rattle.admission.proofs.Authors.{none_of}
use Rattle.judging.proofs.Named.{named_length, named_held}
use Rattle.admission.proofs.Growing.{has_room, grows}
use Rattle.admission.proofs.Keeping.{Joins, placed, keeps}
use Rattle.admission.proofs.Branching.{branches_grow}

-- The number of an author by what looking for its key found: some number, one of the store's or the next.
pub record Numbered (t : Table) (k : List ℕ) (a : ℕ) : Type 0 where
  pub some : 1 ≤ a
  pub next : (a ≤ t.counts.authors) ⊎ (a ≡ t.counts.authors + 1)
  pub new : t.counts.authors < a → (i : ℕ) → i ≤ t.counts.authors → 1 ≤ i → piece_at t.keys i ≢ k

-- The author of a message has a number.
pub author_numbered : (t : Table) (k : List ℕ) → Numbered t k (author_with t k)
author_numbered t k =
    by_eqb (λ b. Numbered t k (pick b (t.counts.authors + 1) (key_number t k))) (key_number t k) 0
    (λ e. record { some = omega arith; next = inr refl; new = λ h. place_none t.keys k t.counts.authors e })
    (λ e.
    let p = place_some t.keys k t.counts.authors e in
    record { some = p.some; next = inl p.within; new = λ h. absurd (omega (arith, p.within)) })

module _ (t : Table) (s : List ℕ) (f : Fields) where
  -- The row's place in its chain.
  chain_of_lem : (p : ℕ) → Follows t s f p
      → ((p ≡ 0) × (f.index ≡ 1)) ⊎ (((1 ≤ p) × (p ≤ t.counts.rows)) × ((author_of t p ≡ author_with t (key_of s)) × (index_of t p + 1 ≡ f.index)))
  chain_of_lem p (starts i z) = inl (refl, i)
  chain_of_lem p (steps h g z o i) =
      let q = place_some t.ids (previous_of s) t.counts.rows (rw g z) in
      inr ((rw g at q.some, rw g at q.within), (o, sym i))

  -- What passes every test joins.
  pub joins : (p : ℕ) → Passes t s f p → Joins t (row_for t s f p) (id_of s) (key_of s) (dep_rows t s f)
  joins p h =
      let a = author_numbered t (key_of s) in
      let n : length (dep_rows t s f) ≡ f.count = named_length t.ids t.counts.rows s f f.count in
      record {
        author_some = a.some;
        author_next = a.next;
        key_new = a.new;
        id_new = place_none t.ids (id_of s) t.counts.rows h.fresh;
        chain = chain_of_lem p h.follows;
        deps_held = λ k l. named_held t.ids t.counts.rows s f f.count k h.deps_found (omega arith);
        deps_other = none_of t.rows (author_with t (key_of s)) (dep_rows t s f)
            (neither_first (has_author t.rows (author_with t (key_of s)) (dep_rows t s f)) _ h.deps_apart);
        deps_single = not-false _ (neither_second (has_author t.rows (author_with t (key_of s)) (dep_rows t s f)) _ h.deps_apart);
      }

  -- The branch counts after a message that passes every test.
  pub row_branches : (p : ℕ) → WellFormed t → Passes t s f p → BranchesGrow t (admitted t s f (row_for t s f p)) (row_for t s f p)
  row_branches p w h =
      branches_grow t (row_for t s f p) w (has_room t (row_for t s f p) h.room)
      (placed t (row_for t s f p) (id_of s) (key_of s) (dep_rows t s f) w (joins p h)) (admitted t s f (row_for t s f p)) refl

  -- A row that is given is given to a store that stays well formed.
  pub fits_keeps : WellFormed t → length (id_of s) ≡ chunk_size → length (key_of s) ≡ chunk_size → (row : Row) → judged_of t s f ≡ Fits row
      → WellFormed (admitted t s f row)
  fits_keeps w i k row e =
      let q = passes t s f row e in
      let p = q.0 in
      let h = q.1.1 in
      let room = has_room t (row_for t s f p) h.room in
      rw q.1.0
      (keeps t (admitted t s f (row_for t s f p)) (row_for t s f p) (id_of s) (key_of s) (dep_rows t s f) w room (joins p h)
      (grows t s f p w i k room (row_branches p w h)))
