-- The steps of the desk's admission, one law a step, over plain values.
-- Assumes nothing.
use Rattle.std.specs.Prelude.{Result, Ok, Err}
use Prim.Native.Nat.{ℕ, ◌+◌, ◌-◌, ◌*◌, ◌≤◌, ◌<◌, min}
use mathlib.Core.Path.{◌≡◌, refl, sym, ap, subst, ◌∙◌}
use mathlib.Core.Bool.{Bool, true, false}
use mathlib.Core.List.{List}
use mathlib.Core.Logic.{◌≢◌}
use native.Mathlib.Omega.{arith}
use borrow.Author.Tests.{eq-eqb, ne_eqb, eqb-true, le-leb, lt-leb, leb-false, leb-true}
use lib.Dec.{eqb, leb}
use lib.ListN.{length, get_or, set}
use Rattle.basics.specs.Pick.{pick, either}
use Rattle.basics.proofs.Tests.{both_left, both_right, neither_first, neither_second}
use Rattle.answers.specs.declared.Refusal.{Refusal}
use Rattle.answers.specs.declared.Refusal.TheVariants.{Full, Payload}
use Rattle.item.specs.Layout.{layout_of, payload_of}
use Rattle.item.specs.Little.{le16}
use Rattle.item.specs.declared.Fields.{Fields}
use Rattle.store.specs.Table.{Table}
use Rattle.store.specs.declared.Row.{Row}
use Rattle.judging.specs.Message.{next_row}
use Rattle.judging.specs.Verdict.{full, then_room, rules_of, judged_of}
use Rattle.judging.specs.declared.Verdict.{Verdict}
use Rattle.judging.specs.declared.Verdict.TheVariants.{Fits, Holds, Breaks}
use Rattle.judging.proofs.Passing.{no_row, holds_no_row, past, past_kept}
use Rattle.admission.specs.After.{admitted, answer_of, store_then}
use Rattle.admission.specs.declared.Admitted.{Admitted}
use Rattle.admission.specs.declared.Admitted.TheVariants.{Done, Held, Refused}
use Rattle.desk.specs.Payload.{payload_width, component_in, expanded_in, is_mark, is_release}
use Rattle.desk.specs.Desk.{Desk, desk_of, places_in, then_payload, then_places, release_of, then_release, release_verdict, store_with, desk_after}
use Rattle.desk.specs.Desk.{JudgedRelease, JudgedStore, ReleasePlaced, DeskJudged}

-- THE PAYLOAD

-- A payload of another length is none,
pub other_length : (p : List ℕ) → length p ≢ payload_width → eqb (length p) payload_width ≡ is_release p
unfolding is_release
other_length p h = rw (ne_eqb (length p) payload_width h)

-- and of one of three bytes the third decides.
pub third_decides : (p : List ℕ) → length p ≡ payload_width → is_mark (expanded_in p) ≡ is_release p
unfolding is_release
third_decides p h = rw (eq-eqb (length p) payload_width h)

-- A release's payload has three bytes,
pub release_length : (p : List ℕ) → is_release p ≡ true → length p ≡ payload_width
unfolding is_release
release_length p h = eqb-true (length p) payload_width (both_left (eqb (length p) payload_width) (is_mark (expanded_in p)) h)

-- and the third is 0 or 1.
pub release_mark : (p : List ℕ) → is_release p ≡ true → expanded_in p ≤ 1
unfolding is_release
release_mark p h = leb-true (expanded_in p) 1 (both_right (eqb (length p) payload_width) (is_mark (expanded_in p)) h)

-- The two bytes of a component number.
pub component_said : (p : List ℕ) (a b : ℕ) → a ≡ get_or p 0 0 → b ≡ get_or p 1 0 → a + 256 * b ≡ component_in p
unfolding le16
component_said p a b e f = rw (e, f)

-- THE VERDICT

module _ (t : Table) (p : ℕ) (s : List ℕ) (f : Fields) (v : Verdict) (ruled : v ≡ rules_of t s f) where
  module _ (row : Row) (e : v ≡ Fits row) (x : List ℕ) (b : Bool) (g : x ≡ payload_of s) (h : b ≡ is_release x) where
    -- The rules let the item through.
    let_through : rules_of t s f ≡ Fits row
    let_through = sym ruled ∙ e

    -- The payload is no release's.
    pub bad_payload : b ≡ false → Breaks Payload ≡ release_of t p s f
    unfolding then_payload then_places
    bad_payload k = let z : is_release (payload_of s) ≡ false = ap is_release (sym g) ∙ sym h ∙ k in rw (let_through, z)

    module _ (k : b ≡ true) where
      -- It is one.
      good_payload : is_release (payload_of s) ≡ true
      good_payload = ap is_release (sym g) ∙ sym h ∙ k

      -- A part beside the store has no place for the row.
      pub no_place : p ≤ t.counts.rows → Breaks Full ≡ release_of t p s f
      unfolding then_payload then_places
      no_place l = rw (let_through, good_payload, le-leb p t.counts.rows l)

      -- The store has no room for it,
      pub no_room : t.counts.rows < p → (c : Bool) → c ≡ full t row → c ≡ true → Breaks Full ≡ release_of t p s f
      unfolding then_payload then_places
      no_room l c m n = rw (let_through, good_payload, lt-leb p t.counts.rows l, sym m ∙ n)

      -- or it has.
      pub room_given : t.counts.rows < p → (c : Bool) → c ≡ full t row → c ≡ false → Fits row ≡ release_of t p s f
      unfolding then_payload then_places
      room_given l c m n = rw (let_through, good_payload, lt-leb p t.counts.rows l, sym m ∙ n)

  -- Every other verdict stands.
  pub still_held : (r : ℕ) → v ≡ Holds r → Holds r ≡ release_of t p s f
  unfolding then_payload then_places
  still_held r e = let z : rules_of t s f ≡ Holds r = sym ruled ∙ e in rw z

  pub still_broken : (r : Refusal) → v ≡ Breaks r → Breaks r ≡ release_of t p s f
  unfolding then_payload then_places
  still_broken r e = let z : rules_of t s f ≡ Breaks r = sym ruled ∙ e in rw z

-- A verdict that gives a row is not one that names a holder.
fits_not_held : (row : Row) (r : ℕ) → Fits row ≡ Holds r → ⊥
fits_not_held row r e = holds_no_row r row (sym e)

-- A refusal names no holder.
broken_not_held : (q : Refusal) (r : ℕ) → Breaks q ≡ Holds r → ⊥
broken_not_held q r e = let z : ◌≡◌ {A = ℕ} 0 1 = cc in omega arith

module _ (t : Table) (p : ℕ) (s : List ℕ) where
  -- Back from 16: what gave a row found a place, and room.
  past_places : (v : Verdict) (row : Row) → then_places t p v ≡ Fits row → (v ≡ Fits row) × ((t.counts.rows < p) × (full t row ≡ false))
  unfolding then_places
  past_places (Fits q) row e =
      let w = past (either (leb p t.counts.rows) (full t q)) Full (Fits q) row e in
      let z : q ≡ row = cc in
      let k : full t q ≡ false = neither_second (leb p t.counts.rows) (full t q) w.0 in
      (w.1, (leb-false p t.counts.rows (neither_first (leb p t.counts.rows) (full t q) w.0), rw z at k))
  past_places (Holds r) row e = absurd (holds_no_row r row e)
  past_places (Breaks r) row e = absurd (no_row r row e)

  -- Back from 25: the payload is a release's.
  past_payload : (v : Verdict) (row : Row) → then_payload s v ≡ Fits row → (v ≡ Fits row) × (is_release (payload_of s) ≡ true)
  unfolding then_payload
  past_payload (Fits q) row e = let w = past_kept (is_release (payload_of s)) Payload (Fits q) row e in (w.1, w.0)
  past_payload (Holds r) row e = absurd (holds_no_row r row e)
  past_payload (Breaks r) row e = absurd (no_row r row e)

  -- A row that the desk gives admission gives; the payload is a release's, and there is a place.
  pub desk_fits : (v : Verdict) (row : Row) → then_places t p (then_payload s v) ≡ Fits row
      → (then_room t v ≡ Fits row) × ((is_release (payload_of s) ≡ true) × (t.counts.rows < p))
  unfolding then_room
  desk_fits v row e =
      let a = past_places (then_payload s v) row e in
      let b = past_payload v row a.0 in
      let z : v ≡ Fits row = b.0 in
      (rw (z, a.1.1), (b.1, a.1.0))

  -- What names a holder after 16 named it before,
  held_places : (v : Verdict) (r : ℕ) → then_places t p v ≡ Holds r → v ≡ Holds r
  unfolding then_places
  held_places (Fits q) r e = absurd (no_choice (either (leb p t.counts.rows) (full t q)) e)
    where
      no_choice : (b : Bool) → pick b (Breaks Full) (Fits q) ≡ Holds r → ⊥
      no_choice true h = broken_not_held Full r h
      no_choice false h = fits_not_held q r h
  held_places (Holds q) r e = e
  held_places (Breaks q) r e = absurd (broken_not_held q r e)

  -- and before 25.
  held_payload : (v : Verdict) (r : ℕ) → then_payload s v ≡ Holds r → v ≡ Holds r
  unfolding then_payload
  held_payload (Fits q) r e = absurd (no_choice (is_release (payload_of s)) e)
    where
      no_choice : (b : Bool) → pick b (Fits q) (Breaks Payload) ≡ Holds r → ⊥
      no_choice true h = fits_not_held q r h
      no_choice false h = broken_not_held Payload r h
  held_payload (Holds q) r e = e
  held_payload (Breaks q) r e = absurd (broken_not_held q r e)

  -- An item that the desk calls held admission calls held.
  pub desk_held : (v : Verdict) (r : ℕ) → then_places t p (then_payload s v) ≡ Holds r → then_room t v ≡ Holds r
  unfolding then_room
  desk_held v r e = let z : v ≡ Holds r = held_payload v r (held_places (then_payload s v) r e) in rw z

module _ (t : Table) (p : ℕ) (s : List ℕ) (f : Fields) (v : Verdict) (g : v ≡ release_of t p s f) where
  -- A row that is given to an item with these fields admission gives.
  pub fits_given : (row : Row) → v ≡ Fits row → judged_of t s f ≡ Fits row
  fits_given row e = (desk_fits t p s (rules_of t s f) row (sym g ∙ e)).0

  -- A row that holds it, it names.
  pub held_given : (r : ℕ) → v ≡ Holds r → judged_of t s f ≡ Holds r
  held_given r e = desk_held t p s (rules_of t s f) r (sym g ∙ e)

-- WHAT IS WRITTEN

module _ (t : Table) (p : ℕ) (s : List ℕ) (f : Fields) (v : Verdict) (g : v ≡ release_of t p s f) where
  -- The row was written.
  pub release_done : (row : Row) (u : Table) (n : ℕ) → v ≡ Fits row → u ≡ admitted t s f row → n ≡ next_row t → JudgedRelease t p s f u (Done n)
  unfolding store_then
  release_done row u n e h k = let z : release_of t p s f ≡ Fits row = sym g ∙ e in record { answer = rw (z, k); after = rw z h }

  -- The item is held.
  pub release_held : (r n : ℕ) → v ≡ Holds r → n ≡ r → JudgedRelease t p s f t (Held n)
  unfolding store_then
  release_held r n e k = let z : release_of t p s f ≡ Holds r = sym g ∙ e in record { answer = rw (z, k); after = rw z }

  -- A rule is broken.
  pub release_refused : (x : Refusal) → v ≡ Breaks x → JudgedRelease t p s f t (Refused x)
  unfolding store_then
  release_refused x e = let z : release_of t p s f ≡ Breaks x = sym g ∙ e in record { answer = rw z; after = rw z }

module _ (t : Table) (p : ℕ) (s : List ℕ) (l : Result Fields Refusal) (g : l ≡ layout_of s) where
  -- The layout is sound: the item is judged by its fields.
  pub store_sound : (f : Fields) (u : Table) (a : Admitted) → l ≡ Ok f → JudgedRelease t p s f u a → JudgedStore t p s u a
  unfolding then_release store_with
  store_sound f u a e j = let z : layout_of s ≡ Ok f = sym g ∙ e in record { answer = rw z j.answer; after = rw z j.after }

  -- The layout is refused.
  pub store_refused : (x : Refusal) → l ≡ Err x → JudgedStore t p s t (Refused x)
  unfolding then_release store_with
  store_refused x e = let z : layout_of s ≡ Err x = sym g ∙ e in record { answer = rw z; after = rw z }

-- BESIDE THE STORE

-- A new row has a place, and the payload is a release's: by the verdict,
placed_verdict : (t : Table) (p : ℕ) (s : List ℕ) (f : Fields) (v : Verdict) → release_of t p s f ≡ v → ReleasePlaced p s (answer_of t v)
placed_verdict t p s f (Fits row) e = let w = desk_fits t p s (rules_of t s f) row e in (omega arith, (omega (arith, w.1.1), w.1.0))
placed_verdict t p s f (Holds r) e = tt
placed_verdict t p s f (Breaks r) e = tt

-- by the layout,
pub placed_layout : (t : Table) (p : ℕ) (s : List ℕ) (l : Result Fields Refusal) → ReleasePlaced p s (answer_of t (then_release t p s l))
unfolding then_release
placed_layout t p s (Ok f) = placed_verdict t p s f (release_of t p s f) refl
placed_layout t p s (Err r) = tt

-- and over the three parts beside the store.
pub placed_beside : (t : Table) (d : Desk) (s : List ℕ) (a : Admitted) (q p : ℕ) → q ≡ min (length d.components) (length d.expanded)
    → p ≡ min (length d.origins) q → a ≡ answer_of t (release_verdict t p s) → ReleasePlaced (places_in d) s a
placed_beside t d s a q p e f h =
    let z : p ≡ places_in d = f ∙ ap (min (length d.origins)) e in
    subst (λ (n : ℕ). ReleasePlaced n s a) z (subst (ReleasePlaced p s) (sym h) (placed_layout t p s (layout_of s)))

-- What a new row's place is.
pub placed_row : (p : ℕ) (s : List ℕ) (a : Admitted) (row : ℕ) → a ≡ Done row → ReleasePlaced p s a
    → (1 ≤ row) × ((row ≤ p) × (is_release (payload_of s) ≡ true))
placed_row p s a row e h = subst (ReleasePlaced p s) e h

-- The three places are written,
pub put_done : (o c e : List ℕ) (g : ℕ) (s : List ℕ) (a : Admitted) (row w n : ℕ) (x : List ℕ) → a ≡ Done row → w ≡ row → x ≡ payload_of s
    → n ≡ component_in x → desk_of (set o (w - 1) g) (set c (w - 1) n) (set e (w - 1) (expanded_in x)) ≡ desk_after (desk_of o c e) g s a
put_done o c e g s a row w n x h i j k = rw (h, i, k, j)

-- or stay.
pub put_held : (d : Desk) (g : ℕ) (s : List ℕ) (a : Admitted) (r : ℕ) → a ≡ Held r → d ≡ desk_after d g s a
put_held d g s a r h = rw h

pub put_refused : (d : Desk) (g : ℕ) (s : List ℕ) (a : Admitted) (r : Refusal) → a ≡ Refused r → d ≡ desk_after d g s a
put_refused d g s a r h = rw h

-- The store and what is beside it, together.
pub desk_judged : (t : Table) (d : Desk) (g : ℕ) (s : List ℕ) (u : Table) (d' : Desk) (a : Admitted) (q p : ℕ)
    → q ≡ min (length d.components) (length d.expanded) → p ≡ min (length d.origins) q → JudgedStore t p s u a → d' ≡ desk_after d g s a
    → DeskJudged t d g s u d' a
desk_judged t d g s u d' a q p e f j h =
    let z : p ≡ places_in d = f ∙ ap (min (length d.origins)) e in
    record {
      answer = j.answer ∙ ap (λ (n : ℕ). answer_of t (release_verdict t n s)) z;
      after = j.after ∙ ap (λ (n : ℕ). store_with t n s (layout_of s)) z;
      beside = h;
    }
