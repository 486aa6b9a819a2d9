-- Document 02, §14: "The desk has a lent column of component numbers and one of expanded bytes, a place for each row". "Its own admission also
-- writes the new row's two places; beyond admission's answers it gives 25 for a bad payload, after 15 and before 16, and 16 when a column has
-- no place for the row."
-- Assumes nothing.
use Rattle.std.specs.Prelude.{ℕ, ◌≤◌, ◌<◌, min, ◌≡◌, true, false, List, length, leb, Result, Ok, Err}
use Rattle.basics.specs.Pick.{pick, either}
use Rattle.answers.specs.declared.Refusal.{Refusal}
use Rattle.answers.specs.declared.Refusal.TheVariants.{Store, Full, Payload}
use Rattle.item.specs.Layout.{layout_of, payload_of}
use Rattle.item.specs.declared.Fields.{Fields}
use Rattle.store.specs.Table.{Table}
use Rattle.store.specs.declared.Row.{Row}
use Rattle.judging.specs.Verdict.{full, rules_of}
use Rattle.judging.specs.declared.Verdict.{Verdict}
use Rattle.judging.specs.declared.Verdict.TheVariants.{Fits, Holds, Breaks}
use Rattle.admission.specs.After.{answer_of, store_then}
use Rattle.admission.specs.Lines.{Line}
use Rattle.admission.specs.declared.Admitted.{Admitted}
use Rattle.admission.specs.declared.Admitted.TheVariants.{Done, Held, Refused}
use Rattle.origins.specs.Origins.{WellKept, origins_after, origins_after as columnAfter}
use Rattle.desk.specs.Payload.{component_in, expanded_in, is_release}

-- What the desk has beside the store, a place for each row: the origins, "a lent column of component numbers and one of expanded bytes".
pub record Desk : Type 0 where
  pub origins : List ℕ
  pub components : List ℕ
  pub expanded : List ℕ

-- The desk of three lent parts.
abbrev pub desk_of : List ℕ → List ℕ → List ℕ → Desk
desk_of o c e = record { origins = o; components = c; expanded = e }

-- How many rows have a place in all three.
abbrev pub places_in : Desk → ℕ
places_in d = min (length d.origins) (min (length d.components) (length d.expanded))

-- "25 for a bad payload, after 15 and before 16": of a message that the rules 6 to 15 let through.
unfoldable pub then_payload : List ℕ → Verdict → Verdict
then_payload s (Fits row) = pick (is_release (payload_of s)) (Fits row) (Breaks Payload)
then_payload s (Holds r) = Holds r
then_payload s (Breaks r) = Breaks r

-- "and 16 when a column has no place for the row": as where the store has none. There are `p` places.
unfoldable pub then_places : Table → ℕ → Verdict → Verdict
then_places t p (Fits row) = pick (either (leb p t.counts.rows) (full t row)) (Breaks Full) (Fits row)
then_places t p (Holds r) = Holds r
then_places t p (Breaks r) = Breaks r

-- 6 to 15, 25 and 16 in order, for an item that has these fields.
abbrev pub release_of : Table → ℕ → List ℕ → Fields → Verdict
release_of t p s f = then_places t p (then_payload s (rules_of t s f))

-- The layout's refusals before them.
unfoldable pub then_release : Table → ℕ → List ℕ → Result Fields Refusal → Verdict
then_release t p s (Ok f) = release_of t p s f
then_release t p s (Err r) = Breaks r

-- The verdict on an item.
abbrev pub release_verdict : Table → ℕ → List ℕ → Verdict
release_verdict t p s = then_release t p s (layout_of s)

-- The store after an item, by its layout: what a row that is given writes is admission's.
unfoldable pub store_with : Table → ℕ → List ℕ → Result Fields Refusal → Table
store_with t p s (Ok f) = store_then t s f (release_of t p s f)
store_with t p s (Err r) = t

-- What is beside the store after an answer: a new row has the origin given, and "also .. the new row's two places"; else all stays.
abbrev pub desk_after : Desk → ℕ → List ℕ → Admitted → Desk
desk_after d g s a =
    record {
      origins = origins_after d.origins g a;
      components = columnAfter d.components (component_in (payload_of s)) a;
      expanded = columnAfter d.expanded (expanded_in (payload_of s)) a;
    }

-- What the desk's admission of an item with these fields promises of the store.
pub record JudgedRelease (t : Table) (p : ℕ) (s : List ℕ) (f : Fields) (u : Table) (a : Admitted) : Type 0 where
  pub answer : a ≡ answer_of t (release_of t p s f)
  pub after : u ≡ store_then t s f (release_of t p s f)

-- The same of any item.
pub record JudgedStore (t : Table) (p : ℕ) (s : List ℕ) (u : Table) (a : Admitted) : Type 0 where
  pub answer : a ≡ answer_of t (release_verdict t p s)
  pub after : u ≡ store_with t p s (layout_of s)

-- A new row has a place in all three, and the payload is a release's.
abbrev pub ReleasePlaced : ℕ → List ℕ → Admitted → Type 0
ReleasePlaced p s (Done row) = (1 ≤ row) × ((row ≤ p) × (is_release (payload_of s) ≡ true))
ReleasePlaced p s (Held row) = Unit {0}
ReleasePlaced p s (Refused why) = Unit {0}

-- What the desk's admission promises of a store and origins that are well kept: of both before, the origin given, the item's bytes, both
-- after, and the answer.
pub record DeskJudged (t : Table) (d : Desk) (g : ℕ) (s : List ℕ) (u : Table) (d' : Desk) (a : Admitted) : Type 0 where
  pub answer : a ≡ answer_of t (release_verdict t (places_in d) s)
  pub after : u ≡ store_with t (places_in d) s (layout_of s)
  pub beside : d' ≡ desk_after d g s a

-- What the desk's admission promises of any store and desk.
pub data DeskAdmits (t : Table) (d : Desk) (g : ℕ) (s : List ℕ) (u : Table) (d' : Desk) (a : Admitted) : Type 0 where
  -- 1 STORE, as in every admission: not well formed, or fewer origins than rows.
  damaged : (WellKept t d.origins → ⊥) → a ≡ Refused Store → u ≡ t → d' ≡ d → DeskAdmits t d g s u d' a
  sound : WellKept t d.origins → DeskJudged t d g s u d' a → DeskAdmits t d g s u d' a

-- The lines of all refusals of the desk's admission: each is given only where its line holds.
pub data DeskLine (t : Table) (d : Desk) (s : List ℕ) : Refusal → Type 0 where
  -- 1 to 16, of every admission
  admission : {r : Refusal} → Line t s r → DeskLine t d s r
  -- 1 STORE: fewer origins than rows
  few_origins : length d.origins < t.counts.rows → DeskLine t d s Store
  -- 25 PAYLOAD: of an item that the rules up to 15 let through
  payload : (f : Fields) (row : Row) → layout_of s ≡ Ok f → rules_of t s f ≡ Fits row → is_release (payload_of s) ≡ false → DeskLine t d s Payload
  -- 16 FULL: "when a column has no place for the row", or the origins have none
  no_place : places_in d ≤ t.counts.rows → DeskLine t d s Full
