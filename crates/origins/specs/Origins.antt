-- Document 02, §9: "Every row gets an origin, 0 to 255, given at admission; a HELD item keeps the first origin." The origins are a part of
-- their own, a byte a row, and are lent only to the calls that write or report them.
-- Assumes nothing.
use Rattle.answers.specs.declared.Refusal.{Refusal}
use Rattle.std.specs.Prelude.{ℕ, ◌-◌, ◌≤◌, ◌<◌, ◌≡◌, ◌⊎◌, List, length, get_or, set, leb, Result, Ok, Err}
use Rattle.basics.specs.Pick.{pick}
use Rattle.answers.specs.Number.{number_of}
use Rattle.answers.specs.declared.Refusal.TheVariants.{Store, Full, Row}
use Rattle.store.specs.Table.{Table, WellFormed}
use Rattle.judging.specs.Verdict.{verdict_of}
use Rattle.judging.specs.declared.Verdict.{Verdict}
use Rattle.judging.specs.declared.Verdict.TheVariants.{Fits, Holds, Breaks}
use Rattle.admission.specs.After.{answer_of, store_after}
use Rattle.admission.specs.declared.Admitted.{Admitted}
use Rattle.admission.specs.declared.Admitted.TheVariants.{Done, Held, Refused}

-- The store is well formed, and the origins have a byte for each of its rows.
pub record WellKept (t : Table) (o : List ℕ) : Type 0 where
  pub store : WellFormed t
  pub held : t.counts.rows ≤ length o

-- 16 FULL: "no free row". Where there is no place for one, a message that the rules let through is refused by it.
unfoldable pub without_place : Verdict → Verdict
without_place (Fits row) = Breaks Full
without_place (Holds r) = Holds r
without_place (Breaks r) = Breaks r

-- "Where a lent part is shorter than its limit, its length is the limit for FULL": so is the length of the origins.
abbrev pub then_place : Table → List ℕ → Verdict → Verdict
then_place t o v = pick (leb (length o) t.counts.rows) (without_place v) v

-- The answer to an item.
abbrev pub answer_from : Table → List ℕ → List ℕ → Admitted
answer_from t o s = answer_of t (then_place t o (verdict_of t s))

-- The store after an item: where the origins have no place for a row, none is written.
abbrev pub store_from : Table → List ℕ → List ℕ → Table
store_from t o s = pick (leb (length o) t.counts.rows) t (store_after t s)

-- The origins after an answer: the new row has the origin given; "a HELD item keeps the first origin", and a refusal changes none.
abbrev pub origins_after : List ℕ → ℕ → Admitted → List ℕ
origins_after o g (Done n) = set o (n - 1) g
origins_after o g (Held r) = o
origins_after o g (Refused why) = o

-- A new row has a place among so many origins.
abbrev pub PlacedWithin : ℕ → Admitted → Type 0
PlacedWithin n (Done row) = (1 ≤ row) × (row ≤ n)
PlacedWithin n (Held row) = Unit {0}
PlacedWithin n (Refused why) = Unit {0}

-- What an admission promises of a store and origins that are well kept: of both before, the origin given, the item's bytes, both after,
-- and the answer.
pub record JudgedFrom (t : Table) (o : List ℕ) (g : ℕ) (s : List ℕ) (u : Table) (o' : List ℕ) (a : Admitted) : Type 0 where
  pub answer : a ≡ answer_from t o s
  pub after : u ≡ store_from t o s
  pub origins : o' ≡ origins_after o g a

-- What an admission promises of any store and origins.
pub data AdmitsFrom (t : Table) (o : List ℕ) (g : ℕ) (s : List ℕ) (u : Table) (o' : List ℕ) (a : Admitted) : Type 0 where
  -- 1 STORE: "not well formed", and where the origins are fewer than the rows.
  damaged : (WellKept t o → ⊥) → a ≡ Refused Store → u ≡ t → o' ≡ o → AdmitsFrom t o g s u o' a
  sound : WellKept t o → JudgedFrom t o g s u o' a → AdmitsFrom t o g s u o' a

-- The number of the report's answer, and the origin that it gives, or 0.
abbrev pub origin_number : Result ℕ Refusal → ℕ
origin_number (Ok g) = 0
origin_number (Err why) = number_of why

abbrev pub origin_given : Result ℕ Refusal → ℕ
origin_given (Ok g) = g
origin_given (Err why) = 0

-- "the report gives 1, then 19 for row 0 or a row above the count."
pub data Reports (t : Table) (o : List ℕ) (r : ℕ) (a : Result ℕ Refusal) : Type 0 where
  damaged_store : (WellKept t o → ⊥) → a ≡ Err Store → Reports t o r a
  no_row : WellKept t o → (r ≡ 0) ⊎ (t.counts.rows < r) → a ≡ Err Row → Reports t o r a
  reported : WellKept t o → 1 ≤ r → r ≤ t.counts.rows → a ≡ Ok (get_or o (r - 1) 0) → Reports t o r a
