-- A whole intake in one call: document 02, §4, "The store and every answer equal those of admitting the items one by one in order, refusals
-- between admissions included".
-- Assumes nothing.
use Rattle.answers.specs.declared.Refusal.{Refusal}
use Rattle.std.specs.Prelude.{ℕ, ◌+◌, ◌*◌, ◌≤◌, ◌<◌, ◌≡◌, List, [], ◌∷◌, ◌++◌, length, take, drop, set, Result, Ok, Err}
use Rattle.answers.specs.declared.Refusal.TheVariants.{Store, Room}
use Rattle.cutting.specs.Cutting.{size_of, items_of}
use Rattle.store.specs.Clauses.{table_of, table_held}
use Rattle.store.specs.Table.{Table}
use Rattle.store.specs.declared.lent.Counts.{Counts}
use Rattle.store.specs.declared.lent.StoreMut.{StoreMut}
use Rattle.admission.specs.declared.Admitted.{Admitted}
use Rattle.admission.specs.Answer.{answer_number, answer_row}
use Rattle.origins.specs.Origins.{WellKept, answer_from, store_from, origins_after, AdmitsFrom}

-- A store with the origins of its rows.
pub record Kept : Type 0 where
  pub store : Table
  pub origins : List ℕ

-- What the lent parts keep.
abbrev pub kept_of : List ℕ → List ℕ → List ℕ → List ℕ → List ℕ → List ℕ → Counts → Kept
kept_of keys ids rows deps branches origins counts = record { store = table_of keys ids rows deps branches counts; origins = origins }

-- What a store lent to be written keeps with these origins.
abbrev pub kept_by : StoreMut → List ℕ → Kept
kept_by store origins = record { store = table_held store; origins = origins }

-- "a lent list for each one's number and row": so many numbers an item.
abbrev pub answer_width : ℕ
answer_width = 2

-- The list with an answer's number and row at the places of item `n`, counted from 0.
abbrev pub answer_put : List ℕ → ℕ → Admitted → List ℕ
answer_put l n a = set (set l (answer_width * n) (answer_number a)) (answer_width * n + 1) (answer_row a)

-- The answer to an item.
abbrev pub answer_to : Kept → List ℕ → Admitted
answer_to k i = answer_from k.store k.origins i

-- What is kept after an item with this origin.
abbrev pub kept_after : Kept → ℕ → List ℕ → Kept
kept_after k g i = record { store = store_from k.store k.origins i; origins = origins_after k.origins g (answer_to k i) }

-- What is kept after the items, admitted one by one in order: "A morning's intake has one origin for all its items".
unfoldable pub kept_after_all : Kept → ℕ → List (List ℕ) → Kept
kept_after_all k g [] = k
kept_after_all k g (i ∷ is) = kept_after_all (kept_after k g i) g is

-- The number and the row of each item's answer, in order.
unfoldable pub answers_to : Kept → ℕ → List (List ℕ) → List ℕ
answers_to k g [] = []
answers_to k g (i ∷ is) = answer_number (answer_to k i) ∷ answer_row (answer_to k i) ∷ answers_to (kept_after k g i) g is

-- The item that begins at a place of the stretch.
abbrev pub item_at : List ℕ → ℕ → List ℕ
item_at s at = take (size_of (drop at s)) (drop at s)

-- One item is admitted, and its answer listed; the next one begins behind it.
pub record Next (k : Kept) (g : ℕ) (s : List ℕ) (at : ℕ) (l : List ℕ) (n : ℕ) (k' : Kept) (l' : List ℕ) (end : ℕ) : Type 0 where
  pub behind : end ≡ at + size_of (drop at s)
  pub further : at < end
  pub inside : end ≤ length s
  pub kept : k' ≡ kept_after k g (item_at s at)
  pub list : l' ≡ answer_put l n (answer_to k (item_at s at))

-- Each item is admitted in turn, and its answer listed; room beyond stays.
pub record Each (k : Kept) (g : ℕ) (s l : List ℕ) (k' : Kept) (l' : List ℕ) : Type 0 where
  pub kept : k' ≡ kept_after_all k g (items_of s)
  pub list : l' ≡ answers_to k g (items_of s) ++ drop (answer_width * length (items_of s)) l

-- The store is well formed, and has an origin for each row.
abbrev pub Sound : Kept → Type 0
Sound k = WellKept k.store k.origins

-- What the call promises: of what is kept, the origin, the stretch of items and the list before; what is kept and the list after; and the
-- answer, which is how many items there are.
pub data TakesIn (k : Kept) (g : ℕ) (s l : List ℕ) (k' : Kept) (l' : List ℕ) (a : Result ℕ Refusal) : Type 0 where
  -- "Refusals for the whole call, nothing changed: 1,
  damaged : (Sound k → ⊥) → a ≡ Err Store → k' ≡ k → l' ≡ l → TakesIn k g s l k' l' a
  -- then 21 when the list is shorter than the result";
  no_room : Sound k → length l < answer_width * length (items_of s) → a ≡ Err Room → k' ≡ k → l' ≡ l → TakesIn k g s l k' l' a
  -- "room beyond it stays".
  taken_in : Sound k → answer_width * length (items_of s) ≤ length l → a ≡ Ok (length (items_of s)) → Each k g s l k' l' → TakesIn k g s l k' l' a

-- Admissions one by one, in order, all with one origin: what is kept before, the items, what is kept after, and the answers.
pub data OneByOne (g : ℕ) : Kept → List (List ℕ) → Kept → List Admitted → Type 0 where
  none_left : (k : Kept) → OneByOne g k [] k []
  one_more : (k : Kept) (i : List ℕ) (l : Kept) (a : Admitted) (is : List (List ℕ)) (m : Kept) (given : List Admitted)
      → AdmitsFrom k.store k.origins g i l.store l.origins a → OneByOne g l is m given → OneByOne g k (i ∷ is) m (a ∷ given)

-- The numbers and rows of answers, as a list has them.
unfoldable pub listed : List Admitted → List ℕ
listed [] = []
listed (a ∷ given) = answer_number a ∷ answer_row a ∷ listed given
