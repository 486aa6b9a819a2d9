-- What document 02, §11, says of the orders in which items are admitted into an empty store.
-- Assumes nothing.
use Rattle.std.specs.Prelude.{ℕ, zero, suc, ◌+◌, ◌<◌, ◌≡◌, true, List, [], ◌∷◌, ◌≢◌, length}
use Rattle.answers.specs.declared.Refusal.TheVariants.{Full}
use Rattle.item.specs.Id.{id_of}
use Rattle.item.specs.Laid.{IsItem}
use Rattle.item.specs.Layout.{key_of, hashed_of}
use Rattle.item.specs.declared.Fields.{Fields}
use Rattle.store.specs.Table.{Table, index_of}
use Rattle.admission.specs.Paper.{Has, author_key}
use Rattle.admission.specs.declared.Admitted.TheVariants.{Done, Refused}
use Rattle.morning.specs.Intake.{Kept, answer_to, kept_after, kept_after_all}
use Rattle.rescue.specs.Greedy.{Salvage, salvage_origin, item_of, among, items_in}
use Rattle.rescue.specs.Salvaging.{Lent, empty_in}

-- "an order in which every item is admitted": each of the items in turn, from this store on.
pub data AllAdmitted : Kept → List (List ℕ) → Type 0 where
  none_left : (k : Kept) → AllAdmitted k []
  admitted : (k : Kept) (i : List ℕ) (is : List (List ℕ)) (row : ℕ) → answer_to k i ≡ Done row → AllAdmitted (kept_after k salvage_origin i) is
      → AllAdmitted k (i ∷ is)

-- The numbers and rows of answers that are all done: 0 and the row after `n`, and so on, so many.
unfoldable pub dones_from : ℕ → ℕ → List ℕ
dones_from n zero = []
dones_from n (suc many) = 0 ∷ (n + 1) ∷ dones_from (n + 1) many

-- The store has a message with this id: "an id is kept".
pub record HasId (k : Kept) (x : List ℕ) : Type 0 where
  pub row : ℕ
  pub has : Has k.store x row

-- Row `r` of a store is item `i`'s: it has its id, its author's key and its index; and its mark is 1.
pub record RowIs (t : Table) (r : ℕ) (i : List ℕ) : Type 0 where
  pub fields : Fields
  pub item : IsItem i fields
  pub marked : fields.mark ≡ 1
  pub has : Has t (id_of i) r
  pub key : author_key t r ≡ key_of i
  pub index : index_of t r ≡ fields.index

-- "some order of some of the items admits it": into an empty store, whatever its room, and whatever else the order names that is refused.
pub record Reached (is : List (List ℕ)) (x : List ℕ) : Type 0 where
  pub lent : Lent
  pub order : List ℕ
  pub items : (p : ℕ) → among p order ≡ true → p < length is
  pub admits : HasId (kept_after_all (empty_in lent) salvage_origin (items_in is order)) x

-- "Where no limit behind FULL is met": the final store answers no item with it.
abbrev pub NoneFull : List (List ℕ) → Salvage → Type 0
NoneFull is g = (p : ℕ) → p < length is → answer_to g.kept (item_of is p) ≢ Refused Full

-- "and no two items differ after the mark and share an id".
abbrev pub NoClash : List (List ℕ) → Type 0
NoClash is =
    (p q : ℕ) → p < length is → q < length is → (f g : Fields) → IsItem (item_of is p) f → IsItem (item_of is q) g
    → id_of (item_of is p) ≡ id_of (item_of is q) → hashed_of (item_of is p) ≡ hashed_of (item_of is q)

-- Each item of the one stick is on the other, wherever it stands there.
pub record ItemsAmong (is js : List (List ℕ)) : Type 0 where
  pub number : ℕ → ℕ
  pub inside : (p : ℕ) → p < length is → number p < length js
  pub same : (p : ℕ) → p < length is → item_of js (number p) ≡ item_of is p

-- The lent parts of two stores, and their origins, are as long.
pub record SameRoom (l m : Lent) : Type 0 where
  pub keys : length l.keys ≡ length m.keys
  pub ids : length l.ids ≡ length m.ids
  pub rows : length l.rows ≡ length m.rows
  pub deps : length l.deps ≡ length m.deps
  pub branches : length l.branches ≡ length m.branches
  pub origins : length l.origins ≡ length m.origins
