-- Which items of a stick a salvage keeps, and in which order: document 02, §11, "Each next item is the lowest-numbered one not yet kept that
-- the store, as it then stands, admits; this ends when none is." Items are numbered from 0 here.
-- Assumes nothing.
use Rattle.std.specs.Prelude.{ℕ, zero, suc, ◌<◌, ◌≡◌, Bool, true, false, not, List, [], ◌∷◌, ◌++◌, length, get_or, eqb, ltb}
use Rattle.basics.specs.Pick.{pick, both, either}
use Rattle.admission.specs.declared.Admitted.{Admitted}
use Rattle.admission.specs.declared.Admitted.TheVariants.{Done, Held, Refused}
use Rattle.morning.specs.Intake.{Kept, answer_to, kept_after}

-- "The lent store .. ends with the kept items, origin 0".
abbrev pub salvage_origin : ℕ
salvage_origin = 0

-- What is salvaged so far: the store with its origins, and the numbers of the kept items, in the order in which they were kept.
pub record Salvage : Type 0 where
  pub kept : Kept
  pub order : List ℕ

-- Nothing is salvaged yet.
abbrev pub begun : Kept → Salvage
begun k = record { kept = k; order = [] }

-- The bytes of item `p`.
abbrev pub item_of : List (List ℕ) → ℕ → List ℕ
item_of is p = get_or is p []

-- Whether a number is in an order.
unfoldable pub among : ℕ → List ℕ → Bool
among p [] = false
among p (q ∷ qs) = either (eqb p q) (among p qs)

-- Whether an answer is "0 done".
abbrev pub is_done : Admitted → Bool
is_done (Done row) = true
is_done (Held row) = false
is_done (Refused why) = false

-- "not yet kept that the store, as it then stands, admits": so is item `p`.
abbrev pub free : List (List ℕ) → Salvage → ℕ → Bool
free is g p = both (not (among p g.order)) (is_done (answer_to g.kept (item_of is p)))

-- The lowest number below `n` that passes a test; `n` where none does.
unfoldable pub lowest : (ℕ → Bool) → ℕ → ℕ
lowest test zero = zero
lowest test (suc n) = pick (ltb (lowest test n) n) (lowest test n) (pick (test n) n (suc n))

-- "the lowest-numbered one": the number of the next item, or where none is left that of all items.
abbrev pub next_item : List (List ℕ) → Salvage → ℕ
next_item is g = lowest (free is g) (length is)

-- What is salvaged with item `p` too, which comes last.
abbrev pub keep : List (List ℕ) → Salvage → ℕ → Salvage
keep is g p = record { kept = kept_after g.kept salvage_origin (item_of is p); order = g.order ++ (p ∷ []) }

-- One turn: the next item is kept; "this ends when none is".
unfoldable pub turn : List (List ℕ) → Salvage → Salvage
turn is g = pick (ltb (next_item is g) (length is)) (keep is g (next_item is g)) g

-- What is salvaged after so many turns.
unfoldable pub greedy : List (List ℕ) → Salvage → ℕ → Salvage
greedy is g zero = g
greedy is g (suc n) = turn is (greedy is g n)

-- What is salvaged of all items from this store on: each turn keeps one item, so there are no more turns than items.
abbrev pub salvage_from : List (List ℕ) → Kept → Salvage
salvage_from is k = greedy is (begun k) (length is)

-- The kept items, in order.
unfoldable pub items_in : List (List ℕ) → List ℕ → List (List ℕ)
items_in is [] = []
items_in is (p ∷ ps) = item_of is p ∷ items_in is ps

-- The place of a number in an order, counted from 1.
unfoldable pub place_in : ℕ → List ℕ → ℕ
place_in p [] = 0
place_in p (q ∷ qs) = pick (eqb p q) 1 (suc (place_in p qs))

-- The rule in the document's words: from what is salvaged so far to what is salvaged in the end.
pub data GreedyRule (is : List (List ℕ)) : Salvage → Salvage → Type 0 where
  -- "Each next item is the lowest-numbered one not yet kept that the store, as it then stands, admits;
  next_item_lem : (g end : Salvage) (p : ℕ) → p < length is → free is g p ≡ true → ((q : ℕ) → q < p → free is g q ≡ false) → GreedyRule is (keep is g p) end
      → GreedyRule is g end
  -- this ends when none is."
  none_more : (g : Salvage) → ((q : ℕ) → q < length is → free is g q ≡ false) → GreedyRule is g g
