-- What asking for a release promises, by the answer. Document 02, §14: "Asking for a release gives 1, 20, then 25 for such an expanded byte in a
-- counted row's place, columns shorter than the row count or a table shorter than 512, then 26 OWNERLESS for any of the 512 owners above the
-- author count, then 27 COMPONENT for a number outside 1 to 512 asked for."
-- Assumes nothing.
use Rattle.answers.specs.declared.Refusal.{Refusal}
use Rattle.std.specs.Prelude.{ℕ, ◌-◌, ◌≤◌, ◌<◌, ◌≡◌, List, ◌⊎◌, ◌≢◌, length, get_or, Option, Some, None, Result, Ok, Err}
use Rattle.std.proofs.Math.Option.{some}
use Rattle.answers.specs.Number.{number_of}
use Rattle.answers.specs.Answers.{checked_number, yes_number}
use Rattle.store.specs.Clauses.{AllChained}
use Rattle.store.specs.Limits.{row_limit}
use Rattle.store.specs.Table.{Table, WellFormed, row_at}
use Rattle.logs.specs.Held.{chain}
use Rattle.logs.specs.States.{state_of}
use Rattle.logs.specs.declared.LogState.{LogState}
use Rattle.chains.specs.Chain.{State, IsForked}
use Rattle.frontiers.specs.Calls.{FrontierOf}
use Rattle.frontiers.specs.Entries.{entry_of}
use Rattle.frontiers.specs.Numbers.{entries_of}
use Rattle.desk.specs.Payload.{says_yes}
use Rattle.releases.specs.declared.Shown.{Shown}
use Rattle.releases.specs.Current.{component_limit, owner_of, expanded_at, is_frozen, HasRelease, NoRelease, WalksTo}

-- Each of the first `n` rows has a byte 0 or 1 in its place.
abbrev pub Marked : List ℕ → ℕ → Type 0
Marked es n = (r : ℕ) → r ≤ n → 1 ≤ r → expanded_at es r ≤ 1

-- What 25 is given for the want of, with `n` rows counted.
pub record ColumnsKept (n : ℕ) (cs es owners : List ℕ) : Type 0 where
  -- "columns shorter than the row count"
  pub components : n ≤ length cs
  pub expanded : n ≤ length es
  -- "or a table shorter than 512"
  pub table : component_limit ≤ length owners
  -- "such an expanded byte in a counted row's place": one that is not 0 or 1
  pub marked : Marked es n

-- What 26 is given for the want of: none of the first `k` owners is "above the author count", `n`.
abbrev pub OwnersKnown : List ℕ → ℕ → ℕ → Type 0
OwnersKnown owners n k = (c : ℕ) → c ≤ k → 1 ≤ c → owner_of owners c ≤ n

-- "27 COMPONENT for a number outside 1 to 512 asked for"
abbrev pub OutsideTable : ℕ → Type 0
OutsideTable c = (c ≡ 0) ⊎ (component_limit < c)

-- What is asked of is sound.
pub record Askable (t : Table) (f cs es owners : List ℕ) (c : ℕ) : Type 0 where
  pub well_formed : WellFormed t
  pub frontier : FrontierOf t f
  pub columns : ColumnsKept t.counts.rows cs es owners
  pub owners_known : OwnersKnown owners t.counts.authors component_limit
  pub some : 1 ≤ c
  pub within : c ≤ component_limit

-- Asking is refused with number `n`. The lines stand in the document's order, and each says that no earlier one held.
pub data NotAsked (t : Table) (f cs es owners : List ℕ) (c n : ℕ) : Type 0 where
  not_well_formed : n ≡ 1 → (WellFormed t → ⊥) → NotAsked t f cs es owners c n
  not_valid : n ≡ 20 → WellFormed t → (FrontierOf t f → ⊥) → NotAsked t f cs es owners c n
  not_kept : n ≡ 25 → WellFormed t → FrontierOf t f → (ColumnsKept t.counts.rows cs es owners → ⊥) → NotAsked t f cs es owners c n
  ownerless : n ≡ 26 → WellFormed t → FrontierOf t f → ColumnsKept t.counts.rows cs es owners
      → (OwnersKnown owners t.counts.authors component_limit → ⊥) → NotAsked t f cs es owners c n
  no_component : n ≡ 27 → WellFormed t → FrontierOf t f → ColumnsKept t.counts.rows cs es owners
      → OwnersKnown owners t.counts.authors component_limit → OutsideTable c → NotAsked t f cs es owners c n

-- What the tests of the question answer.
abbrev pub ChecksAsked : Table → List ℕ → List ℕ → List ℕ → List ℕ → ℕ → Result (Unit {0}) Refusal → Type 0
ChecksAsked t f cs es owners c (Ok tt) = Askable t f cs es owners c
ChecksAsked t f cs es owners c (Err why) = NotAsked t f cs es owners c (checked_number (Err why))

-- The number of an answer: 0 for a release and for none, or the refusal's.
abbrev pub current_number : Result (Option Shown) Refusal → ℕ
current_number (Ok (Some x)) = 0
current_number (Ok None) = 0
current_number (Err why) = number_of why

-- What `current_release` promises of its answer.
abbrev pub Answers : Table → List ℕ → List ℕ → List ℕ → List ℕ → ℕ → Result (Option Shown) Refusal → Type 0
Answers t f cs es owners c (Ok (Some x)) = Askable t f cs es owners c × HasRelease t f cs es owners c x
Answers t f cs es owners c (Ok None) = Askable t f cs es owners c × NoRelease t f cs owners c
Answers t f cs es owners c (Err why) = NotAsked t f cs es owners c (current_number (Err why))

-- What showing an entry asks of the first `n` rows, with the entry's last row: every well_formed table has it.
pub record MayShow (rows cs es : List ℕ) (n last : ℕ) : Type 0 where
  pub chained : AllChained rows n
  pub limit : n ≤ row_limit
  pub indexes : (r : ℕ) → r ≤ n → (row_at rows r).index ≤ n
  pub held : last ≤ n
  pub components : n ≤ length cs
  pub expanded : n ≤ length es

-- What is shown of an entry: the row that the walk from its last row comes to, whatever the ids and the count are.
pub record ShownAt (rows cs es : List ℕ) (k : LogState) (c : ℕ) (x : Shown) : Type 0 where
  pub walks : (ids : List ℕ) (n : ℕ) → WalksTo (chain ids rows n) cs k.last c x.row
  pub found : x.row ≢ 0
  pub index : x.index ≡ (row_at rows x.row).index
  pub expanded : x.expanded ≡ says_yes (expanded_at es x.row)
  pub frozen : x.frozen ≡ is_frozen (state_of k)

-- What showing an entry answers.
abbrev pub ShowsEntry : List ℕ → List ℕ → List ℕ → LogState → ℕ → Result (Option Shown) Refusal → Type 0
ShowsEntry rows cs es k c (Ok (Some x)) = ShownAt rows cs es k c x
ShowsEntry rows cs es k c (Ok None) = (ids : List ℕ) (n : ℕ) → WalksTo (chain ids rows n) cs k.last c 0
ShowsEntry rows cs es k c (Err why) = ⊥

-- The row of what is shown: none is 0, and so it is on a refusal.
abbrev pub shown_row : Result (Option Shown) Refusal → ℕ
shown_row (Ok (Some x)) = x.row
shown_row (Ok None) = 0
shown_row (Err why) = 0

-- The index of what is shown; none counts 0.
abbrev pub shown_index : Result (Option Shown) Refusal → ℕ
shown_index (Ok (Some x)) = x.index
shown_index (Ok None) = 0
shown_index (Err why) = 0

-- Whether its menu starts expanded, 1 or 0; 0 where nothing is shown.
abbrev pub shown_expanded : Result (Option Shown) Refusal → ℕ
shown_expanded (Ok (Some x)) = yes_number x.expanded
shown_expanded (Ok None) = 0
shown_expanded (Err why) = 0

-- Whether the owner's log is frozen, 1 or 0; 0 where nothing is shown.
abbrev pub shown_frozen : Result (Option Shown) Refusal → ℕ
shown_frozen (Ok (Some x)) = yes_number x.frozen
shown_frozen (Ok None) = 0
shown_frozen (Err why) = 0

-- "the owner's log stays growing": its entry in the frontier, where it has one, is not forked.
abbrev pub OwnerGrowing : List ℕ → List ℕ → ℕ → Type 0
OwnerGrowing f owners c = (k : State) → entry_of (entries_of f) (owner_of owners c) ≡ some k → IsForked k → ⊥

-- Two lists have the same numbers in the first `n` places, and both those places or neither.
pub record SameWithin (n : ℕ) (xs ys : List ℕ) : Type 0 where
  pub there : n ≤ length xs → n ≤ length ys
  pub back : n ≤ length ys → n ≤ length xs
  pub same : (r : ℕ) → r ≤ n → 1 ≤ r → get_or xs (r - 1) 0 ≡ get_or ys (r - 1) 0
