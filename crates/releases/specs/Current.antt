-- Document 02, §14: "The current release of a component is the owner's message with the highest index among those at or before the last row of
-- the owner's entry that carry that component; with it go its expanded byte and whether the owner's log is frozen. No owner, no entry or no
-- such message means none."
-- Assumes nothing.
use Rattle.std.specs.Prelude.{ℕ, ◌-◌, ◌≤◌, ◌≡◌, Bool, true, false, List, ◌≢◌, get_or}
use Rattle.std.proofs.Math.Option.{none, some}
use Rattle.store.specs.Table.{Table, index_of}
use Rattle.chains.specs.Chain.{Store, State, growing, forked, last_of, RowOf, AtOrBefore}
use Rattle.logs.specs.Held.{chain_of}
use Rattle.frontiers.specs.Entries.{entry_of}
use Rattle.frontiers.specs.Numbers.{entries_of}
use Rattle.desk.specs.Payload.{says_yes}
use Rattle.releases.specs.declared.Shown.{Shown}

-- "each component (1 to 512)"
abbrev pub component_limit : ℕ
component_limit = 512

-- "a table giving each component .. its owner, an author number or 0"
abbrev pub owner_of : List ℕ → ℕ → ℕ
owner_of owners c = get_or owners (c - 1) 0

-- "a lent column of component numbers and one of expanded bytes, a place for each row": those of row `r`.
abbrev pub component_at : List ℕ → ℕ → ℕ
component_at cs r = get_or cs (r - 1) 0

abbrev pub expanded_at : List ℕ → ℕ → ℕ
expanded_at es r = get_or es (r - 1) 0

-- Row `r` is a message of the owner `a`, "at or before the last row of the owner's entry", which is `last`, and carries component `c`.
pub record Carries (t : Table) (cs : List ℕ) (a last c r : ℕ) : Type 0 where
  pub message : RowOf (chain_of t) a r
  pub back : AtOrBefore (chain_of t) r last
  pub carries : component_at cs r ≡ c

-- "the owner's message with the highest index among those"
pub record IsCurrent (t : Table) (cs : List ℕ) (a last c r : ℕ) : Type 0 where
  pub one : Carries t cs a last c r
  pub highest : (q : ℕ) → Carries t cs a last c q → index_of t q ≤ index_of t r

-- "whether the owner's log is frozen": its entry is forked.
abbrev pub is_frozen : State → Bool
is_frozen (growing l) = false
is_frozen (forked l lo hi) = true

-- What is shown of the owner `a` whose entry is `k`: the release's row and index, "with it go its expanded byte and whether the owner's log is frozen".
-- The byte 1 alone says that the menu starts expanded.
pub record Shows (t : Table) (cs es : List ℕ) (a : ℕ) (k : State) (c : ℕ) (x : Shown) : Type 0 where
  pub current : IsCurrent t cs a (last_of k) c x.row
  pub index : x.index ≡ index_of t x.row
  pub expanded : x.expanded ≡ says_yes (expanded_at es x.row)
  pub frozen : x.frozen ≡ is_frozen k

-- The component has a current release in the frontier `f`: its owner's entry shows it.
pub record HasRelease (t : Table) (f cs es owners : List ℕ) (c : ℕ) (x : Shown) : Type 0 where
  pub owned : owner_of owners c ≢ 0
  pub state : State
  pub entry : entry_of (entries_of f) (owner_of owners c) ≡ some state
  pub shows : Shows t cs es (owner_of owners c) state c x

-- "No owner, no entry or no such message means none."
pub data NoRelease (t : Table) (f cs owners : List ℕ) (c : ℕ) : Type 0 where
  no_owner : owner_of owners c ≡ 0 → NoRelease t f cs owners c
  no_entry : owner_of owners c ≢ 0 → entry_of (entries_of f) (owner_of owners c) ≡ none → NoRelease t f cs owners c
  no_message : owner_of owners c ≢ 0 → (k : State) → entry_of (entries_of f) (owner_of owners c) ≡ some k
      → ((r : ℕ) → Carries t cs (owner_of owners c) (last_of k) c r → ⊥) → NoRelease t f cs owners c

-- What the walk along previous links from `last` comes to: the first row that carries the component, or none; every other that carries it is
-- at or before that one.
pub record WalksTo (s : Store) (cs : List ℕ) (last c r : ℕ) : Type 0 where
  pub back : AtOrBefore s r last
  pub carries : r ≢ 0 → component_at cs r ≡ c
  pub latest : (q : ℕ) → 1 ≤ q → AtOrBefore s q last → component_at cs q ≡ c → AtOrBefore s q r
