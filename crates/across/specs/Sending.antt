-- What document 02, §3, asks of a frontier that is sent and read, and of merging before sending or after.
-- Assumes nothing.
use Rattle.std.specs.Prelude.{ℕ, ◌≡◌, List}
use Rattle.store.specs.Table.{Table}
use Rattle.frontiers.specs.Entries.{flat}
use Rattle.frontiers.specs.Numbers.{entries_of}
use Rattle.frontiers.specs.Calls.{FrontierOf}
use Rattle.standing.specs.Standing.{SameStanding}
use Rattle.standing.specs.Sending.{Sent, IsSent}
use Rattle.standing.specs.Reading.{Known, read_entries}
use Rattle.across.specs.Ids.{SameIds}

-- "Where both stores hold all keys and rows named": the store `u` holds those that the frontier `f` over `t` names.
abbrev pub HoldsNamed : Table → List ℕ → Table → Type 0
HoldsNamed t f u = (ws : List Sent) → IsSent t (entries_of f) ws → Known u ws

-- `g` is a valid frontier over `u` that says of every author what `f` says over `t`, evidence included; it "stands on the same ids".
pub record SameByIds (t : Table) (f : List ℕ) (u : Table) (g : List ℕ) : Type 0 where
  pub valid : FrontierOf u g
  pub standing : SameStanding t (entries_of f) u (entries_of g)
  pub ids : SameIds t (entries_of f) u (entries_of g)

-- What is read over `u` is the frontier `g`: the store holds what is named, and the entries read are those of `g`.
pub record ReadAs (u : Table) (ws : List Sent) (g : List ℕ) : Type 0 where
  pub known : Known u ws
  pub valid : FrontierOf u g
  pub same : flat (read_entries u ws) ≡ g
