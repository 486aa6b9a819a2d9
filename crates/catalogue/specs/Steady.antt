-- Source 002, M7 (monotonic dependencies): "if M happens before M' in the log then for all (msgId, msgId') in M_deps x M'_deps:
-- msgId = MsgId(D) and msgId' = MsgId(D') and D_author = D'_author implies D <= D'." Document 02: "if one message is before another in a log,
-- and both depend on messages of the same third author, the earlier dependency is the same as the later one or happened before it."
-- Said of a message that stands on row `x`, or on none, and depends on the rows `ds`: one that is in the table, or that would be added.
-- Assumes nothing.
use Rattle.std.specs.Prelude.{ℕ, ◌≤◌, ◌<◌, ◌≡◌, ◌⊎◌}
use mathlib.Core.List.{List, Memᴰ}
use Rattle.store.specs.Table.{Table, row_at, deps_in}
use Rattle.packing.specs.Before.{HappenedBefore}

-- Row `p` is row `x`, or before it in its log: previous links lead from `x` to `p`.
pub data InLog (rows : List ℕ) (p : ℕ) : ℕ → Type 0 where
  here : 1 ≤ p → InLog rows p p
  behind : (x : ℕ) → InLog rows p (row_at rows x).prev → InLog rows p x

-- "the same as the later one or happened before it"
abbrev pub SameOrBefore : List ℕ → List ℕ → ℕ → ℕ → Type 0
SameOrBefore rows deps d e = (d ≡ e) ⊎ HappenedBefore rows deps d e

-- "one message is before another in a log, and both depend on messages of the same third author": `d` of row `p`, which is before the message,
-- and `e` of the message.
pub record Compared (rows deps : List ℕ) (x : ℕ) (ds : List ℕ) (p d e : ℕ) : Type 0 where
  pub earlier : InLog rows p x
  pub of_earlier : Memᴰ d (deps_in rows deps p)
  pub of_later : Memᴰ e ds
  pub one_author : (row_at rows d).author ≡ (row_at rows e).author

-- M7 of the message.
abbrev pub KeepsFrom : List ℕ → List ℕ → ℕ → List ℕ → Type 0
KeepsFrom rows deps x ds = (p d e : ℕ) → Compared rows deps x ds p d e → SameOrBefore rows deps d e

-- The message breaks M7 against row `p`.
pub record BreaksFrom (rows deps : List ℕ) (x : ℕ) (ds : List ℕ) (p : ℕ) : Type 0 where
  pub d : ℕ
  pub e : ℕ
  pub compared : Compared rows deps x ds p d e
  pub apart : SameOrBefore rows deps d e → ⊥

-- M7 of row `r`.
abbrev pub KeepsAt : List ℕ → List ℕ → ℕ → Type 0
KeepsAt rows deps r = KeepsFrom rows deps (row_at rows r).prev (deps_in rows deps r)

-- Row `r` breaks M7 against row `p`.
abbrev pub Breaks : List ℕ → List ℕ → ℕ → ℕ → Type 0
Breaks rows deps r p = BreaksFrom rows deps (row_at rows r).prev (deps_in rows deps r) p

-- The first `n` rows keep M7.
abbrev pub KeepUpTo : List ℕ → List ℕ → ℕ → Type 0
KeepUpTo rows deps n = (r : ℕ) → r ≤ n → 1 ≤ r → KeepsAt rows deps r

-- "a store that keeps M7"
abbrev pub KeepsM7 : Table → Type 0
KeepsM7 t = KeepUpTo t.rows t.deps t.counts.rows

-- "the lowest row that breaks the rule, with the earlier row that it breaks it against (the latest such)"
pub record LowestBreak (rows deps : List ℕ) (n r p : ℕ) : Type 0 where
  pub some : 1 ≤ r
  pub held : r ≤ n
  pub breaks : Breaks rows deps r p
  pub lowest : (k : ℕ) → k < r → 1 ≤ k → KeepsAt rows deps k
  pub latest : (q : ℕ) → Breaks rows deps r q → q ≤ p
