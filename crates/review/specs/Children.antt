-- The table of children: for each row the child through which it runs as a tip, or 0.
-- Assumes nothing.
use Rattle.std.specs.Prelude.{ℕ, zero, suc, ◌+◌, ◌-◌, ◌*◌, ◌≤◌, ◌<◌, ◌≡◌, true, List, ◌≢◌, eqb, length, drop, get_or}
use Rattle.basics.specs.Chunk.{chunk_size}
use Rattle.basics.specs.Pick.{pick}
use Rattle.chunks.specs.Bytes.{comes_before}
use Rattle.chunks.specs.Piece.{piece_at}
use Rattle.store.specs.Clauses.{AllChained}
use Rattle.store.specs.Limits.{author_limit, row_limit}
use Rattle.store.specs.Table.{row_at, branch_place, successors_in}
use Rattle.review.specs.Review.{RunsThrough, Branch, branch_width, tip_at, child_at, Tipped}

-- Row `c` is the child of `last` through which row `x` runs; 0 where there is none.
pub record ChildOf (rows : List ℕ) (last x c : ℕ) : Type 0 where
  pub found : c ≢ 0 → ((row_at rows c).prev ≡ last) × RunsThrough rows c x
  pub none : c ≡ 0 → (d : ℕ) → 1 ≤ d → (row_at rows d).prev ≡ last → RunsThrough rows d x → ⊥

-- Row `r` is the tip of a branch through `c`; 0 where it is none.
pub record TipChild (rows : List ℕ) (n a last r c : ℕ) : Type 0 where
  pub found : c ≢ 0 → Branch rows n a last r c
  pub none : c ≡ 0 → (d : ℕ) → Branch rows n a last r d → ⊥

-- The table has the child of each of the first `k` rows.
abbrev pub Children : List ℕ → ℕ → ℕ → ℕ → List ℕ → ℕ → Type 0
Children rows n a last kids k = (r : ℕ) → r ≤ k → 1 ≤ r → TipChild rows n a last r (get_or kids r 0)

-- How many of the first `n` rows have a child in the table.
unfoldable pub kids_in : List ℕ → ℕ → ℕ
kids_in kids zero = 0
kids_in kids (suc n) = kids_in kids n + pick (eqb (get_or kids (suc n) 0) 0) 0 1

-- Of the first `n` rows that have a child, row `r` has the lowest id.
pub record LowestTip (ids kids : List ℕ) (n r : ℕ) : Type 0 where
  pub some : 1 ≤ r
  pub held : r ≤ n
  pub kid : get_or kids r 0 ≢ 0
  pub lowest : (q : ℕ) → q ≤ n → 1 ≤ q → get_or kids q 0 ≢ 0 → q ≢ r → comes_before (piece_at ids r) (piece_at ids q) ≡ true

-- What is asked of the first `n` rows: they are chained, and the part has the number of each one's followers.
pub record Counted (rows branches : List ℕ) (n : ℕ) : Type 0 where
  pub chained : AllChained rows n
  pub places : n ≤ length branches - author_limit
  pub numbers : (r : ℕ) → r ≤ n → 1 ≤ r → get_or branches (branch_place r) 0 ≡ successors_in rows n r

-- The same, and a row among them.
pub record MayLookAt (rows branches : List ℕ) (n row : ℕ) : Type 0 where
  pub counted : Counted rows branches n
  pub some : 1 ≤ row
  pub held : row ≤ n

-- Of the first `k` rows that have a child, row `best` has the lowest id; 0 where none has one.
pub record BestSoFar (ids kids : List ℕ) (k best : ℕ) : Type 0 where
  pub none : best ≡ 0 → (q : ℕ) → q ≤ k → 1 ≤ q → get_or kids q 0 ≡ 0
  pub found : best ≢ 0 → LowestTip ids kids k best

-- What looking for the lowest id asks: a place in the table for each row, the ids there and distinct.
pub record MayCompare (ids kids : List ℕ) (n : ℕ) : Type 0 where
  pub table : n < length kids
  pub held : n * chunk_size ≤ length ids
  pub distinct : (j : ℕ) → j ≤ n → (i : ℕ) → i < j → 1 ≤ i → piece_at ids i ≢ piece_at ids j

-- What listing `m` branches asks: ids to compare, that so many rows have a child, and room.
pub record MayList (ids kids : List ℕ) (n m : ℕ) (out : List ℕ) : Type 0 where
  pub compare : MayCompare ids kids n
  pub limit : n ≤ row_limit
  pub many : m ≡ kids_in kids n
  pub room : branch_width * m ≤ length out

-- The first `m` pairs of the list are the rows that have a child in the table, each with its child, by rising id; room beyond stays.
pub record Listed (ids kids : List ℕ) (n m : ℕ) (out out' : List ℕ) : Type 0 where
  pub same_room : length out' ≡ length out
  pub beyond : drop (branch_width * m) out' ≡ drop (branch_width * m) out
  pub each : (k : ℕ) → k < m → ((1 ≤ tip_at out' k) × (tip_at out' k ≤ n)) × ((child_at out' k ≢ 0) × (child_at out' k ≡ get_or kids (tip_at out' k) 0))
  pub rising : (j : ℕ) → j < m → (i : ℕ) → i < j → comes_before (piece_at ids (tip_at out' i)) (piece_at ids (tip_at out' j)) ≡ true
  pub every : (r : ℕ) → r ≤ n → 1 ≤ r → get_or kids r 0 ≢ 0 → Tipped out' m r

-- What listing the branches behind a row asks of the first `n` rows: every well_formed table has it.
pub record MayReview (ids rows branches : List ℕ) (n : ℕ) : Type 0 where
  pub counted : Counted rows branches n
  pub limit : n ≤ row_limit
  pub held : n * chunk_size ≤ length ids
  pub distinct : (j : ℕ) → j ≤ n → (i : ℕ) → i < j → 1 ≤ i → piece_at ids i ≢ piece_at ids j
