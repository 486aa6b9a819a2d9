-- Document 02, §13: "list every branch that the store knows: each row that follows the state's last row in the log and is no row's previous
-- row, each once, in rising order of id, with the child of last through which it runs; room beyond stays."
-- Assumes nothing.
use Rattle.std.specs.Prelude.{ℕ, ◌+◌, ◌*◌, ◌≤◌, ◌<◌, ◌≡◌, true, List, ◌≢◌, length, drop, get_or}
use Rattle.chunks.specs.Bytes.{comes_before}
use Rattle.chunks.specs.Piece.{piece_at}
use Rattle.store.specs.Table.{row_at}

-- A branch takes two numbers of the list: its tip, and the child of last through which it runs.
abbrev pub branch_width : ℕ
branch_width = 2

-- The branch of row `x` runs through row `c`: none or more previous links lead from `x` to `c`.
pub data RunsThrough (rows : List ℕ) (c : ℕ) : ℕ → Type 0 where
  here : RunsThrough rows c c
  back : (x : ℕ) → 1 ≤ x → RunsThrough rows c (row_at rows x).prev → RunsThrough rows c x

-- Among the first `n` rows, `tip` is the tip of a branch of author `a` behind row `last`, or behind none, and runs through `child`.
pub record Branch (rows : List ℕ) (n a last tip child : ℕ) : Type 0 where
  pub some : 1 ≤ tip
  pub held : tip ≤ n
  pub author : (row_at rows tip).author ≡ a
  -- "is no row's previous row"
  pub unfollowed : (r : ℕ) → r ≤ n → 1 ≤ r → (row_at rows r).prev ≢ tip
  -- "follows the state's last row in the log", through a child of last.
  pub child_some : 1 ≤ child
  pub child_of_last : (row_at rows child).prev ≡ last
  pub through : RunsThrough rows child tip

-- The tip of branch `k` of a list, counted from 0,
abbrev pub tip_at : List ℕ → ℕ → ℕ
tip_at l k = get_or l (branch_width * k) 0

-- and the child through which it runs.
abbrev pub child_at : List ℕ → ℕ → ℕ
child_at l k = get_or l (branch_width * k + 1) 0

-- Row `tip` is the tip of one of the first `m` branches of a list.
pub record Tipped (l : List ℕ) (m tip : ℕ) : Type 0 where
  pub place : ℕ
  pub inside : place < m
  pub here : tip ≡ tip_at l place

-- The first `m` branches of the list are every branch, "each once, in rising order of id".
pub record EveryBranch (rows ids : List ℕ) (n a last : ℕ) (l : List ℕ) (m : ℕ) : Type 0 where
  pub each : (k : ℕ) → k < m → Branch rows n a last (tip_at l k) (child_at l k)
  pub rising : (j : ℕ) → j < m → (i : ℕ) → i < j → comes_before (piece_at ids (tip_at l i)) (piece_at ids (tip_at l j)) ≡ true
  pub every : (tip child : ℕ) → Branch rows n a last tip child → Tipped l m tip

-- Row `x`, a child of last, lies on one of the first `m` branches of a list: its tip runs through the row.
pub record OnBranch (rows l : List ℕ) (m x : ℕ) : Type 0 where
  pub place : ℕ
  pub inside : place < m
  pub child : child_at l place ≡ x
  pub through : RunsThrough rows x (tip_at l place)

-- They are written, `w` numbers, and "room beyond stays".
pub record WroteBranches (rows ids : List ℕ) (n a last : ℕ) (out out' : List ℕ) (w : ℕ) : Type 0 where
  pub many : ℕ
  pub count : w ≡ branch_width * many
  pub room : w ≤ length out
  pub same_room : length out' ≡ length out
  pub branches : EveryBranch rows ids n a last out' many
  pub beyond : drop w out' ≡ drop w out

-- "21 when the list doesn't fit"
pub record NoRoom (rows ids : List ℕ) (n a last : ℕ) (out : List ℕ) : Type 0 where
  pub result : List ℕ
  pub many : ℕ
  pub branches : EveryBranch rows ids n a last result many
  pub size : length result ≡ branch_width * many
  pub short : length out < length result
