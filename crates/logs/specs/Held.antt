-- The lent tables as the chains of their authors, and what the calls on states need of them.
-- Assumes nothing.
use Rattle.std.specs.Prelude.{ℕ, suc, ◌*◌, ◌≤◌, ◌<◌, ◌≡◌, List, [], Bool, not, eqb, length}
use Rattle.basics.specs.Pick.{both}
use Rattle.basics.specs.Chunk.{chunk_size}
use Rattle.chunks.specs.Bytes.{id_num}
use Rattle.chunks.specs.Piece.{piece_at}
use Rattle.store.specs.Table.{Table, row_at}
use Rattle.chains.specs.Chain.{Store, Valid, prefix_of, child_toward, admissible?}
use Rattle.logs.specs.declared.Nearest.{Nearest}

-- The id of row `r` read as a number, first byte highest.
abbrev pub key_of : List ℕ → ℕ → ℕ
key_of ids r = id_num (piece_at ids r)

-- The first `n` of the lent rows, with their ids, as a store of chains.
abbrev pub chain : List ℕ → List ℕ → ℕ → Store
chain ids rows n =
    record {
      count = n;
      author = λ r. (row_at rows r).author;
      prev = λ r. (row_at rows r).prev;
      index = λ r. (row_at rows r).index;
      key = key_of ids;
    }

-- A table as a store of chains.
abbrev pub chain_of : Table → Store
chain_of t = chain t.ids t.rows t.counts.rows

-- The ids alone, for what only compares ids.
abbrev pub ids_alone : List ℕ → Store
ids_alone ids = chain ids [] 0

-- What the calls on states need of a store of `n` rows: every well_formed table has it.
pub record Sound (ids rows : List ℕ) (n : ℕ) : Type 0 where
  pub valid : Valid (chain ids rows n)
  pub held : n * chunk_size ≤ length ids

-- What a climb needs of the first `n` rows: the previous row is an earlier one, and stands one less deep.
pub record Linked (rows : List ℕ) (n : ℕ) : Type 0 where
  pub older : (x : ℕ) → x ≤ n → 1 ≤ x → (row_at rows x).prev < x
  pub counted : (x : ℕ) → x ≤ n → 1 ≤ x → (row_at rows x).index ≡ suc (row_at rows (row_at rows x).prev).index

-- Row `r` has its 32 bytes of id.
pub record IdHeld (ids : List ℕ) (r : ℕ) : Type 0 where
  pub some : 1 ≤ r
  pub held : r * chunk_size ≤ length ids

-- A child is none, or has its 32 bytes of id.
abbrev pub ChildHeld : List ℕ → ℕ → Type 0
ChildHeld ids c = 1 ≤ c → IdHeld ids c

-- What the climb from `a` and `b` yields: their prefix, and its child toward each, whatever the ids and the count are.
pub record Climbed (rows : List ℕ) (a b : ℕ) (w : Nearest) : Type 0 where
  pub prefix : (ids : List ℕ) (n : ℕ) → w.row ≡ prefix_of (chain ids rows n) a b
  pub first : (ids : List ℕ) (n : ℕ) → w.first ≡ child_toward (chain ids rows n) w.row a
  pub second : (ids : List ℕ) (n : ℕ) → w.second ≡ child_toward (chain ids rows n) w.row b

-- Whether the first side of the prefix `w` lies beyond `k`: the prefix is `k`, and its child toward that side is there and admissible.
abbrev pub side_beyond? : List ℕ → Nearest → ℕ → ℕ → ℕ → Bool
side_beyond? ids w k lo hi = both (eqb w.row k) (both (not (eqb w.first 0)) (admissible? (ids_alone ids) lo hi w.first))
