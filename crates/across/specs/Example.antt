-- A worked example: the sample chain of document 01, and another studio's store that numbers its rows and its authors differently.
-- Assumes nothing.
use Rattle.std.specs.Prelude.{ℕ, ◌≡◌, List, [], ◌∷◌, ◌++◌, replicate}
use Rattle.std.proofs.Math.Option.{some}
use Rattle.store.specs.Table.{Table}
use Rattle.chains.specs.Chain.{growing, forked}
use Rattle.logs.specs.Held.{chain_of}
use Rattle.logs.specs.Sample.{pieces, sample_table}
use Rattle.frontiers.specs.Entries.{numbers, flat}
use Rattle.frontiers.specs.Numbers.{entries_of}
use Rattle.frontiers.specs.Calls.{FrontierOf}
use Rattle.frontiers.specs.Merging.{merged_numbers}
use Rattle.standing.specs.Standing.{growing_at, forked_at}
use Rattle.standing.specs.Sending.{Sent, IsSent}
use Rattle.standing.specs.Reading.{Known, read_entries}
use Rattle.across.specs.Stores.{TwoStores}
use Rattle.across.specs.Sending.{SameByIds}

-- An author C with the key 3 came first here, so A is author 2 and B author 3. The rows, by the sample chain's: C's own; 1, 7, 2, 4, 3 of A;
-- 5 of B; 9 of A. The rows 6, 8 and 10 are lacking.
unfoldable pub other_table : Table
other_table =
    record {
      keys = pieces (3 ∷ 1 ∷ 2 ∷ []);
      ids = pieces (20 ∷ 7 ∷ 6 ∷ 5 ∷ 3 ∷ 2 ∷ 9 ∷ 1 ∷ []);
      -- author, previous row, index, number of dependencies
      rows =
          1 ∷ 0 ∷ 1 ∷ 0 ∷
          2 ∷ 0 ∷ 1 ∷ 0 ∷
          2 ∷ 2 ∷ 2 ∷ 0 ∷
          2 ∷ 2 ∷ 2 ∷ 0 ∷
          2 ∷ 4 ∷ 3 ∷ 0 ∷
          2 ∷ 4 ∷ 3 ∷ 0 ∷
          3 ∷ 0 ∷ 1 ∷ 1 ∷
          2 ∷ 4 ∷ 3 ∷ 0 ∷ [];
      deps = 6 ∷ [];
      -- first messages of C, A and B, then the rows that follow each row
      branches = 1 ∷ 1 ∷ 1 ∷ (replicate {A = ℕ} 61 0 ++ (0 ∷ 2 ∷ 0 ∷ 3 ∷ 0 ∷ 0 ∷ 0 ∷ 0 ∷ []));
      counts = record { rows = 8; authors = 3; deps = 1 };
    }

-- A piece of 32 bytes by its first byte.
abbrev pub piece : ℕ → List ℕ
piece b = b ∷ replicate {A = ℕ} 31 0

-- Over the sample chain: A is forked at 2, on 3 and 4, and B grows at 5.
abbrev pub ours : List ℕ
ours = numbers 1 (forked 2 3 4) ++ numbers 2 (growing 5)

-- What is sent of A, and of B,
abbrev pub sent_of_a : Sent
sent_of_a = record { key = piece 1; says = forked_at (some (piece 5)) (piece 2) (piece 3) }

abbrev pub sent_of_b : Sent
sent_of_b = record { key = piece 2; says = growing_at (some (piece 9)) }

-- so of both.
abbrev pub ours_sent : List Sent
ours_sent = sent_of_a ∷ sent_of_b ∷ []

-- What the other studio reads: the lower evidence has the higher row there.
abbrev pub theirs : List ℕ
theirs = numbers 2 (forked 4 6 5) ++ numbers 3 (growing 7)

-- A third branch of A: growing at 9, which is row 8 there.
abbrev pub third : List ℕ
third = numbers 1 (growing 9)

abbrev pub third_sent : List Sent
third_sent = record { key = piece 1; says = growing_at (some (piece 1)) } ∷ []

abbrev pub their_third : List ℕ
their_third = numbers 2 (growing 8)

-- Merged: the two lowest ids are those of 9 and 3.
abbrev pub merged : List ℕ
merged = numbers 1 (forked 2 9 3) ++ numbers 2 (growing 5)

abbrev pub merged_sent : List Sent
merged_sent = record { key = piece 1; says = forked_at (some (piece 5)) (piece 1) (piece 2) } ∷ sent_of_b ∷ []

abbrev pub their_merged : List ℕ
their_merged = numbers 2 (forked 4 8 6) ++ numbers 3 (growing 7)

-- What is sent of A growing at 6, a row that the other store lacks.
abbrev pub lacking_sent : List Sent
lacking_sent = record { key = piece 1; says = growing_at (some (piece 4)) } ∷ []

-- What the example comes to.
pub record TwoStudios : Type 0 where
  -- The two stores are as the theorems ask.
  pub stores : TwoStores sample_table other_table
  -- A frontier over the one, what is sent of it, and that the other holds what is named.
  pub valid : FrontierOf sample_table ours
  pub sent : IsSent sample_table (entries_of ours) ours_sent
  pub known : Known other_table ours_sent
  -- What the other reads, and that it says the same and stands on the same ids.
  pub read : flat (read_entries other_table ours_sent) ≡ theirs
  pub same : SameByIds sample_table ours other_table theirs
  -- Merging before sending or after: the third branch, merged here and read there, or read there and merged there.
  pub merged_here : merged_numbers (chain_of sample_table) sample_table.counts.authors ours third ≡ merged
  pub merged_sent_lem : IsSent sample_table (entries_of merged) merged_sent
  pub merged_read : flat (read_entries other_table merged_sent) ≡ their_merged
  pub third_read : flat (read_entries other_table third_sent) ≡ their_third
  pub merged_there : merged_numbers (chain_of other_table) other_table.counts.authors theirs their_third ≡ their_merged
  -- A standing that names a row which the store lacks is not known.
  pub lacking : Known other_table lacking_sent → ⊥
