-- What the calls promise, from what their inner functions do.
-- Assumes nothing.
use Prim.Native.Nat.{ℕ, ◌≤◌, ◌<◌}
use mathlib.Core.Path.{◌≡◌}
use mathlib.Core.List.{List}
use native.Mathlib.Omega.{arith}
use lib.ListN.{length}
use Rattle.basics.specs.Bytes.{Bytes}
use Rattle.store.specs.Table.{Table}
use Rattle.chains.specs.Chain.{Valid}
use Rattle.logs.specs.Held.{chain_of}
use Rattle.logs.proofs.Tables.{chain_valid, table_sound}
use Rattle.frontiers.specs.Entries.{ValidEntries, merged_entries}
use Rattle.frontiers.specs.Numbers.{entries_of}
use Rattle.frontiers.specs.Found.{PutBehind}
use Rattle.frontiers.specs.Merging.{merged_numbers, MergedLength}
use Rattle.frontiers.specs.Ready.{Frontiers}
use Rattle.frontiers.specs.Calls.{MergedOf, MergedInto, NoRoomFor, TwoFrontiers}
use Rattle.frontiers.proofs.Numbers.{valid_entries}
use Rattle.frontiers.proofs.Merged.{merged_is_merged}

module _ (t : Table) (f g : List ℕ) (b : Bytes t.ids) (a : TwoFrontiers t f g) where
  -- Two valid frontiers are what the inner functions need.
  pub accepted_ready : Frontiers t.ids t.rows t.counts f g
  accepted_ready =
      record { sound = table_sound t a.well_formed b; authors = a.well_formed.authors_limit; first = a.first; second = a.second }

  valid : Valid (chain_of t)
  valid = chain_valid t a.well_formed b

  first_entries : ValidEntries (chain_of t) t.counts.authors (entries_of f)
  first_entries = valid_entries (chain_of t) t.counts.authors f a.first

  second_entries : ValidEntries (chain_of t) t.counts.authors (entries_of g)
  second_entries = valid_entries (chain_of t) t.counts.authors g a.second

  computed : MergedOf t f g (merged_entries (chain_of t) t.counts.authors (entries_of f) (entries_of g))
  computed = merged_is_merged (chain_of t) valid t.counts.authors (entries_of f) (entries_of g) first_entries second_entries

  -- What was written is the merged frontier.
  pub written_merged : (out out' : List ℕ) (n : ℕ) → length (merged_numbers (chain_of t) t.counts.authors f g) ≤ length out
      → PutBehind out 0 (merged_numbers (chain_of t) t.counts.authors f g) out' n → MergedInto t f g out out' n
  unfolding merged_numbers
  written_merged out out' n h w =
      let e : n ≡ length (merged_numbers (chain_of t) t.counts.authors f g) = let d = w.grown in omega arith in
      record {
        result = merged_entries (chain_of t) t.counts.authors (entries_of f) (entries_of g);
        merged = computed;
        count = e;
        fits = omega arith;
        content = rw (← e) at w.content;
      }

  -- An output shorter than the computed merge is shorter than the result.
  pub numbers_short : (out : List ℕ) → length out < length (merged_numbers (chain_of t) t.counts.authors f g) → NoRoomFor t f g out
  unfolding merged_numbers
  numbers_short out h = record { result = merged_entries (chain_of t) t.counts.authors (entries_of f) (entries_of g); merged = computed; short = h }

  -- So is one shorter than the counted length.
  pub length_short : (out : List ℕ) (n : ℕ) → MergedLength t.counts.authors f g n → length out < n → NoRoomFor t f g out
  length_short out n l h = numbers_short out (let e = l (chain_of t) in omega arith)
