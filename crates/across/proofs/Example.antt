-- The worked example: the sample chain, and a store that numbers its rows and its authors differently.
-- Assumes nothing.
use Prim.Native.Nat.{ℕ, ◌≤◌}
use mathlib.Core.Path.{◌≡◌, refl, subst}
use mathlib.Core.Bool.{true}
use mathlib.Core.List.{List, [], ◌∷◌}
use mathlib.Core.Logic.{inr}
use mathlib.Core.Option.{none, some}
use native.Mathlib.Omega.{arith}
use borrow.Author.Tests.{eqb-true, ltb-true}
use lib.Dec.{eqb, ltb, lit≤}
use Rattle.basics.specs.Pick.{pick}
use Rattle.basics.proofs.Tests.{by_eqb}
use Rattle.chunks.specs.Bytes.{same_bytes, comes_before, id_num}
use Rattle.chunks.specs.Piece.{piece_at}
use Rattle.chunks.specs.Lookup.{place_of}
use Rattle.store.specs.Table.{WellFormed, row_at, dep_sum, authors_in, numbered, chained, every, has_author, one_per_author, depends, deps_of}
use Rattle.store.specs.Table.{firsts_of, branches_of, firsts_in, successors_in}
use Rattle.chains.specs.Chain.{RowOf, growing, forked, growing_valid, forked_valid, up, at, climb, prefix_of, add, merge_of}
use Rattle.logs.specs.Held.{chain_of}
use Rattle.logs.specs.Sample.{pieces, sample_table}
use Rattle.logs.proofs.Example.{up_to, passes, apart, told_apart, below_bytes, sample_well_formed, sample_bytes}
use Rattle.frontiers.specs.Entries.{flat, entry_of, collect, merged_entries, Entry, end, next, ValidAt}
use Rattle.frontiers.specs.Numbers.{entries_at, entries_of}
use Rattle.frontiers.specs.Calls.{FrontierOf}
use Rattle.frontiers.specs.Merging.{merged_numbers}
use Rattle.frontiers.proofs.Numbers.{flat_valid}
use Rattle.standing.specs.Standing.{standing}
use Rattle.standing.specs.Sending.{sent_for, KeysRiseFrom, IsSent}
use Rattle.standing.specs.Reading.{Known, read_entries}
use Rattle.across.specs.Stores.{TwoStores}
use Rattle.across.specs.Sending.{SameByIds}
use Rattle.across.specs.Example.{other_table, ours, ours_sent, theirs, third, third_sent, their_third, merged, merged_sent, their_merged, lacking_sent}
use Rattle.across.specs.Example.{TwoStudios}
use Rattle.across.proofs.Testing.{agreed, agree_tested}
use Rattle.across.proofs.Theorems.{read_there}

-- The tests of the other store, each in closed form, so that it is run once: the keys,
keys_tested : up_to 3 (apart other_table.keys) ≡ true
unfolding up_to other_table pieces piece_at same_bytes
keys_tested = refl

-- the ids,
ids_tested : up_to 8 (apart other_table.ids) ≡ true
unfolding up_to other_table pieces piece_at same_bytes
ids_tested = refl

-- the numbers of the authors,
numbers_tested : up_to 8 (numbered other_table.rows) ≡ true
unfolding up_to other_table numbered authors_in row_at
numbers_tested = refl

-- previous rows and indexes,
links_tested : up_to 8 (chained other_table.rows) ≡ true
unfolding up_to other_table chained row_at
links_tested = refl

-- dependencies,
deps_tested : up_to 8 (λ r. depends other_table.rows r (deps_of other_table r)) ≡ true
unfolding up_to other_table depends every one_per_author has_author dep_sum row_at
deps_tested = refl

-- branch counts, of the rows and of the authors,
branches_tested : up_to 8 (λ r. eqb (branches_of other_table r) (successors_in other_table.rows 8 r)) ≡ true
unfolding up_to other_table successors_in row_at
branches_tested = refl

firsts_tested : up_to 3 (λ a. eqb (firsts_of other_table a) (firsts_in other_table.rows 8 a)) ≡ true
unfolding up_to other_table firsts_in row_at
firsts_tested = refl

-- and bytes.
bytes_tested : every (λ x. ltb x 256) other_table.ids ≡ true
unfolding other_table pieces every
bytes_tested = refl

-- The other store is well formed.
other_well_formed : WellFormed other_table
unfolding other_table pieces dep_sum authors_in row_at
other_well_formed =
    record {
      rows_limit = lit≤ tt;
      authors_limit = lit≤ tt;
      deps_limit = lit≤ tt;
      rows_held = lit≤ tt;
      ids_held = lit≤ tt;
      keys_held = lit≤ tt;
      deps_held = lit≤ tt;
      deps_sum = refl;
      keys_distinct = told_apart other_table.keys 3 keys_tested;
      ids_distinct = told_apart other_table.ids 8 ids_tested;
      authors_numbered = passes (numbered other_table.rows) 8 numbers_tested;
      authors_appear = refl;
      rows_chained = passes (chained other_table.rows) 8 links_tested;
      rows_depend = passes (λ r. depends other_table.rows r (deps_of other_table r)) 8 deps_tested;
      firsts_held = lit≤ tt;
      branches_held = lit≤ tt;
      branches_right = λ r h k.
          eqb-true _ _ (passes (λ x. eqb (branches_of other_table x) (successors_in other_table.rows 8 x)) 8 branches_tested r h k);
      firsts_right = λ a h k.
          eqb-true _ _ (passes (λ x. eqb (firsts_of other_table x) (firsts_in other_table.rows 8 x)) 3 firsts_tested a h k);
    }

-- The two stores agree on ids: all pairs of rows pass.
pairs_tested : up_to sample_table.counts.rows (λ x. up_to other_table.counts.rows (agreed sample_table other_table x)) ≡ true
unfolding up_to agreed sample_table other_table pieces piece_at same_bytes row_at
pairs_tested = refl

two_stores : TwoStores sample_table other_table
two_stores =
    record {
      first = sample_well_formed;
      second = other_well_formed;
      first_ids = sample_bytes;
      second_ids = below_bytes other_table.ids bytes_tested;
      agree = agree_tested sample_table other_table pairs_tested;
    }

-- The frontier that is sent is valid: each number of it is.
ours_entries : List Entry
ours_entries = record { author = 1; state = forked 2 3 4 } ∷ record { author = 2; state = growing 5 } ∷ []

row : (A x : ℕ) → 1 ≤ x → x ≤ 10 → (chain_of sample_table).author x ≡ A → RowOf (chain_of sample_table) A x
unfolding sample_table
row A x h l e = record { some = h; held = l; by = e }

ours_valid : FrontierOf sample_table ours
unfolding ours_entries flat entry_of sample_table row_at pieces piece_at id_num
ours_valid =
    flat_valid (chain_of sample_table) 2 ours_entries
    record {
      rising = next (lit≤ tt) (next (lit≤ tt) end);
      each = λ a.
          by_eqb (λ b. ValidAt (chain_of sample_table) 2 a (pick b (some (forked 2 3 4)) (pick (eqb 2 a) (some (growing 5)) none))) 1 a
          (λ e. rw (← e) (
            lit≤ tt,
            (
              lit≤ tt,
              forked_valid (inr (row 1 2 (lit≤ tt) (lit≤ tt) refl))
                  record {
                    low = row 1 3 (lit≤ tt) (lit≤ tt) refl;
                    high = row 1 4 (lit≤ tt) (lit≤ tt) refl;
                    low_prev = refl;
                    high_prev = refl;
                    sorted = ltb-true _ _ refl;
                  },
            ),
          ))
          (λ d. by_eqb (λ b. ValidAt (chain_of sample_table) 2 a (pick b (some (growing 5)) none)) 2 a
          (λ e. rw (← e) (lit≤ tt, (lit≤ tt, growing_valid (inr (row 2 5 (lit≤ tt) (lit≤ tt) refl))))) (λ f. tt));
    }

-- What is sent of a frontier over the sample chain: it rises by key, and says the same.
ours_sent_lem : IsSent sample_table (entries_of ours) ours_sent
unfolding entries_of entries_at standing sent_for sample_table pieces piece_at comes_before
ours_sent_lem = record { rise = KeysRiseFrom.next refl (KeysRiseFrom.next refl KeysRiseFrom.end); each = λ k. refl }

merged_sent_lem : IsSent sample_table (entries_of merged) merged_sent
unfolding entries_of entries_at standing sent_for sample_table pieces piece_at comes_before
merged_sent_lem = record { rise = KeysRiseFrom.next refl (KeysRiseFrom.next refl KeysRiseFrom.end); each = λ k. refl }

-- The other store holds what is named.
ours_known : Known other_table ours_sent
unfolding place_of other_table pieces piece_at same_bytes
ours_known = ((lit≤ tt, (lit≤ tt, (lit≤ tt, lit≤ tt))), ((lit≤ tt, lit≤ tt), tt))

-- A row that it lacks is not known.
six_lacking : Known other_table lacking_sent → ⊥
unfolding place_of other_table pieces piece_at same_bytes
six_lacking h = let z : 1 ≤ 0 = h.0.1 in omega arith

-- What is read, computed.
ours_read : flat (read_entries other_table ours_sent) ≡ theirs
unfolding flat read_entries collect sent_for place_of other_table pieces piece_at same_bytes
ours_read = refl

merged_read : flat (read_entries other_table merged_sent) ≡ their_merged
unfolding flat read_entries collect sent_for place_of other_table pieces piece_at same_bytes
merged_read = refl

third_read : flat (read_entries other_table third_sent) ≡ their_third
unfolding flat read_entries collect sent_for place_of other_table pieces piece_at same_bytes
third_read = refl

-- The merges in the two stores, computed.
merged_here : merged_numbers (chain_of sample_table) sample_table.counts.authors ours third ≡ merged
unfolding merged_numbers merged_entries collect flat entries_of entries_at entry_of merge_of add prefix_of climb at up sample_table pieces row_at piece_at id_num
merged_here = refl

merged_there : merged_numbers (chain_of other_table) other_table.counts.authors theirs their_third ≡ their_merged
unfolding merged_numbers merged_entries collect flat entries_of entries_at entry_of merge_of add prefix_of climb at up other_table pieces row_at piece_at id_num
merged_there = refl

-- THE WORKED EXAMPLE.
pub two_studios : TwoStudios
two_studios =
    record {
      stores = two_stores;
      valid = ours_valid;
      sent = ours_sent_lem;
      known = ours_known;
      read = ours_read;
      same =
          subst (SameByIds sample_table ours other_table) ours_read (read_there sample_table other_table two_stores ours ours_sent ours_valid ours_sent_lem ours_known);
      merged_here = merged_here;
      merged_sent_lem = merged_sent_lem;
      merged_read = merged_read;
      third_read = third_read;
      merged_there = merged_there;
      lacking = six_lacking;
    }
