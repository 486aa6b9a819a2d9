-- The sample table is well formed, and has every line of document 01's sample chain: one statement over one table.
-- Assumes nothing.
use Rattle.std.specs.Prelude.{Ok}
use Prim.Native.Nat.{ℕ, zero, suc, ◌-◌, ◌≤◌, ◌<◌}
use mathlib.Core.Path.{◌≡◌, refl, sym, ◌∙◌}
use mathlib.Core.Bool.{Bool, true, false, not}
use mathlib.Core.List.{List, [], ◌∷◌}
use mathlib.Core.Logic.{◌≢◌, ⊎_elim}
use native.Mathlib.Omega.{arith}
use native.Mathlib.Nat.{eq-zero-or-pos}
use borrow.Author.Tests.{ltb-true, eqb-true, not-true}
use lib.Dec.{eqb, ltb, lit≤}
use Rattle.basics.specs.Decides.{Decides}
use Rattle.basics.specs.Pick.{both}
use Rattle.basics.proofs.Decisions.{decided_yes, decided_no}
use Rattle.basics.proofs.Tests.{both_left, both_right}
use Rattle.basics.specs.Bytes.{Bytes}
use Rattle.chunks.specs.Bytes.{same_bytes, id_num}
use Rattle.chunks.specs.Piece.{piece_at}
use Rattle.chunks.proofs.Sameness.{same_differs}
use Rattle.store.specs.Table.{WellFormed, row_at, dep_sum, authors_in, numbered, chained, every, has_author, one_per_author, depends, deps_of}
use Rattle.store.specs.Table.{firsts_of, branches_of, firsts_in, successors_in}
use Rattle.chains.specs.Chain.{Store, Valid, ValidState, IsMerge, AtOrBelow}
use Rattle.chains.specs.Merging.{Extends}
use Rattle.chains.specs.Sample.{sample_chain, SampleLines}
use Rattle.chains.proofs.Laws.{le?}
use Rattle.chains.proofs.Later.{valid_on}
use Rattle.chains.proofs.Sample.{sample_valid, grows, none_grows, f_2_3_4, f_2_9_3, f_2_9_4, f_1_2_7, sample_lifts}
use Rattle.logs.specs.declared.LogState.{LogState}
use Rattle.logs.specs.Held.{chain_of}
use Rattle.logs.specs.States.{state_of}
use Rattle.logs.specs.Refusals.{ValidIn}
use Rattle.logs.specs.Calls.{TwoStates, MergeDone, OrderDone}
use Rattle.logs.specs.Sample.{pieces, sample_table, G, F, MergeGives, OrderGives, SampleAnswers}
use Rattle.logs.proofs.Tables.{chain_valid}
use Rattle.logs.proofs.Agreement.{one_merge, one_order}

-- Every number from 1 to `n` passes.
unfoldable pub up_to : ℕ → (ℕ → Bool) → Bool
up_to zero f = true
up_to (suc n) f = both (f (suc n)) (up_to n f)

-- Each of them does.
pub passes : (f : ℕ → Bool) (n : ℕ) → up_to n f ≡ true → (x : ℕ) → x ≤ n → 1 ≤ x → f x ≡ true
unfolding up_to
passes f zero h x l m = absurd (omega arith)
passes f (suc n) h x l m =
    ⊎_elim (λ k. passes f n (both_right (f (suc n)) (up_to n f) h) x k m)
    (λ k. let e : x ≡ suc n = omega arith in rw e (both_left (f (suc n)) (up_to n f) h))
    (le? x n)

-- Pieces that the test tells apart two by two are distinct.
abbrev pub apart : List ℕ → ℕ → Bool
apart s j = up_to (j - 1) (λ i. not (same_bytes (piece_at s i) (piece_at s j)))

-- So they are.
pub told_apart : (s : List ℕ) (n : ℕ) → up_to n (apart s) ≡ true → (j : ℕ) → j ≤ n → (i : ℕ) → i < j → 1 ≤ i → piece_at s i ≢ piece_at s j
told_apart s n h j l i m k =
    let p = passes (apart s) n h j l (omega arith) in
    let q = passes (λ x. not (same_bytes (piece_at s x) (piece_at s j))) (j - 1) p i (omega arith) k in
    same_differs (piece_at s i) (piece_at s j) (not-true (same_bytes (piece_at s i) (piece_at s j)) q)

-- A list of which each number is below 256 holds bytes.
pub below_bytes : (s : List ℕ) → every (λ x. ltb x 256) s ≡ true → Bytes s
unfolding every
below_bytes [] h i = omega arith
below_bytes (x ∷ s) h zero = ltb-true x 256 (both_left (ltb x 256) (every (λ z. ltb z 256) s) h)
below_bytes (x ∷ s) h (suc i) = below_bytes s (both_right (ltb x 256) (every (λ z. ltb z 256) s) h) i

-- Each test in closed form, so that it is run once: the keys.
keys_tested : up_to 2 (apart sample_table.keys) ≡ true
unfolding up_to sample_table pieces piece_at same_bytes
keys_tested = refl

-- The ids.
ids_tested : up_to 10 (apart sample_table.ids) ≡ true
unfolding up_to sample_table pieces piece_at same_bytes
ids_tested = refl

-- The numbers of the authors.
numbers_tested : up_to 10 (numbered sample_table.rows) ≡ true
unfolding up_to sample_table numbered authors_in row_at
numbers_tested = refl

-- Previous rows and indexes.
links_tested : up_to 10 (chained sample_table.rows) ≡ true
unfolding up_to sample_table chained row_at
links_tested = refl

-- Dependencies.
deps_tested : up_to 10 (λ r. depends sample_table.rows r (deps_of sample_table r)) ≡ true
unfolding up_to sample_table depends every one_per_author has_author dep_sum row_at
deps_tested = refl

-- Branch counts: of the rows,
branches_tested : up_to 10 (λ r. eqb (branches_of sample_table r) (successors_in sample_table.rows 10 r)) ≡ true
unfolding up_to sample_table successors_in row_at
branches_tested = refl

-- and of the authors.
firsts_tested : up_to 2 (λ a. eqb (firsts_of sample_table a) (firsts_in sample_table.rows 10 a)) ≡ true
unfolding up_to sample_table firsts_in row_at
firsts_tested = refl

-- Bytes.
bytes_tested : every (λ x. ltb x 256) sample_table.ids ≡ true
unfolding sample_table pieces every
bytes_tested = refl

-- The sample table is well formed.
pub sample_well_formed : WellFormed sample_table
unfolding sample_table pieces dep_sum authors_in row_at
sample_well_formed =
    record {
      rows_limit = lit≤ tt;
      authors_limit = lit≤ tt;
      deps_limit = lit≤ tt;
      rows_held = lit≤ tt;
      ids_held = lit≤ tt;
      keys_held = lit≤ tt;
      deps_held = lit≤ tt;
      deps_sum = refl;
      keys_distinct = told_apart sample_table.keys 2 keys_tested;
      ids_distinct = told_apart sample_table.ids 10 ids_tested;
      authors_numbered = passes (numbered sample_table.rows) 10 numbers_tested;
      authors_appear = refl;
      rows_chained = passes (chained sample_table.rows) 10 links_tested;
      rows_depend = passes (λ r. depends sample_table.rows r (deps_of sample_table r)) 10 deps_tested;
      firsts_held = lit≤ tt;
      branches_held = lit≤ tt;
      branches_right = λ r h k.
          eqb-true _ _ (passes (λ x. eqb (branches_of sample_table x) (successors_in sample_table.rows 10 x)) 10 branches_tested r h k);
      firsts_right = λ a h k.
          eqb-true _ _ (passes (λ x. eqb (firsts_of sample_table x) (firsts_in sample_table.rows 10 x)) 2 firsts_tested a h k);
    }

-- Its ids are bytes.
pub sample_bytes : Bytes sample_table.ids
sample_bytes = below_bytes sample_table.ids bytes_tested

-- A row of the table is the sample chain's, by four tests.
abbrev here : Store
here = chain_of sample_table

-- By its author,
same_author : ℕ → Bool
same_author x = eqb (here.author x) (sample_chain.author x)

-- Its previous row,
same_prev : ℕ → Bool
same_prev x = eqb (here.prev x) (sample_chain.prev x)

-- Its index,
same_index : ℕ → Bool
same_index x = eqb (here.index x) (sample_chain.index x)

-- And its id.
same_key : ℕ → Bool
same_key x = eqb (here.key x) (sample_chain.key x)

-- None and the ten rows pass.
abbrev all_pass : (ℕ → Bool) → Bool
all_pass f = both (f 0) (up_to 10 f)

-- Each of them does.
each : (f : ℕ → Bool) → all_pass f ≡ true → (x : ℕ) → x ≤ 10 → f x ≡ true
each f h x l =
    ⊎_elim (λ e. rw e (both_left (f 0) (up_to 10 f) h)) (λ p. passes f 10 (both_right (f 0) (up_to 10 f) h) x l p) (eq-zero-or-pos x)

-- The tests, run once each: authors,
authors_tested : all_pass same_author ≡ true
unfolding same_author up_to sample_table sample_chain row_at
authors_tested = refl

-- Previous rows,
prevs_tested : all_pass same_prev ≡ true
unfolding same_prev up_to sample_table sample_chain row_at
prevs_tested = refl

-- Indexes,
indexes_tested : all_pass same_index ≡ true
unfolding same_index up_to sample_table sample_chain row_at
indexes_tested = refl

-- And ids.
keys_same_tested : all_pass same_key ≡ true
unfolding same_key up_to sample_table sample_chain pieces piece_at id_num
keys_same_tested = refl

-- The table is the sample chain.
sample_chain_lem : Extends sample_chain here
unfolding sample_chain sample_table same_author same_prev same_index same_key
sample_chain_lem =
    record {
      more = lit≤ tt;
      author = λ x h. eqb-true (here.author x) (sample_chain.author x) (each same_author authors_tested x h);
      prev = λ x h. eqb-true (here.prev x) (sample_chain.prev x) (each same_prev prevs_tested x h);
      index = λ x h. eqb-true (here.index x) (sample_chain.index x) (each same_index indexes_tested x h);
      key = λ x h. eqb-true (here.key x) (sample_chain.key x) (each same_key keys_same_tested x h);
    }

-- The table as a store of chains is valid,
here_valid : Valid here
here_valid = chain_valid sample_table sample_well_formed sample_bytes

-- And has the lines.
here_lines : SampleLines here
here_lines = sample_lifts here here_valid sample_chain_lem

-- A state of A that is valid in the sample chain is valid over the table.
valid_here : (k : LogState) → k.author ≡ 1 → ValidState sample_chain 1 (state_of k) → ValidIn sample_table k
unfolding sample_table
valid_here k e v =
    record { some = omega (arith, e); exists = omega (arith, e); state = rw e (valid_on sample_chain here sample_valid here_valid sample_chain_lem 1 v) }

-- Two of them may be merged and compared.
two_here : (k l : LogState) → k.author ≡ 1 → l.author ≡ 1 → ValidState sample_chain 1 (state_of k) → ValidState sample_chain 1 (state_of l) → TwoStates
    sample_table k l
two_here k l e f v w = record { well_formed = sample_well_formed; first = valid_here k e v; second = valid_here l f w; one = e ∙ sym f }

-- A line of a merge, of the call.
merge_gives : (k l m : LogState) → k.author ≡ 1 → l.author ≡ 1 → m.author ≡ 1 → ValidState sample_chain 1 (state_of k) → ValidState sample_chain 1 (state_of l)
    → IsMerge here (state_of k) (state_of l) (state_of m) → MergeGives sample_table k l m
merge_gives k l m e f g v w i =
    let d : MergeDone sample_table k l m = record { accepted = two_here k l e f v w; author = g ∙ sym e; merged = i } in
    record { kept = d; only = λ r h. one_merge sample_table sample_bytes k l r (Ok m) h d }

-- A line of the order, of the call.
order_gives : (k l : LogState) (b : Bool) → k.author ≡ 1 → l.author ≡ 1 → ValidState sample_chain 1 (state_of k) → ValidState sample_chain 1 (state_of l)
    → Decides (AtOrBelow here (state_of k) (state_of l)) b → OrderGives sample_table k l b
order_gives k l b e f v w o =
    let d : OrderDone sample_table k l b = record { accepted = two_here k l e f v w; order = o } in
    record { kept = d; only = λ r h. one_order sample_table sample_bytes k l r (Ok b) h d }

-- The lines, of the calls.
sample_answers : SampleAnswers sample_table
unfolding sample_chain
sample_answers =
    record {
      fork = merge_gives (G 3) (G 4) (F 2 3 4) refl refl refl (grows 3 tt tt tt) (grows 4 tt tt tt) here_lines.fork;
      third_branch = merge_gives (F 2 3 4) (G 9) (F 2 9 3) refl refl refl f_2_3_4 (grows 9 tt tt tt) here_lines.third_branch;
      beyond_evidence = merge_gives (G 6) (F 2 9 3) (F 2 9 3) refl refl refl (grows 6 tt tt tt) f_2_9_3 here_lines.beyond_evidence;
      earlier_split = merge_gives (G 7) (F 2 3 4) (F 1 2 7) refl refl refl (grows 7 tt tt tt) f_2_3_4 here_lines.earlier_split;
      two_first = merge_gives (G 10) (G 1) (F 0 1 10) refl refl refl (grows 10 tt tt tt) (grows 1 tt tt tt) here_lines.two_first;
      with_none = merge_gives (G 0) (G 3) (G 3) refl refl refl none_grows (grows 3 tt tt tt) here_lines.with_none;
      at_last = merge_gives (G 2) (F 2 3 4) (F 2 3 4) refl refl refl (grows 2 tt tt tt) f_2_3_4 here_lines.at_last;
      shallower = merge_gives (F 1 2 7) (F 2 9 4) (F 1 2 7) refl refl refl f_1_2_7 f_2_9_4 here_lines.shallower;
      two_lowest = merge_gives (F 2 3 4) (F 2 9 4) (F 2 9 3) refl refl refl f_2_3_4 f_2_9_4 here_lines.two_lowest;
      not_below = order_gives (G 7) (F 2 3 4) false refl refl (grows 7 tt tt tt) f_2_3_4 (decided_no here_lines.not_below);
      below = order_gives (F 2 3 4) (F 2 9 3) true refl refl f_2_3_4 f_2_9_3 (decided_yes here_lines.below);
      not_reverse = order_gives (F 2 9 3) (F 2 3 4) false refl refl f_2_9_3 f_2_3_4 (decided_no here_lines.not_reverse);
    }

-- One statement over one table: it is well formed, has every line of the sample chain, and each call on a line's states has just the
-- line's answer.
pub sample_table_lem : WellFormed sample_table × SampleLines (chain_of sample_table) × SampleAnswers sample_table
sample_table_lem = (sample_well_formed, here_lines, sample_answers)
