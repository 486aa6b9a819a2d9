-- The worked example: three studios over the sample chain, and four meetings.
-- Assumes nothing.
use Prim.Native.Nat.{ℕ}
use mathlib.Core.Path.{◌≡◌, refl, ◌∙◌, ap, subst}
use mathlib.Core.Bool.{true, false}
use mathlib.Core.List.{List, []}
use native.Mathlib.Omega.{arith}
use lib.Dec.{eqb, leb, T, lit≤}
use Rattle.basics.specs.Bytes.{Bytes}
use Rattle.basics.specs.Pick.{pick}
use Rattle.basics.proofs.Tests.{by_eqb}
use Rattle.chunks.specs.Bytes.{id_num}
use Rattle.chunks.specs.Piece.{piece_at}
use Rattle.store.specs.Table.{Table, row_at}
use Rattle.chains.specs.Chain.{forked, up, at, climb, prefix_of, add, merge_of}
use Rattle.logs.specs.Held.{chain_of}
use Rattle.logs.specs.Sample.{pieces, sample_table}
use Rattle.logs.proofs.Example.{sample_well_formed, sample_bytes}
use Rattle.logs.proofs.Tables.{chain_valid}
use Rattle.frontiers.specs.Entries.{numbers, flat, entry_of, collect, merged_entries}
use Rattle.frontiers.specs.Numbers.{entries_at, entries_of}
use Rattle.frontiers.specs.Merging.{merged_numbers}
use Rattle.frontiers.specs.Calls.{FrontierOf, MergedOf, TwoFrontiers}
use Rattle.frontiers.specs.Appending.{row_frontier, Held as Row}
use Rattle.frontiers.proofs.Numbers.{valid_entries}
use Rattle.frontiers.proofs.Merged.{merged_is_merged, merged_unique}
use Rattle.frontiers.proofs.Appends.{row_valid}
use Rattle.frontiers.proofs.Answers.{result_valid}
use Rattle.frontiers.proofs.Wrote.{wrote_numbers}
use Rattle.meetings.specs.Meetings.{Studio, Shown, Starts, Meeting, Meets, ◌meets◌, Held, AllCarried}
use Rattle.meetings.specs.Example.{three_starts, three_meetings, four_meetings, all_three, FourMeetings}
use Rattle.meetings.proofs.Showing.{studios_show}
use Rattle.meetings.proofs.Holding.{meetings_held}
use Rattle.meetings.proofs.Testing.{carried_test, carried_decided, up_to, all_test, all_tested}

-- The computed merge of two valid frontiers is their merge,
computed : (t : Table) (f g : List ℕ) → Bytes t.ids → TwoFrontiers t f g
    → MergedOf t f g (merged_entries (chain_of t) t.counts.authors (entries_of f) (entries_of g))
computed t f g b a =
    let s = chain_of t in
    let k = t.counts.authors in
    merged_is_merged s (chain_valid t a.well_formed b) k (entries_of f) (entries_of g) (valid_entries s k f a.first) (valid_entries s k g a.second)

-- a valid frontier,
computed_valid : (t : Table) (f g : List ℕ) → Bytes t.ids → TwoFrontiers t f g → FrontierOf t (merged_numbers (chain_of t) t.counts.authors f g)
unfolding merged_numbers
computed_valid t f g b a =
    result_valid t b f g [] a (merged_entries (chain_of t) t.counts.authors (entries_of f) (entries_of g)) (computed t f g b a)

-- and what a meeting writes.
meets_computed : (t : Table) (n : ℕ) (u v : Shown) (m : Meeting) → Bytes t.ids → Meets t n u m v
    → v m.one ≡ merged_numbers (chain_of t) t.counts.authors (u m.one) (u m.other)
unfolding merged_numbers
meets_computed t n u v m b x =
    let f = u m.one in
    let g = u m.other in
    let a = x.merges.0 in
    let s = chain_of t in
    let k = t.counts.authors in
    x.replaced
    ∙ wrote_numbers t f g x.room x.after x.count x.merges
    ∙ ap flat (merged_unique s (chain_valid t a.well_formed b) k (entries_of f) (entries_of g) x.merges.1.result
    (merged_entries s k (entries_of f) (entries_of g)) (valid_entries s k f a.first) (valid_entries s k g a.second) x.merges.1.merged
    (computed t f g b a))

-- The merge of two frontiers over the sample table, computed.
abbrev joint : List ℕ → List ℕ → List ℕ
joint f g = merged_numbers (chain_of sample_table) sample_table.counts.authors f g

-- The merges of the four meetings, run: G3+G4 = F(2;3,4),
first_joint : joint (three_starts 1) (three_starts 2) ≡ numbers 1 (forked 2 3 4)
unfolding merged_numbers merged_entries collect flat entries_of entries_at entry_of merge_of add prefix_of climb at up sample_table pieces row_at piece_at id_num
first_joint = refl

-- G9+F(2;3,4) = F(2;9,3), and B's entry stays,
second_joint : joint (three_starts 3) (numbers 1 (forked 2 3 4)) ≡ all_three
unfolding merged_numbers merged_entries collect flat entries_of entries_at entry_of merge_of add prefix_of climb at up sample_table pieces row_at piece_at id_num
second_joint = refl

-- F(2;3,4)+F(2;9,3) = F(2;9,3), with B's entry,
third_joint : joint (numbers 1 (forked 2 3 4)) all_three ≡ all_three
unfolding merged_numbers merged_entries collect flat entries_of entries_at entry_of merge_of add prefix_of climb at up sample_table pieces row_at piece_at id_num
third_joint = refl

-- and the third start is the merge of two rows' frontiers.
start_joint : joint (row_frontier sample_table.rows 9) (row_frontier sample_table.rows 8) ≡ three_starts 3
unfolding merged_numbers merged_entries collect flat entries_of entries_at entry_of merge_of add prefix_of climb at up sample_table pieces row_at piece_at id_num
start_joint = refl

-- The rows 1 to 10 are rows of the table.
row : (x : ℕ) → T (leb 1 x) → T (leb x 10) → Row sample_table x
unfolding sample_table
row x l h = record { some = lit≤ l; counted = lit≤ h }

-- The frontier of one row is valid,
row_frontier_lem : (x : ℕ) → Row sample_table x → FrontierOf sample_table (row_frontier sample_table.rows x)
row_frontier_lem x h = row_valid sample_table sample_bytes sample_well_formed x h

-- so the first two starts are,
first_valid : FrontierOf sample_table (three_starts 1)
unfolding sample_table row_at
first_valid = row_frontier_lem 3 (row 3 tt tt)

second_valid : FrontierOf sample_table (three_starts 2)
unfolding sample_table row_at
second_valid = row_frontier_lem 4 (row 4 tt tt)

-- and so is the third.
third_valid : FrontierOf sample_table (three_starts 3)
third_valid =
    subst (FrontierOf sample_table) start_joint
    (computed_valid sample_table (row_frontier sample_table.rows 9) (row_frontier sample_table.rows 8) sample_bytes
    (record { well_formed = sample_well_formed; first = row_frontier_lem 9 (row 9 tt tt); second = row_frontier_lem 8 (row 8 tt tt) }))

-- The studios may start.
three_start : Starts sample_table 3 three_starts
three_start =
    record {
      store = sample_well_formed;
      bytes = sample_bytes;
      valid = λ i p.
          by_eqb (λ e. FrontierOf sample_table (pick e (three_starts 1) (pick (eqb i 2) (three_starts 2) (three_starts 3)))) i 1 (λ _. first_valid)
          (λ _. by_eqb (λ e. FrontierOf sample_table (pick e (three_starts 2) (three_starts 3))) i 2 (λ _. second_valid) (λ _. third_valid));
    }

-- Studio `i` is one of the three.
studio : (i : ℕ) → T (leb 1 i) → T (leb i 3) → Studio 3 i
studio i l h = (lit≤ l, lit≤ h)

-- What the three show.
abbrev ThreeShow : Shown → List ℕ → List ℕ → List ℕ → Type 0
ThreeShow u f g h = (u 1 ≡ f) × ((u 2 ≡ g) × (u 3 ≡ h))

-- After the first meeting,
after_one : (u v : Shown) → ThreeShow u (three_starts 1) (three_starts 2) (three_starts 3) → Meets sample_table 3 u (1 meets 2) v
    → ThreeShow v (numbers 1 (forked 2 3 4)) (three_starts 2) (three_starts 3)
after_one u v e x = (
  meets_computed sample_table 3 u v (1 meets 2) sample_bytes x ∙ ap (λ f. joint f (u 2)) e.0 ∙ ap (joint (three_starts 1)) e.1.0 ∙ first_joint,
  (x.others 2 (studio 2 tt tt) (λ d. omega arith) ∙ e.1.0, x.others 3 (studio 3 tt tt) (λ d. omega arith) ∙ e.1.1),
)

-- after the second,
after_two : (u v : Shown) → ThreeShow u (numbers 1 (forked 2 3 4)) (three_starts 2) (three_starts 3) → Meets sample_table 3 u (3 meets 1) v
    → ThreeShow v (numbers 1 (forked 2 3 4)) (three_starts 2) all_three
after_two u v e x = (
  x.others 1 (studio 1 tt tt) (λ d. omega arith) ∙ e.0,
  (
    x.others 2 (studio 2 tt tt) (λ d. omega arith) ∙ e.1.0,
    meets_computed sample_table 3 u v (3 meets 1) sample_bytes x ∙ ap (λ f. joint f (u 1)) e.1.1 ∙ ap (joint (three_starts 3)) e.0 ∙ second_joint,
  ),
)

-- after the third,
after_third : (u v : Shown) → ThreeShow u (numbers 1 (forked 2 3 4)) (three_starts 2) all_three → Meets sample_table 3 u (1 meets 3) v
    → ThreeShow v all_three (three_starts 2) all_three
after_third u v e x = (
  meets_computed sample_table 3 u v (1 meets 3) sample_bytes x ∙ ap (λ f. joint f (u 3)) e.0 ∙ ap (joint (numbers 1 (forked 2 3 4))) e.1.1
      ∙ third_joint,
  (x.others 2 (studio 2 tt tt) (λ d. omega arith) ∙ e.1.0, x.others 3 (studio 3 tt tt) (λ d. omega arith) ∙ e.1.1),
)

-- after all three.
after_three : (u : Shown) → Held sample_table 3 three_starts three_meetings u → ThreeShow u all_three (three_starts 2) all_three
after_three o (Held.met v w (Held.met u _ (Held.met _ _ Held.begun x) y) z) =
    after_third v w (after_two u v (after_one three_starts u (refl, (refl, refl)) x) y) z

-- The tests of what has been carried, run: not yet by three meetings,
not_yet_tested : carried_test three_meetings 1 2 ≡ false
unfolding carried_test
not_yet_tested = refl

-- and all by four.
four_tested : all_test 3 four_meetings ≡ true
unfolding all_test up_to carried_test
four_tested = refl

four_carried : AllCarried 3 four_meetings
four_carried = all_tested 3 four_meetings four_tested

-- Then all show what studio 3 shows, who has met nobody since.
after_four : (u : Shown) → Held sample_table 3 three_starts four_meetings u → (i : ℕ) → Studio 3 i → u i ≡ all_three
after_four o (Held.met u v h x) i p =
    (studios_show sample_table 3 three_starts three_start four_meetings v (Held.met u v h x)).equal four_carried i 3 p (studio 3 tt tt)
    ∙ x.others 3 (studio 3 tt tt) (λ d. omega arith)
    ∙ (after_three u h).1.1

-- THE WORKED EXAMPLE.
pub four_meetings_lem : FourMeetings
four_meetings_lem =
    record {
      not_yet = (carried_decided three_meetings 1 2).no not_yet_tested;
      after_three = after_three;
      all_carried = four_carried;
      after_four = after_four;
      held =
          meetings_held sample_table 3 three_starts three_start four_meetings
          ((((tt, (studio 1 tt tt, studio 2 tt tt)), (studio 3 tt tt, studio 1 tt tt)), (studio 1 tt tt, studio 3 tt tt)), (studio 2 tt tt, studio 3 tt tt));
    }
