-- The verdict on an item, for a store that is well formed: the first refusal in the order of document 01, "Answer numbers":
-- the layout's, "then 6 to 16 by number"; or the row that the message takes.
-- `t` is the store, `s` the item's bytes, `f` the fields that its layout gives.
-- Assumes nothing.
use Rattle.answers.specs.declared.Refusal.{Refusal}
use Rattle.std.specs.Prelude.{ℕ, ◌+◌, ◌-◌, ◌/◌, min, Bool, not, List, length, eqb, ltb, leb, Result, Ok, Err}
use Rattle.basics.specs.Pick.{pick, both, either}
use Rattle.answers.specs.declared.Refusal.TheVariants.{Flag, Sign, Index, Prev, Owner, Step, Dep, DepOwner, Full}
use Rattle.chunks.specs.Bytes.{all_zero}
use Rattle.chunks.specs.Lookup.{place_of}
use Rattle.item.specs.Layout.{layout_of, key_of, previous_of}
use Rattle.item.specs.Id.{id_of}
use Rattle.item.specs.declared.Fields.{Fields}
use Rattle.basics.specs.Chunk.{chunk_size}
use Rattle.store.specs.Limits.{row_limit, author_limit, dep_limit, row_width}
use Rattle.store.specs.Table.{Table, row_at, has_author, one_per_author}
use Rattle.store.specs.declared.Row.{Row}
use Rattle.judging.specs.Message.{row_with, author_with, lacks, named}
use Rattle.judging.specs.declared.Verdict.{Verdict}
use Rattle.judging.specs.declared.Verdict.TheVariants.{Fits, Holds, Breaks}

-- The row of a message of author `a`, with previous row `p`.
abbrev pub row_by : ℕ → Fields → ℕ → Row
row_by a f p = record { author = a; prev = p; index = f.index; deps = f.count }

-- The row of the message, with previous row `p`.
abbrev pub row_for : Table → List ℕ → Fields → ℕ → Row
row_for t s f p = row_by (author_with t (key_of s)) f p

-- "Where a lent part is shorter than its limit, its length is the limit for FULL": the most rows,
abbrev pub row_room : Table → ℕ
row_room t = min row_limit (min (length t.branches - author_limit) (min (length t.ids / chunk_size) (length t.rows / row_width)))

-- the most authors,
abbrev pub author_room : Table → ℕ
author_room t = min author_limit (min (length t.branches) (length t.keys / chunk_size))

-- and the most dependencies.
abbrev pub dep_room : Table → ℕ
dep_room t = min dep_limit (length t.deps)

-- 16 FULL: "no free row, no place for a new author, or too few dependency places"
abbrev pub full : Table → Row → Bool
full t row =
    either (leb (row_room t) t.counts.rows)
    (either (both (ltb t.counts.authors row.author) (leb (author_room t) t.counts.authors))
    (ltb (dep_room t) (t.counts.deps + row.deps)))

-- 15 DEPOWNER: "dependency of the message's own author, or two of one author"
abbrev pub crossed : List ℕ → ℕ → List ℕ → Bool
crossed rows a ds = either (has_author rows a ds) (not (one_per_author rows ds))

-- 14 DEP: "a dependency id not in the store"; then 15. There are `n` rows, and `row` is the message's.
unfoldable pub dep_tests : List ℕ → List ℕ → ℕ → List ℕ → Fields → Row → Verdict
dep_tests ids rows n s f row =
    pick (lacks ids n s f f.count) (Breaks Dep)
    (pick (crossed rows row.author (named ids n s f f.count)) (Breaks DepOwner) (Fits row))

-- Of a message of author `a` whose previous row is `p`:
-- 11 OWNER: "previous row has another author"; 12 STEP: "index is not the previous one plus 1".
-- 13 CYCLE, "previous row is at or after the row the message would take", is left out: no row that an id names is (the law `named_older`).
unfoldable pub step_tests : Row → ℕ → Fields → ℕ → Verdict
step_tests prev a f p =
    pick (not (eqb prev.author a)) (Breaks Owner)
    (pick (not (eqb f.index (prev.index + 1))) (Breaks Step) (Fits (row_by a f p)))

-- 10 PREV: "index above 1, previous id not in the store"; then 11 and 12. `p` is the row of the previous id, or none.
unfoldable pub prev_tests : List ℕ → ℕ → Fields → ℕ → Verdict
prev_tests rows a f p = pick (eqb p 0) (Breaks Prev) (step_tests (row_at rows p) a f p)

-- 9 INDEX: "index 0, or index 1 with a previous field not zero"; then 10 to 12 for an index above 1. `x` is the previous id.
unfoldable pub index_tests : List ℕ → List ℕ → ℕ → ℕ → List ℕ → Fields → Verdict
index_tests ids rows n a x f =
    pick (eqb f.index 0) (Breaks Index)
    (pick (eqb f.index 1) (pick (all_zero x) (Fits (row_by a f 0)) (Breaks Index))
    (prev_tests rows a f (place_of ids n x)))

-- 6 FLAG: "mark is neither 0 nor 1"; 7 SIGN: "mark is 0 (M5)"; 8 HELD: "id already in the store, with its row"; then 9 to 12.
unfoldable pub chain_tests : Table → List ℕ → Fields → Verdict
chain_tests t s f =
    pick (ltb 1 f.mark) (Breaks Flag)
    (pick (eqb f.mark 0) (Breaks Sign)
    (pick (eqb (row_with t (id_of s)) 0) (index_tests t.ids t.rows t.counts.rows (author_with t (key_of s)) (previous_of s) f)
    (Holds (row_with t (id_of s)))))

-- The rules of the message: after 6 to 12, 14 and 15.
unfoldable pub then_deps : Table → List ℕ → Fields → Verdict → Verdict
then_deps t s f (Fits row) = dep_tests t.ids t.rows t.counts.rows s f row
then_deps t s f (Holds r) = Holds r
then_deps t s f (Breaks r) = Breaks r

-- 6 to 15 in order.
abbrev pub rules_of : Table → List ℕ → Fields → Verdict
rules_of t s f = then_deps t s f (chain_tests t s f)

-- Last, 16.
unfoldable pub then_room : Table → Verdict → Verdict
then_room t (Fits row) = pick (full t row) (Breaks Full) (Fits row)
then_room t (Holds r) = Holds r
then_room t (Breaks r) = Breaks r

-- 6 to 16 in order, for an item that has these fields.
abbrev pub judged_of : Table → List ℕ → Fields → Verdict
judged_of t s f = then_room t (rules_of t s f)

-- The layout's refusals, then 6 to 16.
unfoldable pub then_judged : Table → List ℕ → Result Fields Refusal → Verdict
then_judged t s (Ok f) = judged_of t s f
then_judged t s (Err r) = Breaks r

-- The verdict on an item.
abbrev pub verdict_of : Table → List ℕ → Verdict
verdict_of t s = then_judged t s (layout_of s)
