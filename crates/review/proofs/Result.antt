-- From the table of children to the branches: what is listed is every branch, and such a list there always is.
-- Assumes nothing.
use Rattle.std.specs.Prelude.{Result, Ok, Err}
use Rattle.answers.specs.declared.Refusal.{Refusal}
use Prim.Native.Nat.{ℕ, zero, suc, ◌+◌, ◌*◌, ◌≤◌, ◌<◌}
use mathlib.Core.Path.{◌≡◌, refl, sym, subst, ◌∙◌}
use mathlib.Core.List.{List}
use mathlib.Core.Logic.{⊎_elim}
use native.Mathlib.Omega.{arith}
use lib.ListN.{length, drop, get_or, set, replicate, length-replicate}
use Rattle.basics.proofs.Tests.{by_eqb, true_or_false}
use Rattle.chunks.specs.Bytes.{comes_before}
use Rattle.chunks.specs.Piece.{piece_at}
use Rattle.store.specs.Limits.{row_limit}
use Rattle.store.specs.Table.{Table, WellFormed}
use Rattle.chains.specs.Chain.{IsForked}
use Rattle.logs.specs.declared.Phase.{Phase}
use Rattle.logs.specs.declared.Phase.TheVariants.{Forked}
use Rattle.logs.specs.declared.LogState.{LogState}
use Rattle.logs.specs.States.{standing}
use Rattle.logs.specs.Refusals.{ValidIn}
use Rattle.review.specs.Review.{branch_width, Branch, tip_at, EveryBranch, NoRoom}
use Rattle.review.specs.Children.{Children, kids_in, BestSoFar, MayCompare, MayList, Listed, MayReview}
use Rattle.review.specs.Calls.{Reviewed, NotListed, ListsBranches, WritesBranches, WritesKids}
use Rattle.review.proofs.Best.{best_none, best_skip, best_first, best_lower, best_stays, compare_less, compare_same}
use Rattle.review.proofs.Writing.{Sofar, sofar_none, sofar_more, sofar_all}

-- What is listed from the table of children is every branch.
pub listed_every : (rows ids : List ℕ) (n a last : ℕ) (kids : List ℕ) (m : ℕ) (out out' : List ℕ) → Children rows n a last kids n
    → Listed ids kids n m out out' → EveryBranch rows ids n a last out' m
listed_every rows ids n a last kids m out out' c l =
    record {
      each = λ k h.
          let e = l.each k h in
          let t = c (tip_at out' k) e.0.1 e.0.0 in
          subst (Branch rows n a last (tip_at out' k)) (sym e.1.1) (t.found (λ z. e.1.0 (e.1.1 ∙ z)));
      rising = l.rising;
      every = λ tip child b. l.every tip b.held b.some (λ z. (c tip b.held b.some).none z child b);
    }

-- Of some rows one has the lowest id, or none has a child.
record Best (ids kids : List ℕ) (n : ℕ) : Type 0 where
  row : ℕ
  best : BestSoFar ids kids n row × (row ≤ n)

-- One row more.
best_more : (ids kids : List ℕ) (n : ℕ) → MayCompare ids kids (n + 1) → Best ids kids n → Best ids kids (n + 1)
best_more ids kids n m p =
    by_eqb (λ _. Best ids kids (n + 1)) (get_or kids (n + 1) 0) 0
    (λ z. record { row = x; best = best_skip ids kids n x b l z })
    (λ z. by_eqb (λ _. Best ids kids (n + 1)) x 0
    (λ e. record { row = n + 1; best = best_first ids kids n x b l z e })
    (λ e. ⊎_elim
    (λ t. record { row = n + 1; best = best_lower ids kids n x b l z e t })
    (λ t. record { row = x; best = best_stays ids kids n x b l m z e t }) (true_or_false (comes_before (piece_at ids (n + 1)) (piece_at ids x)))))
  where
    x : ℕ
    x = p.row

    b : BestSoFar ids kids n p.row
    b = p.best.0

    l : p.row ≤ n
    l = p.best.1

best_exists : (ids kids : List ℕ) (n : ℕ) → MayCompare ids kids n → Best ids kids n
best_exists ids kids zero m = record { row = 0; best = best_none ids kids }
best_exists ids kids (suc n) m =
    let e : n + 1 ≡ suc n = omega arith in
    subst (Best ids kids) e
    (best_more ids kids n (subst (MayCompare ids kids) (sym e) m) (best_exists ids kids n (compare_less ids kids (suc n) n (omega arith) m)))

-- A list of the rows that have a child.
record Lists (ids kids : List ℕ) (n m : ℕ) (out : List ℕ) : Type 0 where
  list : List ℕ
  listed : Listed ids kids n m out list

-- The branches that are left can be listed,
lists_left : (ids : List ℕ) (n m : ℕ) (kids₀ out₀ : List ℕ) → MayList ids kids₀ n m out₀ → (left k : ℕ) (kids out : List ℕ) → k + left ≡ m
    → Sofar ids n m kids₀ out₀ k kids out → Lists ids kids₀ n m out₀
lists_left ids n m kids₀ out₀ may zero k kids out e s = record { list = out; listed = sofar_all ids n m kids₀ out₀ k kids out s (omega arith) }
lists_left ids n m kids₀ out₀ may (suc left) k kids out e s =
    let p = best_exists ids kids n (compare_same ids kids₀ kids n s.same_table may.compare) in
    let s' = sofar_more ids n m kids₀ out₀ k kids out s (omega arith) may p.row p.best in
    lists_left ids n m kids₀ out₀ may left (k + 1) (set kids p.row 0) (set (set out (2 * k) p.row) (2 * k + 1) (get_or kids p.row 0)) (omega arith) s'

-- so all can.
lists_all : (ids kids : List ℕ) (n m : ℕ) (out : List ℕ) → MayList ids kids n m out → Lists ids kids n m out
lists_all ids kids n m out may = lists_left ids n m kids out may m 0 kids out (omega arith) (sofar_none ids n m kids out may.many)

module _ (rows ids : List ℕ) (n a last : ℕ) (kids : List ℕ) (c : Children rows n a last kids n) (may : MayCompare ids kids n) (few : n ≤ row_limit) where
  -- An output that is shorter than the branches of the table has no room for the list.
  pub short_room : (out : List ℕ) → length out < branch_width * kids_in kids n → NoRoom rows ids n a last out
  short_room out h =
      let m = kids_in kids n in
      let blank : List ℕ = replicate {A = ℕ} (2 * m) 0 in
      let e : length blank ≡ 2 * m = length-replicate {A = ℕ} (2 * m) 0 in
      let l = lists_all ids kids n m blank (record { compare = may; limit = few; many = refl; room = omega (arith, e) }) in
      let f : length l.list ≡ 2 * m = l.listed.same_room ∙ e in
      record {
        result = l.list;
        many = m;
        branches = listed_every rows ids n a last kids m blank l.list c l.listed;
        size = f;
        short = omega (arith, f, h);
      }

  -- What writing the table answers is what listing the branches promises.
  pub writes_of : (out out' : List ℕ) (r : Result ℕ Refusal) → WritesKids ids kids n out out' r → WritesBranches rows ids n a last out out' r
  writes_of out out' (Ok w) p =
      record {
        many = kids_in kids n;
        count = p.0;
        room = omega (arith, p.0, p.1.0);
        same_room = p.1.1.same_room;
        branches = listed_every rows ids n a last kids (kids_in kids n) out out' c p.1.1;
        beyond = subst (λ (x : ℕ). drop x out' ≡ drop x out) (sym p.0) p.1.1.beyond;
      }
  writes_of out out' (Err why) p = (p.0, (short_room out p.1.0, p.1.1))

-- The ids may be compared over any table with a place for each row.
pub may_compare : (ids rows branches kids : List ℕ) (n : ℕ) → MayReview ids rows branches n → n < length kids → MayCompare ids kids n
may_compare ids rows branches kids n m h = record { table = h; held = m.held; distinct = m.distinct }

-- A well_formed table has what listing the branches asks.
pub may_review : (t : Table) → WellFormed t → MayReview t.ids t.rows t.branches t.counts.rows
may_review t w =
    record {
      counted = record { chained = w.rows_chained; places = w.branches_held; numbers = w.branches_right };
      limit = w.rows_limit;
      held = w.ids_held;
      distinct = w.ids_distinct;
    }

-- What listing the branches behind its last row answers is what the call promises of a valid forked state.
pub lists_of : (t : Table) (k : LogState) → WellFormed t → ValidIn t k → (low high : ℕ) → k.phase ≡ Forked low high → (a last : ℕ) → a ≡ k.author
    → last ≡ k.last → (out out' : List ℕ) (r : Result ℕ Refusal) → WritesBranches t.rows t.ids t.counts.rows a last out out' r
    → ListsBranches t k out out' r
lists_of t k w v low high p a last e f out out' r l =
    answer r (subst (λ (y : ℕ). WritesBranches t.rows t.ids t.counts.rows k.author y out out' r) f
    (subst (λ (x : ℕ). WritesBranches t.rows t.ids t.counts.rows x last out out' r) e l))
  where
    accepted : Reviewed t k
    accepted = record { well_formed = w; state = v; forked = subst (λ (q : Phase). IsForked (standing k.last q)) (sym p) tt }

    answer : (q : Result ℕ Refusal) → WritesBranches t.rows t.ids t.counts.rows k.author k.last out out' q → ListsBranches t k out out' q
    answer (Ok n) b = record { accepted = accepted; wrote = b }
    answer (Err why) b = (NotListed.no_room b.0 accepted b.1.0, b.1.1)
