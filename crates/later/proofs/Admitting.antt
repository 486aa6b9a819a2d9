-- A store after an admission: what was valid stays valid, and what a call gave it still gives. The ids are bytes, as a lent part's are.
-- Assumes nothing.
use Rattle.std.specs.Prelude.{Result, Ok, Err}
use Prim.Native.Nat.{ℕ, ◌+◌, ◌*◌, ◌≤◌}
use mathlib.Core.Path.{◌≡◌, refl, sym, ap, subst}
use mathlib.Core.Bool.{Bool}
use mathlib.Core.List.{List}
use native.Mathlib.Omega.{arith}
use lib.ListN.{length}
use lib.Dec.{ltb}
use Rattle.basics.specs.Pick.{pick}
use Rattle.basics.proofs.Tests.{by_ltb}
use Rattle.basics.proofs.Decisions.{decides_same}
use Rattle.answers.specs.declared.Refusal.{Refusal}
use Rattle.basics.specs.Bytes.{Bytes}
use Rattle.store.specs.Agree.{SameWithin}
use Rattle.store.specs.Table.{Table, WellFormed}
use Rattle.store.specs.declared.lent.Counts.{Counts}
use Rattle.chains.specs.Merging.{Extends}
use Rattle.logs.specs.Held.{chain_of}
use Rattle.logs.specs.Later.{Later}
use Rattle.logs.specs.Refusals.{ValidIn}
use Rattle.logs.specs.Calls.{Prefixes, Appends, Merges, ComparesStates}
use Rattle.logs.specs.declared.LogState.{LogState}
use Rattle.logs.specs.declared.Nearest.{Nearest}
use Rattle.logs.proofs.Agreement.{one_prefix, one_append, one_merge, one_order}
use Rattle.logs.proofs.Beyond.{within_extends}
use Rattle.logs.proofs.Stays.{state_stays, prefix_stays, append_stays, merge_stays, order_stays}
use Rattle.judging.specs.Message.{next_row}
use Rattle.admission.specs.declared.Admitted.{Admitted}
use Rattle.admission.specs.declared.Admitted.TheVariants.{Done, Held, Refused}
use Rattle.admission.proofs.Theorems.{gave, done_grows}
use Rattle.origins.specs.Origins.{AdmitsFrom}
use Rattle.origins.proofs.Theorems.{done_admits, undone_keeps, store_keeps}
use Rattle.frontiers.specs.Numbers.{entry_width}
use Rattle.frontiers.specs.Calls.{FrontierOf, ComparesFrontiers, MergesInto}
use Rattle.frontiers.specs.Appending.{HoldsFrontier, AppendAccepted, AppendsEntry}
use Rattle.frontiers.proofs.Answers.{merge_answers_once}
use Rattle.frontiers.proofs.Once.{compare_answers_once, append_answers_once}
use Rattle.frontiers.proofs.Rooms.{append_room_enough}
use Rattle.frontiers.proofs.Stays.{frontier_stays, two_stay, into_stays, below_stays, held_stays, accepted_stays, entry_stays}

-- What an admission keeps: what was in use is what it was, and there are no fewer rows and authors.
record Kept (t u : Table) : Type 0 where
  within : SameWithin t u t.counts.rows t.counts.authors t.counts.deps
  rows : t.counts.rows ≤ u.counts.rows
  authors : t.counts.authors ≤ u.counts.authors

-- The same store keeps it,
still : (t u : Table) → u ≡ t → Kept t u
still t u e =
    subst (Kept t) (sym e)
    (record {
      within = record { same_keys = refl; same_ids = refl; same_rows = refl; same_deps = refl };
      rows = omega arith;
      authors = omega arith;
    })

-- and so does one row more.
kept : (t : Table) (o : List ℕ) (g : ℕ) (s : List ℕ) (u : Table) (o' : List ℕ) (a : Admitted) → AdmitsFrom t o g s u o' a → Kept t u
kept t o g s u o' (Done n) h =
    let x = done_grows t s u n (done_admits t o g s u o' n h) in
    let row = x.1.1.0 in
    let k = x.1.1.1.1 in
    let r : u.counts.rows ≡ t.counts.rows + 1 = ap (λ (c : Counts). c.rows) k.counts_new in
    let b : u.counts.authors ≡ pick (ltb t.counts.authors row.author) row.author t.counts.authors =
    ap (λ (c : Counts). c.authors) k.counts_new in
    record {
      within = k.kept;
      rows = omega arith;
      authors =
          rw b
          (by_ltb (λ y. t.counts.authors ≤ pick y row.author t.counts.authors) t.counts.authors row.author (λ l. omega arith)
          (λ l. omega arith));
    }
kept t o g s u o' (Held r) h = still t u (undone_keeps t o g s u o' (Held r) h (λ n e. let z : ◌≡◌ {A = ℕ} 0 1 = cc in omega arith)).0
kept t o g s u o' (Refused r) h = still t u (undone_keeps t o g s u o' (Refused r) h (λ n e. let z : ◌≡◌ {A = ℕ} 0 1 = cc in omega arith)).0

-- AN ADMISSION EXTENDS: the store that it leaves, whatever its answer, has the rows of the store before as they were, and perhaps one later.
pub admission_extends : (t : Table) (o : List ℕ) (g : ℕ) (s : List ℕ) (u : Table) (o' : List ℕ) (a : Admitted) → AdmitsFrom t o g s u o' a
    → WellFormed t → Extends (chain_of t) (chain_of u)
admission_extends t o g s u o' a h w = let k = kept t o g s u o' a h in within_extends t u w k.within k.rows

module _ (t : Table) (o : List ℕ) (g : ℕ) (s : List ℕ) (u : Table) (o' : List ℕ) (a : Admitted) (h : AdmitsFrom t o g s u o' a) (w : WellFormed t)
    (y : Bytes t.ids) (z : Bytes u.ids) where
  -- The store that it leaves is the store before, some messages later.
  pub admission_later : Later t u
  admission_later =
      record {
        before = w;
        after = store_keeps t o g s u o' a h w;
        first_ids = y;
        second_ids = z;
        extends = admission_extends t o g s u o' a h w;
        authors = (kept t o g s u o' a h).authors;
      }

  -- A valid state stays valid, and a valid frontier stays valid.
  pub state_after : (k : LogState) → ValidIn t k → ValidIn u k
  state_after = state_stays t u admission_later

  pub frontier_after : (f : List ℕ) → FrontierOf t f → FrontierOf u f
  frontier_after = frontier_stays t u admission_later

  -- What a call on states gave before, it gives after: a prefix,
  pub prefix_after : (i j : ℕ) (p : Nearest) (r : Result Nearest Refusal) → Prefixes t i j (Ok p) → Prefixes u i j r → r ≡ Ok p
  prefix_after i j p r d q = one_prefix u z i j r (Ok p) q (prefix_stays t u admission_later i j p d)

  -- an append,
  pub append_after : (k : LogState) (x : ℕ) (m : LogState) (r : Result LogState Refusal) → Appends t k x (Ok m) → Appends u k x r → r ≡ Ok m
  append_after k x m r d q = one_append u z k x r (Ok m) q (append_stays t u admission_later k x m d)

  -- a merge,
  pub merge_after : (k l m : LogState) (r : Result LogState Refusal) → Merges t k l (Ok m) → Merges u k l r → r ≡ Ok m
  merge_after k l m r d q = one_merge u z k l r (Ok m) q (merge_stays t u admission_later k l m d)

  -- the order.
  pub order_after : (k l : LogState) (b : Bool) (r : Result Bool Refusal) → ComparesStates t k l (Ok b) → ComparesStates u k l r → r ≡ Ok b
  order_after k l b r d q = one_order u z k l r (Ok b) q (order_stays t u admission_later k l b d)

  -- What a call on frontiers gave and wrote before, it gives and writes after: the order,
  pub frontier_order_after : (f g : List ℕ) (b : Bool) (r : Result Bool Refusal) → ComparesFrontiers t f g (Ok b) → ComparesFrontiers u f g r → r ≡ Ok b
  frontier_order_after f g b r (c, d) q =
      let e = below_stays t u admission_later f g c in
      compare_answers_once u f g r (Ok b) q (two_stay t u admission_later f g c, decides_same e.0 e.1 d)

  -- a merge,
  pub frontier_merge_after : (f g out i j : List ℕ) (n : ℕ) (r : Result ℕ Refusal) → MergesInto t f g out i (Ok n) → MergesInto u f g out j r
      → (r ≡ Ok n) × (j ≡ i)
  frontier_merge_after f g out i j n r (c, m) q =
      merge_answers_once u z f g out j i r (Ok n) q (two_stay t u admission_later f g c, into_stays t u admission_later f g out i n c m)

  -- the append of a row.
  pub entry_after : (f : List ℕ) (used x : ℕ) (i j : List ℕ) (n : ℕ) (r : Result ℕ Refusal) → AppendsEntry t f used x i (Ok n) → AppendsEntry u f used x j r
      → (r ≡ Ok n) × (j ≡ i)
  entry_after f used x i j n r (c, m) q =
      append_answers_once u z f used x j i r (Ok n) q (accepted_stays t u admission_later f used x c, entry_stays t u admission_later f used x i n c m)

-- The row of an admission may be appended to a frontier that was valid before it.
pub admitted_accepted : (t : Table) (o : List ℕ) (g : ℕ) (s : List ℕ) (u : Table) (o' : List ℕ) (n : ℕ) → AdmitsFrom t o g s u o' (Done n)
    → Bytes t.ids → Bytes u.ids → (f : List ℕ) (used : ℕ) → HoldsFrontier t f used → AppendAccepted u f used n
admitted_accepted t o g s u o' n h y z f used v =
    let b = done_admits t o g s u o' n h in
    let w = (gave t s u n (Done n) b refl).0 in
    let l = admission_later t o g s u o' (Done n) h w y z in
    let x = done_grows t s u n b in
    let e : n ≡ next_row t = x.0 in
    let r : u.counts.rows ≡ t.counts.rows + 1 = ap (λ (c : Counts). c.rows) x.1.1.1.1.counts_new in
    record { well_formed = l.after; frontier = held_stays t u l f used v; row = record { some = omega arith; counted = omega arith } }

-- THE ADMITTED ROW CAN BE APPENDED: to a frontier that was valid before the admission, in a list with room for five numbers an author,
-- the append of the new row is never refused.
pub admitted_appends : (t : Table) (o : List ℕ) (g : ℕ) (s : List ℕ) (u : Table) (o' : List ℕ) (n : ℕ) → AdmitsFrom t o g s u o' (Done n)
    → Bytes t.ids → Bytes u.ids
    → (f : List ℕ) (used : ℕ) (f' : List ℕ) (why : Refusal) → HoldsFrontier t f used → u.counts.authors * entry_width ≤ length f
    → AppendsEntry u f used n f' (Err why) → ⊥
admitted_appends t o g s u o' n h y z f used f' why v room d =
    let a = admitted_accepted t o g s u o' n h y z f used v in
    append_room_enough u a.well_formed z f used n f' why a room d
