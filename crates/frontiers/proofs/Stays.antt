-- A store some messages later: what was a valid frontier stays one, and what a call on frontiers did stays what it does.
-- Assumes nothing.
use Prim.Native.Nat.{ℕ}
use mathlib.Core.Path.{◌≡◌, sym, ap, subst}
use mathlib.Core.Logic.{◌↔◌}
use mathlib.Core.List.{List}
use mathlib.Core.Option.{Option, none, some}
use native.Mathlib.Omega.{arith}
use lib.ListN.{take}
use Rattle.store.specs.Table.{Table}
use Rattle.chains.specs.Chain.{Valid, State, growing}
use Rattle.chains.proofs.Later.{valid_on, below_on, merge_on}
use Rattle.logs.specs.Held.{chain_of}
use Rattle.logs.specs.Later.{Later}
use Rattle.logs.proofs.Tables.{chain_valid}
use Rattle.frontiers.specs.Entries.{Entry, numbers, entry_of, ValidAt, Joins, BelowAt, FrontierBelow}
use Rattle.frontiers.specs.Numbers.{author_at, entries_of}
use Rattle.frontiers.specs.Calls.{FrontierOf, MergedOf, MergedInto, NoRoomFor, TwoFrontiers}
use Rattle.frontiers.specs.Appending.{row_frontier, HoldsFrontier, Held, AppendAccepted}
use Rattle.frontiers.proofs.Numbers.{valid_entries}
use Rattle.frontiers.proofs.Appends.{append_pair}

module _ (t u : Table) (g : Later t u) where
  -- Both are valid stores of chains.
  first_valid : Valid (chain_of t)
  first_valid = chain_valid t g.before g.first_ids

  second_valid : Valid (chain_of u)
  second_valid = chain_valid u g.after g.second_ids

  -- A valid frontier stays valid.
  pub frontier_stays : (f : List ℕ) → FrontierOf t f → FrontierOf u f
  frontier_stays f v =
      record {
        whole = v.whole;
        entries = λ i h.
            let e = v.entries i h in
            record {
              phase = e.phase;
              rises = e.rises;
              exists = e.exists;
              known = omega (arith, e.known, g.authors);
              state = valid_on (chain_of t) (chain_of u) first_valid second_valid g.extends (author_at f i) e.state;
            };
      }

  pub two_stay : (f h : List ℕ) → TwoFrontiers t f h → TwoFrontiers u f h
  two_stay f h a = record { well_formed = g.after; first = frontier_stays f a.first; second = frontier_stays h a.second }

  -- A join of valid entries stays one.
  join_stays : (n a : ℕ) (i j r : Option State) → ValidAt (chain_of t) n a i → ValidAt (chain_of t) n a j → Joins (chain_of t) i j r → Joins (chain_of u) i j r
  join_stays n a none none r p q k = k
  join_stays n a none (some l) r p q k = k
  join_stays n a (some l) none r p q k = k
  join_stays n a (some l) (some o) none p q k = k
  join_stays n a (some l) (some o) (some m) p q k =
      (merge_on (chain_of t) (chain_of u) first_valid second_valid g.extends a l o m p.1.1 q.1.1).0 k

  -- An entry of a valid frontier.
  entry_valid : (f : List ℕ) → FrontierOf t f → (a : ℕ) → ValidAt (chain_of t) t.counts.authors a (entry_of (entries_of f) a)
  entry_valid f v a = (valid_entries (chain_of t) t.counts.authors f v).each a

  -- The merged frontier stays the merged one,
  merged_stays : (f h : List ℕ) (r : List Entry) → TwoFrontiers t f h → MergedOf t f h r → MergedOf u f h r
  merged_stays f h r a m =
      record {
        rising = m.rising;
        joins = λ b.
            join_stays t.counts.authors b (entry_of (entries_of f) b) (entry_of (entries_of h) b) (entry_of r b) (entry_valid f a.first b)
            (entry_valid h a.second b) (m.joins b);
      }

  -- written or too long for the output.
  pub into_stays : (f h out out' : List ℕ) (n : ℕ) → TwoFrontiers t f h → MergedInto t f h out out' n → MergedInto u f h out out' n
  into_stays f h out out' n a m =
      record { result = m.result; merged = merged_stays f h m.result a m.merged; count = m.count; fits = m.fits; content = m.content }

  pub short_stays : (f h out : List ℕ) → TwoFrontiers t f h → NoRoomFor t f h out → NoRoomFor u f h out
  short_stays f h out a n = record { result = n.result; merged = merged_stays f h n.result a n.merged; short = n.short }

  -- The order of two valid frontiers stays their order.
  below_at : (n a : ℕ) (i j : Option State) → ValidAt (chain_of t) n a i → ValidAt (chain_of t) n a j → BelowAt (chain_of t) i j ↔ BelowAt (chain_of u) i j
  below_at n a none j p q = (λ k. k, λ k. k)
  below_at n a (some l) none p q = (λ k. k, λ k. k)
  below_at n a (some l) (some o) p q = below_on (chain_of t) (chain_of u) first_valid second_valid g.extends a p.1.1 q.1.1

  pub below_stays : (f h : List ℕ) → TwoFrontiers t f h
      → FrontierBelow (chain_of t) (entries_of f) (entries_of h) ↔ FrontierBelow (chain_of u) (entries_of f) (entries_of h)
  below_stays f h a = (λ k b. (one b).0 (k b), λ k b. (one b).1 (k b))
    where
      one : (b : ℕ) → BelowAt (chain_of t) (entry_of (entries_of f) b) (entry_of (entries_of h) b) ↔ BelowAt (chain_of u) (entry_of (entries_of f) b)
          (entry_of (entries_of h) b)
      one b = below_at t.counts.authors b (entry_of (entries_of f) b) (entry_of (entries_of h) b) (entry_valid f a.first b) (entry_valid h a.second b)

  -- A row stays one, and its frontier is the same.
  pub row_stays : (x : ℕ) → Held t x → Held u x
  row_stays x h = let m = g.extends.more in let k = h.counted in record { some = h.some; counted = omega arith }

  pub row_same : (x : ℕ) → Held t x → row_frontier t.rows x ≡ row_frontier u.rows x
  row_same x h = ap (λ (a : ℕ). numbers a (growing x)) (sym (g.extends.author x h.counted))

  pub held_stays : (f : List ℕ) (used : ℕ) → HoldsFrontier t f used → HoldsFrontier u f used
  held_stays f used h = record { within = h.within; valid = frontier_stays (take used f) h.valid }

  -- What holds where a row is appended stays so, and what was written stays what is written.
  pub accepted_stays : (f : List ℕ) (used x : ℕ) → AppendAccepted t f used x → AppendAccepted u f used x
  accepted_stays f used x a = record { well_formed = g.after; frontier = held_stays f used a.frontier; row = row_stays x a.row }

  pub entry_stays : (f : List ℕ) (used x : ℕ) (f' : List ℕ) (n : ℕ) → AppendAccepted t f used x
      → MergedInto t (take used f) (row_frontier t.rows x) f f' n → MergedInto u (take used f) (row_frontier u.rows x) f f' n
  entry_stays f used x f' n a m =
      subst (λ (h : List ℕ). MergedInto u (take used f) h f f' n) (row_same x a.row)
      (into_stays (take used f) (row_frontier t.rows x) f f' n (append_pair t g.first_ids g.before f used x a) m)
