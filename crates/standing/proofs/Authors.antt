-- Reading the entries author by author.
-- Assumes nothing.
use Prim.Native.Nat.{ℕ, zero, suc, ◌*◌, ◌-◌, ◌≤◌}
use mathlib.Core.List.{List}
use mathlib.Core.Option.{Option, none, some}
use native.Mathlib.Omega.{arith}
use lib.ListN.{length, length-append}
use Rattle.store.specs.declared.lent.Counts.{Counts}
use Rattle.chains.specs.Chain.{State}
use Rattle.frontiers.specs.Entries.{slot, collect}
use Rattle.frontiers.specs.Found.{PutBehind}
use Rattle.frontiers.proofs.Numbers.{length_flat}
use Rattle.frontiers.proofs.Progress.{Progress, progress_start, progress_end}
use Rattle.standing.specs.Finding.{read_at, read_numbers}

-- At most one entry an author.
collect_few : (o : ℕ → Option State) (k b : ℕ) → length (collect o k b) ≤ k
unfolding collect
collect_few o zero b = omega arith
collect_few o (suc k) b =
    let h = collect_few o k (suc b) in
    let l = length-append (slot (suc b) (o (suc b))) (collect o k (suc b)) in
    let m = one (o (suc b)) in
    omega arith
  where
    one : (x : Option State) → length (slot (suc b) x) ≤ 1
    one none = omega arith
    one (some l) = omega arith

module _ (keys ids : List ℕ) (counts : Counts) (s : List ℕ) (n : ℕ) where
  -- Five numbers an author at most.
  pub numbers_few : length (read_numbers keys ids counts s n) ≤ counts.authors * 5
  unfolding read_numbers
  numbers_few =
      let l = length_flat (collect (read_at keys ids counts s n) counts.authors 0) in
      let h = collect_few (read_at keys ids counts s n) counts.authors 0 in
      omega arith

  -- At first nothing is written,
  pub reading_start : (d : List ℕ) → counts.authors * 5 ≤ length d → Progress (read_at keys ids counts s n) counts.authors d 0 0 d
  unfolding read_numbers
  reading_start d h = progress_start (read_at keys ids counts s n) counts.authors d (let f = numbers_few in omega arith)

  -- and the whole once every author was.
  pub reading_end : (d : List ℕ) (a used : ℕ) (out : List ℕ) → Progress (read_at keys ids counts s n) counts.authors d (a - 1) used out → counts.authors ≤ a - 1
      → PutBehind d 0 (read_numbers keys ids counts s n) out used
  unfolding read_numbers
  reading_end d a used out p h = progress_end (read_at keys ids counts s n) counts.authors d (a - 1) used out p h
