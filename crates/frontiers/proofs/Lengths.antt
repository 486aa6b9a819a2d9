-- How many numbers the merged frontier takes, counted author by author.
-- Assumes nothing.
use Prim.Native.Nat.{ℕ, ◌+◌, ◌-◌, ◌≤◌, ◌<◌}
use mathlib.Core.Path.{◌≡◌, refl, sym, ap, ◌∙◌, subst}
use mathlib.Core.Bool.{true, false}
use mathlib.Core.List.{List}
use mathlib.Core.Option.{Option, none, some}
use native.Mathlib.Omega.{arith}
use lib.ListN.{length, length-append}
use Rattle.basics.proofs.Tests.{not_both_ways}
use Rattle.chains.specs.Chain.{Store, State, growing, forked}
use Rattle.frontiers.specs.Entries.{entry_of, flat, slot, joined, collect, merged_entries}
use Rattle.frontiers.specs.Numbers.{entries_of}
use Rattle.frontiers.specs.Found.{present}
use Rattle.frontiers.specs.Merging.{joined_at, merged_numbers, MergedLength, JoinedLength}
use Rattle.frontiers.proofs.Collecting.{flat_append, collect_next}

-- An entry takes five numbers, an absence none.
slot_length : (a : ℕ) (x : Option State) → present x ≡ true → length (flat (slot a x)) ≡ 5
unfolding flat
slot_length a none p = absurd (not_both_ways false p refl)
slot_length a (some (growing l)) p = refl
slot_length a (some (forked l lo hi)) p = refl

slot_none : (a : ℕ) (x : Option State) → present x ≡ false → length (flat (slot a x)) ≡ 0
unfolding flat
slot_none a none p = refl
slot_none a (some l) p = absurd (not_both_ways true refl p)

-- A join is present exactly where one of the two is.
joined_left : (s : Store) (x y : Option State) → present x ≡ true → present (joined s x y) ≡ true
joined_left s none y p = absurd (not_both_ways false p refl)
joined_left s (some l) none p = refl
joined_left s (some l) (some k) p = refl

joined_right : (s : Store) (x y : Option State) → present x ≡ false → present (joined s x y) ≡ present y
joined_right s none y p = refl
joined_right s (some l) y p = absurd (not_both_ways true refl p)

module _ (f g : List ℕ) (a : ℕ) where
  pub first_length : present (entry_of (entries_of f) a) ≡ true → JoinedLength f g a 5
  unfolding joined_at
  first_length p s = sym (slot_length a (joined_at s f g a) (joined_left s (entry_of (entries_of f) a) (entry_of (entries_of g) a) p))

  pub second_length : present (entry_of (entries_of f) a) ≡ false → present (entry_of (entries_of g) a) ≡ true → JoinedLength f g a 5
  unfolding joined_at
  second_length p q s = sym (slot_length a (joined_at s f g a) (joined_right s (entry_of (entries_of f) a) (entry_of (entries_of g) a) p ∙ q))

  pub no_length : present (entry_of (entries_of f) a) ≡ false → present (entry_of (entries_of g) a) ≡ false → JoinedLength f g a 0
  unfolding joined_at
  no_length p q s = sym (slot_none a (joined_at s f g a) (joined_right s (entry_of (entries_of f) a) (entry_of (entries_of g) a) p ∙ q))

  -- Five numbers at most.
  pub joined_at_most : (r : ℕ) → JoinedLength f g a r → r ≤ 5
  unfolding flat
  joined_at_most r h = let e = h nothing in let b = most (joined_at nothing f g a) in omega arith
    where
      nothing : Store
      nothing = record { count = 0; author = λ x. 0; prev = λ x. 0; index = λ x. 0; key = λ x. 0 }

      most : (x : Option State) → length (flat (slot a x)) ≤ 5
      most none = omega arith
      most (some (growing l)) = omega arith
      most (some (forked l lo hi)) = omega arith

-- What is left to count after the first `a` authors, and what was counted.
abbrev pub Counted : ℕ → List ℕ → List ℕ → ℕ → ℕ → Type 0
Counted n f g a count = (s : Store) → length (merged_numbers s n f g) ≡ count + length (flat (collect (joined_at s f g) (n - a) a))

pub counted_none : (n : ℕ) (f g : List ℕ) → Counted n f g 0 0
unfolding merged_numbers merged_entries joined_at
counted_none n f g s = let e : n - 0 ≡ n = omega arith in rw e (omega arith)

counted_next : (n : ℕ) (f g : List ℕ) (a count r : ℕ) → a < n → Counted n f g a count → JoinedLength f g (a + 1) r → Counted n f g (a + 1) (count + r)
counted_next n f g a count r h c j s =
    let o = joined_at s f g in
    let e : length (flat (collect o (n - a) a)) ≡ r + length (flat (collect o (n - (a + 1)) (a + 1))) =
    ap (λ l. length (flat l)) (collect_next o n a h) ∙ ap length (flat_append (slot (a + 1) (o (a + 1))) (collect o (n - (a + 1)) (a + 1)))
    ∙ length-append (flat (slot (a + 1) (o (a + 1)))) (flat (collect o (n - (a + 1)) (a + 1))) ∙ ap
    (λ k. k + length (flat (collect o (n - (a + 1)) (a + 1)))) (sym (j s)) in
    let d = c s in
    omega arith

-- Author `a` is counted behind those before it.
pub counted_more : (n : ℕ) (f g : List ℕ) (a count r : ℕ) → 1 ≤ a → a ≤ n → Counted n f g (a - 1) count → JoinedLength f g a r
    → Counted n f g (a + 1 - 1) (count + r)
counted_more n f g a count r p h c j =
    let e : a - 1 + 1 ≡ a = omega arith in
    let d : a + 1 - 1 ≡ a - 1 + 1 = omega arith in
    subst (λ k. Counted n f g k (count + r)) (sym d) (counted_next n f g (a - 1) count r (omega arith) c (subst (λ k. JoinedLength f g k r) (sym e) j))

pub counted_all : (n : ℕ) (f g : List ℕ) (a count : ℕ) → n < a → Counted n f g (a - 1) count → MergedLength n f g count
unfolding collect flat
counted_all n f g a count h c s = let e : n - (a - 1) ≡ 0 = omega arith in let d = rw e at (c s) in omega arith
