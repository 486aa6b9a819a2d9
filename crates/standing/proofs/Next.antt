-- Finding the entry with the least key above another, one entry after the other.
-- Assumes nothing.
use Prim.Native.Nat.{ℕ, ◌+◌, ◌-◌}
use mathlib.Core.Path.{◌≡◌, refl, sym, ap, ◌∙◌}
use mathlib.Core.Bool.{Bool, true, false}
use mathlib.Core.Logic.{◌≢◌}
use mathlib.Core.List.{List}
use native.Mathlib.Numerals.{add-one}
use borrow.Author.Tests.{eq-eqb, ne_eqb}
use Rattle.chunks.specs.Bytes.{comes_before}
use Rattle.standing.specs.Selecting.{key_of_entry, better_of, next_after}

module _ (keys f b x y : List ℕ) (m i : ℕ) (t u : Bool) (p : x ≡ key_of_entry keys f i) (q : t ≡ comes_before b x) where
  -- Entry i is not above.
  pub better_below : t ≡ false → m ≡ better_of keys f b m i
  better_below e = let d : comes_before b (key_of_entry keys f i) ≡ false = ap (comes_before b) (sym p) ∙ sym q ∙ e in rw d

  -- It is above, and the first that is.
  pub better_first : t ≡ true → m ≡ 0 → i + 1 ≡ better_of keys f b m i
  better_first e z = let d : comes_before b (key_of_entry keys f i) ≡ true = ap (comes_before b) (sym p) ∙ sym q ∙ e in rw (d, eq-eqb m 0 z)

  module _ (r : y ≡ key_of_entry keys f (m - 1)) (o : u ≡ comes_before x y) where
    same : comes_before (key_of_entry keys f i) (key_of_entry keys f (m - 1)) ≡ u
    same = sym (o ∙ rw (p, r))

    -- It is above, and below the best.
    pub better_new : t ≡ true → m ≢ 0 → u ≡ true → i + 1 ≡ better_of keys f b m i
    better_new e z h = let d : comes_before b (key_of_entry keys f i) ≡ true = ap (comes_before b) (sym p) ∙ sym q ∙ e in rw (d, ne_eqb m 0 z, same, h)

    -- It is above, and not below the best.
    pub better_old : t ≡ true → m ≢ 0 → u ≡ false → m ≡ better_of keys f b m i
    better_old e z h = let d : comes_before b (key_of_entry keys f i) ≡ true = ap (comes_before b) (sym p) ∙ sym q ∙ e in rw (d, ne_eqb m 0 z, same, h)

-- One entry more.
pub next_more : (keys f b : List ℕ) (m i r : ℕ) → m ≡ next_after keys f b i → r ≡ better_of keys f b m i → r ≡ next_after keys f b (i + 1)
unfolding next_after
next_more keys f b m i r e g = rw (add-one) (g ∙ ap (λ k. better_of keys f b k i) e)

-- None yet.
pub next_none : (keys f b : List ℕ) → 0 ≡ next_after keys f b 0
unfolding next_after
next_none keys f b = refl

-- All entries looked at.
pub next_end : (keys f b : List ℕ) (m i n : ℕ) → i ≡ n → m ≡ next_after keys f b i → m ≡ next_after keys f b n
next_end keys f b m i n e g = rw e at g
