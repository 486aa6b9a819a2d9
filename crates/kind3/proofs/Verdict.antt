-- What the tests of `layout_of` say, as plain facts: of a sound item all of them, of a refused one its line.
-- Assumes nothing.
use Rattle.std.specs.Prelude.{Result, Ok, Err}
use Prim.Native.Nat.{ℕ, ◌+◌, ◌*◌, ◌-◌, ◌≤◌, ◌<◌}
use native.Mathlib.Omega.{arith}
use mathlib.Core.Path.{◌≡◌, refl, sym, ap, subst}
use mathlib.Core.Bool.{Bool}
use mathlib.Core.List.{List}
use lib.ListN.{length}
use lib.Dec.{ltb}
use borrow.Author.Tests.{le-ltb, eq-eqb}
use Rattle.basics.specs.Pick.{pick}
use Rattle.basics.proofs.Tests.{by_ltb, by_eqb}
use Rattle.answers.specs.declared.Refusal.{Refusal}
use Rattle.answers.specs.declared.Refusal.TheVariants.{Kind}
use Rattle.item.specs.Layout.{length_of, kind_of, body_size}
use Rattle.kind3.specs.Layout.{count_of, body_tests, layout_of}
use Rattle.kind3.specs.Lines.{no_length, incomplete, body_short, entries_short, length_above, count_above_lem, after_item, after_entries}
use Rattle.kind3.specs.Lines.{Line, missing, length_under_2, above_limit, left_over, kind_not_3}

-- All that a sound item of `n` entries has passed.
pub record Passed (s : List ℕ) (n : ℕ) : Type 0 where
  pub whole : length s ≡ 4 + length_of s
  pub kind_3 : kind_of s ≡ 3
  pub count_limit_lem : count_of s ≤ 64
  pub full : length s ≡ 8 + 130 * count_of s
  pub count : n ≡ count_of s

-- What is known of a verdict on the item.
data Judged (s : List ℕ) : Result ℕ Refusal → Type 0 where
  sound : {n : ℕ} → Passed s n → Judged s (Ok n)
  refused : {r : Refusal} → Line s r → Judged s (Err r)

module _ (s : List ℕ) where
  -- A test on two numbers, known on both ways.
  less : (a b : ℕ) {x y : Result ℕ Refusal} → (a < b → Judged s x) → (b ≤ a → Judged s y) → Judged s (pick (ltb a b) x y)
  less a b {x} {y} f g = by_ltb (λ (t : Bool). Judged s (pick t x y)) a b f g

  -- What the tests on the body say.
  judged_body : 6 ≤ length s → length s ≡ 4 + length_of s → kind_of s ≡ 3 → Judged s (body_tests s)
  unfolding body_tests
  judged_body a b k =
      less (body_size s) 2 (λ e. refused (missing (body_short (omega arith))))
      (λ e. less 64 (count_of s) (λ g. refused (above_limit (count_above_lem (omega arith) g)))
      (λ g. less (body_size s) (2 + 130 * count_of s) (λ i. refused (missing (entries_short (omega arith))))
      (λ i. less (2 + 130 * count_of s) (body_size s) (λ j. refused (left_over (after_entries (omega arith))))
      (λ j. sound (record { whole = b; kind_3 = k; count_limit_lem = g; full = omega arith; count = refl })))))

  -- What all tests say.
  judged : Judged s (layout_of s)
  unfolding layout_of
  judged =
      less (length s) 4 (λ e. refused (missing (no_length e)))
      (λ e. less 8324 (length_of s) (λ g. refused (above_limit (length_above e g)))
      (λ g. less (length_of s) 2 (λ i. refused (length_under_2 e i))
      (λ i. less (length s - 4) (length_of s) (λ j. refused (missing (incomplete (omega arith))))
      (λ j. less (length_of s) (length s - 4) (λ k. refused (left_over (after_item (omega arith))))
      (λ k. by_eqb (λ (t : Bool). Judged s (pick t (body_tests s) (Err Kind))) (kind_of s) 3 (judged_body (omega arith) (omega arith))
      (λ m. refused (kind_not_3 (omega arith) m)))))))

-- Each refusal is given only where its line holds.
pub refused_line : (s : List ℕ) (r : Refusal) → layout_of s ≡ Err r → Line s r
refused_line s r e = of (subst (Judged s) e (judged s))
  where
    of : {r : Refusal} → Judged s (Err r) → Line s r
    of (refused l) = l

-- A sound item has passed.
pub sound_passed : (s : List ℕ) (n : ℕ) → layout_of s ≡ Ok n → Passed s n
sound_passed s n e = of (subst (Judged s) e (judged s))
  where
    of : {n : ℕ} → Judged s (Ok n) → Passed s n
    of (sound p) = p

-- What has passed is sound.
pub passed_sound : (s : List ℕ) (n : ℕ) → Passed s n → layout_of s ≡ Ok n
unfolding layout_of body_tests
passed_sound s n p =
    simp (
      le-ltb (length s) 4 (omega arith),
      le-ltb 8324 (length_of s) (omega arith),
      le-ltb (length_of s) 2 (omega arith),
      le-ltb (length s - 4) (length_of s) (omega arith),
      le-ltb (length_of s) (length s - 4) (omega arith),
      eq-eqb (kind_of s) 3 p.kind_3,
      le-ltb (body_size s) 2 (omega arith),
      le-ltb 64 (count_of s) p.count_limit_lem,
      le-ltb (body_size s) (2 + 130 * count_of s) (omega arith),
      le-ltb (2 + 130 * count_of s) (body_size s) (omega arith),
    )
    (ap Ok (sym p.count))
