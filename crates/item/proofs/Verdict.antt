-- What the tests of `layout_of` say, as plain facts: of a sound item all of them, of a refused one its line.
-- Assumes nothing.
use Rattle.std.specs.Prelude.{Result, Ok, Err}
use Prim.Native.Nat.{ℕ, ◌+◌, ◌*◌, ◌-◌, ◌≤◌, ◌<◌}
use native.Mathlib.Omega.{arith}
use mathlib.Core.Path.{◌≡◌, refl, sym, ap, subst}
use mathlib.Core.Bool.{Bool}
use mathlib.Core.List.{List}
use lib.ListN.{length}
use lib.Dec.{ltb}
use borrow.Author.Tests.{le-ltb, eq-eqb}
use Rattle.basics.specs.Pick.{pick}
use Rattle.basics.proofs.Tests.{by_ltb, by_eqb}
use Rattle.answers.specs.declared.Refusal.{Refusal}
use Rattle.answers.specs.declared.Refusal.TheVariants.{Kind}
use Rattle.item.specs.declared.Fields.{Fields}
use Rattle.item.specs.Layout.{length_of, kind_of, body_size, payload_size, count_after, fields_with, count_tests, body_tests, layout_of}
use Rattle.item.specs.Lines.{no_length, incomplete, body_short, payload_short, dependencies_short, length_above, payload_above, dependencies_above}
use Rattle.item.specs.Lines.{after_item, after_signature, Line, missing, length_under_2, above_limit, left_over, kind_not_1}

-- All that a sound item has passed.
pub record Passed (s : List ℕ) (f : Fields) : Type 0 where
  pub whole : length s ≡ 4 + length_of s
  pub kind_1 : kind_of s ≡ 1
  pub payload_limit_lem : payload_size s ≤ 4096
  pub count_limit_lem : count_after (payload_size s) s ≤ 63
  pub full : length s ≡ 145 + payload_size s + 32 * count_after (payload_size s) s
  pub fields : f ≡ fields_with (payload_size s) (count_after (payload_size s) s) s

-- What is known of a verdict on the item.
data Known (s : List ℕ) : Result Fields Refusal → Type 0 where
  sound : {f : Fields} → Passed s f → Known s (Ok f)
  refused : {r : Refusal} → Line s r → Known s (Err r)

module _ (s : List ℕ) where
  -- A test on two numbers, known on both ways.
  less : (a b : ℕ) {x y : Result Fields Refusal} → (a < b → Known s x) → (b ≤ a → Known s y) → Known s (pick (ltb a b) x y)
  less a b {x} {y} f g = by_ltb (λ (t : Bool). Known s (pick t x y)) a b f g

  -- What the tests from the dependency count on say.
  known_count : length s ≡ 4 + length_of s → kind_of s ≡ 1 → payload_size s ≤ 4096 → 145 + payload_size s ≤ length s
      → Known s (count_tests (payload_size s) s)
  unfolding count_tests
  known_count b k m h =
      less 63 count (λ e. refused (above_limit (dependencies_above (omega arith) e)))
      (λ e. less (body_size s) (139 + payload_size s + 32 * count) (λ g. refused (missing (dependencies_short (omega arith))))
      (λ g. less (139 + payload_size s + 32 * count) (body_size s) (λ i. refused (left_over (after_signature (omega arith))))
      (λ i. sound (record { whole = b; kind_1 = k; payload_limit_lem = m; count_limit_lem = e; full = omega arith; fields = refl }))))
    where
      count : ℕ
      count = count_after (payload_size s) s

  -- What the tests on the body say.
  known_body : 6 ≤ length s → length s ≡ 4 + length_of s → kind_of s ≡ 1 → Known s (body_tests s)
  unfolding body_tests
  known_body a b k =
      less (body_size s) 139 (λ e. refused (missing (body_short (omega arith))))
      (λ e. less 4096 (payload_size s) (λ g. refused (above_limit (payload_above (omega arith) g)))
      (λ g. less (body_size s) (139 + payload_size s) (λ i. refused (missing (payload_short (omega arith))))
      (λ i. known_count b k g (omega arith))))

  -- What all tests say.
  known : Known s (layout_of s)
  unfolding layout_of
  known =
      less (length s) 4 (λ e. refused (missing (no_length e)))
      (λ e. less 6253 (length_of s) (λ g. refused (above_limit (length_above e g)))
      (λ g. less (length_of s) 2 (λ i. refused (length_under_2 e i))
      (λ i. less (length s - 4) (length_of s) (λ j. refused (missing (incomplete (omega arith))))
      (λ j. less (length_of s) (length s - 4) (λ k. refused (left_over (after_item (omega arith))))
      (λ k. by_eqb (λ (t : Bool). Known s (pick t (body_tests s) (Err Kind))) (kind_of s) 1 (known_body (omega arith) (omega arith))
      (λ m. refused (kind_not_1 (omega arith) m)))))))

-- Each refusal is given only where its line holds.
pub refused_line : (s : List ℕ) (r : Refusal) → layout_of s ≡ Err r → Line s r
refused_line s r e = of (subst (Known s) e (known s))
  where
    of : {r : Refusal} → Known s (Err r) → Line s r
    of (refused l) = l

-- A sound item has passed.
pub sound_passed : (s : List ℕ) (f : Fields) → layout_of s ≡ Ok f → Passed s f
sound_passed s f e = of (subst (Known s) e (known s))
  where
    of : {f : Fields} → Known s (Ok f) → Passed s f
    of (sound p) = p

-- What has passed is sound.
pub passed_sound : (s : List ℕ) (f : Fields) → Passed s f → layout_of s ≡ Ok f
unfolding layout_of body_tests count_tests
passed_sound s f p =
    simp (
      le-ltb (length s) 4 (omega arith),
      le-ltb 6253 (length_of s) (omega arith),
      le-ltb (length_of s) 2 (omega arith),
      le-ltb (length s - 4) (length_of s) (omega arith),
      le-ltb (length_of s) (length s - 4) (omega arith),
      eq-eqb (kind_of s) 1 p.kind_1,
      le-ltb (body_size s) 139 (omega arith),
      le-ltb 4096 (payload_size s) p.payload_limit_lem,
      le-ltb (body_size s) (139 + payload_size s) (omega arith),
      le-ltb 63 (count_after (payload_size s) s) p.count_limit_lem,
      le-ltb (body_size s) (139 + payload_size s + 32 * count_after (payload_size s) s) (omega arith),
      le-ltb (139 + payload_size s + 32 * count_after (payload_size s) s) (body_size s) (omega arith),
    )
    (ap Ok (sym p.fields))
