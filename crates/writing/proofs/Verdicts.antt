-- When a message is written, and which line holds where it is refused.
-- Assumes nothing.
use Rattle.std.specs.Prelude.{Result, Ok, Err}
use Prim.Native.Nat.{ℕ, ◌/◌, ◌%◌, ◌≤◌, ◌<◌}
use mathlib.Core.Path.{◌≡◌, refl, subst}
use mathlib.Core.Bool.{Bool, true}
use lib.Dec.{ltb}
use lib.ListN.{length}
use borrow.Author.Tests.{le-ltb, eq-eqb}
use Rattle.basics.specs.Pick.{pick}
use Rattle.basics.proofs.Tests.{by_pick, by_ltb, not_both_ways}
use Rattle.answers.specs.declared.Refusal.{Refusal}
use Rattle.writing.specs.Message.{Message, item_bytes}
use Rattle.writing.specs.Writing.{writing_of}
use Rattle.writing.specs.Lines.{Full, Layable, Line, not_full, payload_above, dependencies_above, other_mark, too_short}
use Rattle.writing.proofs.Answers.{is_full, full_says}

-- Full fields pass the test of the lengths.
pub full_passes : (m : Message) → Full m → is_full m ≡ true
full_passes m f =
    rw (
      eq-eqb (length m.key) 32 f.key_full,
      eq-eqb (length m.previous) 32 f.previous_full,
      eq-eqb (length m.dependencies % 32) 0 f.dependencies_full,
      eq-eqb (length m.signature) 64 f.signature_full,
    )

-- What is known of an answer.
data Known (m : Message) (room : ℕ) : Result ℕ Refusal → Type 0 where
  done : Layable m → length (item_bytes m) ≤ room → Known m room (Ok (length (item_bytes m)))
  refused : {r : Refusal} → Line m room r → Known m room (Err r)

module _ (m : Message) (room : ℕ) where
  -- A test on two numbers, known on both ways.
  less : (a b : ℕ) {x y : Result ℕ Refusal} → (a < b → Known m room x) → (b ≤ a → Known m room y) → Known m room (pick (ltb a b) x y)
  less a b {x} {y} f g = by_ltb (λ (t : Bool). Known m room (pick t x y)) a b f g

  -- What all tests say.
  known : Known m room (writing_of m room)
  unfolding writing_of
  known =
      by_pick (Known m room) (is_full m) _ _
      (λ e. less 4096 (length m.payload) (λ p. refused (payload_above p))
      (λ p. less 63 (length m.dependencies / 32) (λ d. refused (dependencies_above d))
      (λ d. less 1 m.mark (λ k. refused (other_mark k))
      (λ k. less room (length (item_bytes m)) (λ h. refused (too_short h))
      (λ h. done (record { full = full_says m e; payload_limit_lem = p; count_limit_lem = d; mark_0_or_1 = k }) h)))))
      (λ e. refused (not_full (λ f. not_both_ways (is_full m) (full_passes m f) e)))

-- A refusal is given only where its line holds.
pub refused_line : (m : Message) (room : ℕ) (r : Refusal) → writing_of m room ≡ Err r → Line m room r
refused_line m room r e = of (subst (Known m room) e (known m room))
  where
    of : {r : Refusal} → Known m room (Err r) → Line m room r
    of (refused l) = l

-- What is known of a message that was written.
pub record Wrote (m : Message) (room n : ℕ) : Type 0 where
  pub layable : Layable m
  pub size : n ≡ length (item_bytes m)
  pub fits : n ≤ room

-- What is written is as it has to be.
pub done_wrote : (m : Message) (room n : ℕ) → writing_of m room ≡ Ok n → Wrote m room n
done_wrote m room n e = of (subst (Known m room) e (known m room))
  where
    of : {n : ℕ} → Known m room (Ok n) → Wrote m room n
    of (done l h) = record { layable = l; size = refl; fits = h }

-- What is as it has to be, and has room, is written.
pub wrote_done : (m : Message) (room : ℕ) → Layable m → length (item_bytes m) ≤ room → writing_of m room ≡ Ok (length (item_bytes m))
unfolding writing_of
wrote_done m room l h =
    rw (
      full_passes m l.full,
      le-ltb 4096 (length m.payload) l.payload_limit_lem,
      le-ltb 63 (length m.dependencies / 32) l.count_limit_lem,
      le-ltb 1 m.mark l.mark_0_or_1,
      le-ltb room (length (item_bytes m)) h,
    )
