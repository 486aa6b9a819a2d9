-- What each answer of the writing says: the tests that led there, as plain facts.
-- Assumes nothing.
use Rattle.std.specs.Prelude.{Ok, Err}
use Prim.Native.Nat.{ℕ, ◌+◌, ◌/◌, ◌%◌, ◌≤◌, ◌<◌}
use native.Mathlib.Nat.{zero-add}
use native.Mathlib.Omega.{arith}
use mathlib.Core.Path.{◌≡◌, refl, sym, ap, ◌∙◌}
use mathlib.Core.Bool.{Bool, true, false}
use mathlib.Core.List.{List, ◌++◌}
use lib.Dec.{eqb}
use lib.ListN.{length, drop}
use lib.Seq.{take-length}
use borrow.Author.Tests.{lt-ltb, le-ltb, eqb-true}
use Rattle.basics.proofs.Tests.{both_left, both_right}
use Rattle.answers.specs.declared.Refusal.TheVariants.{Short, Size, Flag, Room}
use Rattle.writing.specs.Message.{Message, item_bytes}
use Rattle.writing.specs.Laying.{laid_at, MayLay}
use Rattle.writing.specs.Writing.{full_lengths, writing_of, buffer_after, WritesItem}
use Rattle.writing.specs.Lines.{Full}
use Rattle.writing.proofs.Items.{item_length}

-- Bytes laid at the start, and what stands behind them.
laid_front : (out s : List ℕ) → laid_at out 0 s ≡ s ++ drop (length s) out
laid_front out s = ap (λ (l : List ℕ). l ++ drop (0 + length s) out) (take-length s) ∙ ap (λ (i : ℕ). s ++ drop i out) (zero-add (length s))

-- Whether each field of a message is of its full length.
abbrev pub is_full : Message → Bool
is_full m = full_lengths m.key m.previous m.dependencies m.signature

-- What the test of the lengths says.
pub full_says : (m : Message) → is_full m ≡ true → Full m
full_says m e =
    let f = both_right (eqb (length m.key) 32) _ e in
    let g = both_right (eqb (length m.previous) 32) _ f in
    record {
      key_full = eqb-true _ _ (both_left (eqb (length m.key) 32) _ e);
      previous_full = eqb-true _ _ (both_left (eqb (length m.previous) 32) _ f);
      dependencies_full = eqb-true _ _ (both_left (eqb (length m.dependencies % 32) 0) _ g);
      signature_full = eqb-true _ _ (both_right (eqb (length m.dependencies % 32) 0) _ g);
    }

module _ (m : Message) (out : List ℕ) where
  -- A field or dependency id not of its full length.
  pub refused_short : is_full m ≡ false → WritesItem m out out (Err Short)
  unfolding writing_of buffer_after
  refused_short e = record { answer = rw e; buffer = refl }

  module _ (e : is_full m ≡ true) where
    -- A payload above the limit.
    pub refused_payload : 4096 < length m.payload → WritesItem m out out (Err Size)
    unfolding writing_of buffer_after
    refused_payload p = record { answer = rw (e, lt-ltb 4096 (length m.payload) p); buffer = refl }

    module _ (p : length m.payload ≤ 4096) where
      -- Dependencies above the limit.
      pub refused_count : 63 < length m.dependencies / 32 → WritesItem m out out (Err Size)
      unfolding writing_of buffer_after
      refused_count d =
          record {
            answer = rw (e, le-ltb 4096 (length m.payload) p, lt-ltb 63 (length m.dependencies / 32) d);
            buffer = refl;
          }

      module _ (d : length m.dependencies / 32 ≤ 63) where
        -- A mark that is neither 0 nor 1.
        pub refused_mark : 1 < m.mark → WritesItem m out out (Err Flag)
        unfolding writing_of buffer_after
        refused_mark k =
            record {
              answer = rw (e, le-ltb 4096 (length m.payload) p, le-ltb 63 (length m.dependencies / 32) d, lt-ltb 1 m.mark k);
              buffer = refl;
            }

        module _ (k : m.mark ≤ 1) where
          -- The item's length, by the lengths of payload and dependencies.
          size_says : length (item_bytes m) ≡ 145 + length m.payload + length m.dependencies
          size_says = let f = full_says m e in item_length m f.key_full f.previous_full f.signature_full

          -- What laying the item asks.
          pub may_lay : 145 + length m.payload + length m.dependencies ≤ length out → MayLay m out
          may_lay h =
              let f = full_says m e in
              record { key_32 = f.key_full; previous_32 = f.previous_full; signature_64 = f.signature_full; room = h }

          -- Too little room.
          pub refused_room : length out < 145 + length m.payload + length m.dependencies → WritesItem m out out (Err Room)
          unfolding writing_of buffer_after
          refused_room h =
              record {
                answer =
                    rw (
                      e,
                      le-ltb 4096 (length m.payload) p,
                      le-ltb 63 (length m.dependencies / 32) d,
                      le-ltb 1 m.mark k,
                      lt-ltb (length out) (length (item_bytes m)) (omega (arith, size_says)),
                    );
                buffer = refl;
              }

          -- The item laid at the start of the buffer is written.
          pub written_done : (out' : List ℕ) (n : ℕ) → n ≡ 145 + length m.payload + length m.dependencies → n ≤ length out
              → out' ≡ laid_at out 0 (item_bytes m) → WritesItem m out out' (Ok n)
          unfolding writing_of buffer_after
          written_done out' n s h w =
              let z : n ≡ length (item_bytes m) = s ∙ sym size_says in
              record {
                answer =
                    rw (
                      e,
                      le-ltb 4096 (length m.payload) p,
                      le-ltb 63 (length m.dependencies / 32) d,
                      le-ltb 1 m.mark k,
                      le-ltb (length out) (length (item_bytes m)) (omega (arith, z)),
                    )
                    (ap Ok z);
                buffer = w ∙ laid_front out (item_bytes m) ∙ ap (λ (i : ℕ). item_bytes m ++ drop i out) (sym z);
              }
