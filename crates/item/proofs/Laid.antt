-- What has passed the tests is its fields laid one after the other.
-- Assumes nothing.
use Rattle.std.specs.Prelude.{Ok}
use Prim.Native.Nat.{ℕ, ◌+◌, ◌*◌, ◌≤◌}
use native.Mathlib.Nat.{add-zero}
use native.Mathlib.Omega.{arith}
use mathlib.Core.Path.{◌≡◌, refl, sym, ap, ◌∙◌, subst}
use mathlib.Core.List.{List, ◌∷◌, ◌++◌}
use lib.ListN.{length, get_or, take, drop, length-drop, take-append-drop}
use lib.Seq.{drop-drop, drop-cons, length-take-le}
use Rattle.item.specs.declared.Fields.{Fields}
use Rattle.item.specs.Little.{le16, le32}
use Rattle.item.specs.Layout.{length_of, kind_of, payload_size, count_after, fields_with, layout_of}
use Rattle.item.specs.Laid.{IsItem}
use Rattle.item.proofs.Numbers.{le16_there, le32_there}
use Rattle.item.proofs.Verdict.{sound_passed}

-- The rest of a list from a place on is its next `n` entries and the rest after them.
cut : (a n b : ℕ) (s : List ℕ) → a + n ≡ b → drop a s ≡ take n (drop a s) ++ drop b s
cut a n b s e = sym (take-append-drop n (drop a s)) ∙ ap (λ (l : List ℕ). take n (drop a s) ++ l) (drop-drop n a s ∙ ap (λ (k : ℕ). drop k s) e)

-- The same, going on from the rest.
next : (a n b : ℕ) (s : List ℕ) {r : List ℕ} → a + n ≡ b → drop b s ≡ r → drop a s ≡ take n (drop a s) ++ r
next a n b s e f = cut a n b s e ∙ ap (λ (l : List ℕ). take n (drop a s) ++ l) f

-- A part of a list that is long enough is as long as asked.
part_length : (a n : ℕ) (s : List ℕ) → a + n ≤ length s → length (take n (drop a s)) ≡ n
part_length a n s h = length-take-le n (drop a s) (rw length-drop (omega arith))

-- The number of a part of two bytes.
le16_part : (a : ℕ) (s : List ℕ) → a + 2 ≤ length s → le16 (take 2 (drop a s)) 0 ≡ le16 s a
le16_part a s h =
    sym (le16_there a s (take 2 (drop a s)) (drop (a + 2) s) (cut a 2 (a + 2) s refl) 0 (omega (arith, part_length a 2 s h)))
    ∙ ap (le16 s) (add-zero a)

-- The number of a part of four bytes.
le32_part : (a : ℕ) (s : List ℕ) → a + 4 ≤ length s → le32 (take 4 (drop a s)) 0 ≡ le32 s a
le32_part a s h =
    sym (le32_there a s (take 4 (drop a s)) (drop (a + 4) s) (cut a 4 (a + 4) s refl) 0 (omega (arith, part_length a 4 s h)))
    ∙ ap (le32 s) (add-zero a)

-- What passed all tests is laid as the document writes it, with a payload of `p` bytes and `d` dependencies.
laid_out : (p d : ℕ) (s : List ℕ) → length s ≡ 4 + length_of s → kind_of s ≡ 1 → p ≤ 4096 → d ≤ 63 → length s ≡ 145 + p + 32 * d
    → p ≡ payload_size s → d ≡ count_after p s → IsItem s (fields_with p d s)
laid_out p d s w k u v h e g =
    record {
      len = take 4 s;
      kind = take 2 (drop 4 s);
      key = take 32 (drop 7 s);
      previous = take 32 (drop 39 s);
      index = take 4 (drop 71 s);
      size = take 4 (drop 75 s);
      payload = take p (drop 79 s);
      count = take 2 (drop (79 + p) s);
      dependencies = take (32 * d) (drop (81 + p) s);
      signature = drop (81 + p + 32 * d) s;
      laid =
          next 0 4 4 s refl
          (next 4 2 6 s refl
          (drop-cons s 6 0 (omega arith)
          ∙ ap (λ (l : List ℕ). get_or s 6 0 ∷ l)
          (next 7 32 39 s refl
          (next 39 32 71 s refl
          (next 71 4 75 s refl
          (next 75 4 79 s refl
          (next 79 p (79 + p) s refl
          (next (79 + p) 2 (81 + p) s (omega arith)
          (next (81 + p) (32 * d) (81 + p + 32 * d) s refl refl)))))))));
      len_4 = part_length 0 4 s (omega arith);
      kind_2 = part_length 4 2 s (omega arith);
      key_32 = part_length 7 32 s (omega arith);
      previous_32 = part_length 39 32 s (omega arith);
      index_4 = part_length 71 4 s (omega arith);
      size_4 = part_length 75 4 s (omega arith);
      count_2 = part_length (79 + p) 2 s (omega arith);
      dependencies_32_each = part_length (81 + p) (32 * d) s (omega arith);
      signature_64 = rw length-drop (omega arith);
      len_says = w ∙ ap (λ (n : ℕ). 4 + n) (sym (le32_part 0 s (omega arith)));
      kind_says = le16_part 4 s (omega arith) ∙ k;
      index_says = le32_part 71 s (omega arith);
      size_says = le32_part 75 s (omega arith) ∙ sym e ∙ sym (part_length 79 p s (omega arith));
      count_says = le16_part (79 + p) s (omega arith) ∙ sym g;
      payload_limit_lem = rw (part_length 79 p s (omega arith)) u;
      count_limit_lem = v;
      payload_size_lem = sym (part_length 79 p s (omega arith));
      payload_place = refl;
      dependencies_place = rw (part_length 79 p s (omega arith));
    }

-- A sound item is its fields laid one after the other.
pub sound_item : (s : List ℕ) (f : Fields) → layout_of s ≡ Ok f → IsItem s f
sound_item s f e =
    let p = sound_passed s f e in
    subst (IsItem s) (sym p.fields)
    (laid_out (payload_size s) (count_after (payload_size s) s) s p.whole p.kind_1 p.payload_limit_lem p.count_limit_lem p.full refl refl)
