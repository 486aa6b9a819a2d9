-- What an answer of `layout_of` says of the bytes: sound exactly when they are an item of kind 3, with one number of entries.
-- Assumes nothing.
use Rattle.std.specs.Prelude.{Ok, Err}
use Prim.Native.Nat.{ℕ, ◌+◌, ◌*◌, ◌≤◌}
use native.Mathlib.Nat.{add-zero}
use native.Mathlib.Omega.{arith}
use mathlib.Core.Path.{◌≡◌, refl, sym, ap, ◌∙◌}
use mathlib.Core.Logic.{◌↔◌}
use mathlib.Core.List.{List, ◌++◌}
use lib.ListN.{length, take, drop, length-append, length-drop, take-append-drop}
use lib.Seq.{drop-drop, drop_at, length-take-le}
use Rattle.answers.specs.declared.Refusal.{Refusal}
use Rattle.item.specs.Little.{le16, le32}
use Rattle.item.specs.Layout.{length_of}
use Rattle.item.proofs.Numbers.{le16_there, le32_there}
use Rattle.kind3.specs.Layout.{count_of, layout_of}
use Rattle.kind3.specs.Laid.{IsStandingItem}
use Rattle.kind3.proofs.Verdict.{Passed, sound_passed, passed_sound}

-- The rest of a list from a place on is its next `n` entries and the rest after them.
cut : (a n b : ℕ) (s : List ℕ) → a + n ≡ b → drop a s ≡ take n (drop a s) ++ drop b s
cut a n b s e = sym (take-append-drop n (drop a s)) ∙ ap (λ (l : List ℕ). take n (drop a s) ++ l) (drop-drop n a s ∙ ap (λ (k : ℕ). drop k s) e)

-- The same, going on from the rest.
next : (a n b : ℕ) (s : List ℕ) {r : List ℕ} → a + n ≡ b → drop b s ≡ r → drop a s ≡ take n (drop a s) ++ r
next a n b s e f = cut a n b s e ∙ ap (λ (l : List ℕ). take n (drop a s) ++ l) f

-- A part of a list that is long enough is as long as asked.
part_length : (a n : ℕ) (s : List ℕ) → a + n ≤ length s → length (take n (drop a s)) ≡ n
part_length a n s h = length-take-le n (drop a s) (rw length-drop (omega arith))

-- The number of a part of two bytes, and of a part of four.
le16_part : (a : ℕ) (s : List ℕ) → a + 2 ≤ length s → le16 (take 2 (drop a s)) 0 ≡ le16 s a
le16_part a s h =
    sym (le16_there a s (take 2 (drop a s)) (drop (a + 2) s) (cut a 2 (a + 2) s refl) 0 (omega (arith, part_length a 2 s h)))
    ∙ ap (le16 s) (add-zero a)

le32_part : (a : ℕ) (s : List ℕ) → a + 4 ≤ length s → le32 (take 4 (drop a s)) 0 ≡ le32 s a
le32_part a s h =
    sym (le32_there a s (take 4 (drop a s)) (drop (a + 4) s) (cut a 4 (a + 4) s refl) 0 (omega (arith, part_length a 4 s h)))
    ∙ ap (le32 s) (add-zero a)

-- What has passed the tests is its fields laid one after the other.
laid_out : (s : List ℕ) (n : ℕ) → Passed s n → IsStandingItem s n
laid_out s n p =
    let f = p.full in
    record {
      len = take 4 s;
      kind = take 2 (drop 4 s);
      count = take 2 (drop 6 s);
      entries = drop 8 s;
      laid = next 0 4 4 s refl (next 4 2 6 s refl (next 6 2 8 s refl refl));
      len_4 = part_length 0 4 s (omega arith);
      kind_2 = part_length 4 2 s (omega arith);
      count_2 = part_length 6 2 s (omega arith);
      entries_130_each = rw length-drop (let e = p.count in omega arith);
      len_says = p.whole ∙ ap (λ (k : ℕ). 4 + k) (sym (le32_part 0 s (omega arith)));
      kind_says = le16_part 4 s (omega arith) ∙ p.kind_3;
      count_says = le16_part 6 s (omega arith) ∙ sym p.count;
      count_limit_lem = rw p.count p.count_limit_lem;
    }

-- After a part of `n` entries comes what is laid after it.
after : (a n b : ℕ) (s p q : List ℕ) → drop a s ≡ p ++ q → length p ≡ n → a + n ≡ b → drop b s ≡ q
after a n b s p q e h g = ap (λ (k : ℕ). drop k s) (sym g) ∙ sym (drop-drop n a s) ∙ ap (drop n) e ∙ drop_at p q n h

-- What is laid as an item has passed the tests.
module _ {s : List ℕ} {n : ℕ} (i : IsStandingItem s n) where
  at_kind_lem : drop 4 s ≡ i.kind ++ (i.count ++ i.entries)
  at_kind_lem = after 0 4 4 s i.len _ i.laid i.len_4 refl

  at_count_lem : drop 6 s ≡ i.count ++ i.entries
  at_count_lem = after 4 2 6 s i.kind _ at_kind_lem i.kind_2 refl

  -- The entries stand from place 8 on.
  pub at_entries_lem : drop 8 s ≡ i.entries
  at_entries_lem = after 6 2 8 s i.count _ at_count_lem i.count_2 refl

  -- How long the item is.
  pub item_length : length s ≡ 8 + 130 * n
  item_length = omega (arith, simp length-append at (ap length i.laid), i.len_4, i.kind_2, i.count_2, i.entries_130_each)

  item_count : count_of s ≡ n
  item_count = le16_there 6 s i.count _ at_count_lem 0 (omega (arith, i.count_2)) ∙ i.count_says

  pub item_passed : Passed s n
  item_passed =
      record {
        whole = i.len_says ∙ ap (λ (k : ℕ). 4 + k) (sym (le32_there 0 s i.len _ i.laid 0 (omega (arith, i.len_4))));
        kind_3 = le16_there 4 s i.kind _ at_kind_lem 0 (omega (arith, i.kind_2)) ∙ i.kind_says;
        count_limit_lem = rw item_count i.count_limit_lem;
        full = rw item_count item_length;
        count = sym item_count;
      }

-- Sound exactly when the bytes are an item of kind 3.
pub sound_exactly : (s : List ℕ) (n : ℕ) → (layout_of s ≡ Ok n) ↔ IsStandingItem s n
sound_exactly s n = (λ e. laid_out s n (sound_passed s n e), λ i. passed_sound s n (item_passed i))

-- What is refused is no item of kind 3.
pub refused_never : (s : List ℕ) (r : Refusal) (n : ℕ) → layout_of s ≡ Err r → IsStandingItem s n → ⊥
refused_never s r n e i =
    let p = passed_sound s n (item_passed i) in
    let z : ◌≡◌ {A = ℕ} 0 1 = cc in
    omega arith

-- The number of entries is determined by the bytes.
pub one_reading : (s : List ℕ) (n m : ℕ) → IsStandingItem s n → IsStandingItem s m → n ≡ m
one_reading s n m i j = (item_passed i).count ∙ sym (item_passed j).count

-- "At most 64 entries of 130 bytes, so the length limit for this kind is 8,324": no item is longer,
pub length_limit_lem : (s : List ℕ) (n : ℕ) → IsStandingItem s n → length_of s ≤ 8324
length_limit_lem s n i = let p = item_passed i in let a = p.whole in let b = p.full in let c = p.count_limit_lem in omega arith

-- and one with 64 entries is just as long.
pub longest_item : (s : List ℕ) → IsStandingItem s 64 → length_of s ≡ 8324
longest_item s i = let p = item_passed i in let a = p.whole in let b = p.full in let c = p.count in omega arith
