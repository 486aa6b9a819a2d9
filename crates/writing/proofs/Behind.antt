-- Bytes laid in a buffer one after the other are laid as one.
-- Assumes nothing.
use Prim.Native.Nat.{ℕ, ◌+◌, ◌/◌, ◌%◌, ◌≤◌, ◌<◌}
use native.Mathlib.Nat.{le_refl}
use native.Mathlib.Numerals.{add-one}
use native.Mathlib.Omega.{arith}
use mathlib.Core.Path.{◌≡◌, refl, sym, ap, ◌∙◌}
use mathlib.Core.List.{List, [], ◌∷◌, ◌++◌, append_assoc}
use lib.ListN.{length, take, drop, set, length-append}
use lib.Seq.{sets-eq, take-length, take-paste, length-paste}
use Rattle.basics.proofs.Prefixes.{after_paste}
use Rattle.writing.specs.Bytes.{bytes16, bytes32}
use Rattle.writing.specs.Laying.{laid_at}

-- One byte stored.
pub laid_byte : (out : List ℕ) (at v : ℕ) → at < length out → set out at v ≡ laid_at out at (v ∷ [])
laid_byte out at v h = sets-eq (v ∷ []) out at (omega arith)

-- Two bytes stored are a number of two bytes.
pub laid_16 : (out : List ℕ) (at n : ℕ) → at + 2 ≤ length out → set (set out at (n % 256)) (at + 1) (n / 256 % 256) ≡ laid_at out at (bytes16 n)
unfolding bytes16
laid_16 out at n h = rw add-one (sets-eq (n % 256 ∷ n / 256 % 256 ∷ []) out at h)

-- A number in two bytes has two.
pub length_16 : (n : ℕ) → length (bytes16 n) ≡ 2
unfolding bytes16
length_16 n = refl

-- A number in four bytes has four.
pub length_32 : (n : ℕ) → length (bytes32 n) ≡ 4
unfolding bytes16 bytes32
length_32 n = refl

-- What is laid inside a buffer leaves its length.
pub length_laid : (d : List ℕ) (at : ℕ) (s : List ℕ) → at + length s ≤ length d → length (laid_at d at s) ≡ length d
length_laid d at s h = length-paste d at s (length s) h (le_refl (length s))

-- Bytes laid behind others.
pub laid_two : (d : List ℕ) (at : ℕ) (s : List ℕ) (b : ℕ) (t u v : List ℕ) → u ≡ laid_at d at s → v ≡ laid_at u b t → at + length s ≡ b
    → b ≤ length d → v ≡ laid_at d at (s ++ t)
laid_two d at s b t u v e f g h =
    f
    ∙ ap (λ (l : List ℕ). l ++ take (length t) t ++ drop (b + length t) u) front
    ∙ ap (λ (l : List ℕ). take at d ++ s ++ l ++ drop (b + length t) u) (take-length t)
    ∙ ap (λ (l : List ℕ). take at d ++ s ++ t ++ l) back
    ∙ ap (λ (l : List ℕ). l ++ drop (b + length t) d) (append_assoc (take at d) s t)
    ∙ ap (λ (k : ℕ). take at d ++ (s ++ t) ++ drop k d) ends
    ∙ ap (λ (l : List ℕ). take at d ++ l ++ drop (at + length (s ++ t)) d) (sym (take-length (s ++ t)))
  where
    front : take b u ≡ take at d ++ s
    front =
        ap (take b) e
        ∙ ap (λ (k : ℕ). take k (laid_at d at s)) (sym g)
        ∙ take-paste d at s (length s) (omega arith) (le_refl (length s))
        ∙ ap (λ (l : List ℕ). take at d ++ l) (take-length s)

    back : drop (b + length t) u ≡ drop (b + length t) d
    back = ap (drop (b + length t)) e ∙ after_paste d at s (length s) (b + length t) (omega arith) (le_refl (length s)) (omega arith)

    ends : b + length t ≡ at + length (s ++ t)
    ends = omega (arith, length-append s t)

-- Three stretches of bytes, one behind the other.
pub laid_three : (d : List ℕ) (at : ℕ) (s : List ℕ) (b : ℕ) (t : List ℕ) (c : ℕ) (w u v x : List ℕ)
    → u ≡ laid_at d at s → v ≡ laid_at u b t → x ≡ laid_at v c w → at + length s ≡ b → b + length t ≡ c → c ≤ length d
    → x ≡ laid_at d at (s ++ (t ++ w))
laid_three d at s b t c w u v x e f g i j h = laid_two d at s b (t ++ w) u x e (laid_two u b t c w v x f g j (omega (arith, long))) i (omega arith)
  where
    long : length u ≡ length d
    long = ap length e ∙ length_laid d at s (omega arith)
