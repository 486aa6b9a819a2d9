-- The number of a byte list: the order of lists of one length is the order of their numbers, and the number says the list.
-- Assumes nothing.
use Prim.Native.Nat.{ℕ, zero, suc, ◌+◌, ◌*◌, ◌^◌, ◌≤◌, ◌<◌}
use mathlib.Core.Path.{◌≡◌, refl, sym, ◌∙◌}
use mathlib.Core.List.{List, [], ◌∷◌}
use mathlib.Core.Logic.{◌≢◌}
use native.Mathlib.Omega.{arith}
use native.Mathlib.Nat.{mul-le-mul_right, suc-mul, pow-suc, le_antisymm, le_of_lt}
use lib.ListN.{length}
use lib.Dec.{ltb}
use borrow.Author.Tests.{lt-ltb, le-ltb}
use Rattle.basics.specs.Pick.{pick}
use Rattle.basics.proofs.Tests.{by_eqb, by_ltb}
use Rattle.basics.specs.Bytes.{Bytes}
use Rattle.chunks.specs.Bytes.{comes_before, id_num}

-- The rest of a byte list is a byte list.
bytes_rest : (x : ℕ) (xs : List ℕ) → Bytes (x ∷ xs) → Bytes xs
bytes_rest x xs b i = b (suc i)

-- A higher first digit outweighs the rest.
outweighs : (x y p m n : ℕ) → x < y → m < p → x * p + m < y * p + n
outweighs x y p m n h l =
    let k : suc x * p ≤ y * p = mul-le-mul_right p h in
    let e : suc x * p ≡ x * p + p = suc-mul x p in
    omega arith

-- The number of n bytes is below 256 to the n.
pub number_below : (s : List ℕ) → Bytes s → id_num s < 256 ^ length s
unfolding id_num
number_below [] b = omega arith
number_below (x ∷ s) b =
    let h : id_num s < 256 ^ length s = number_below s (bytes_rest x s b) in
    let k : x < 256 = b zero in
    let q : x * 256 ^ length s + id_num s < 256 * 256 ^ length s + 0 = outweighs x 256 (256 ^ length s) (id_num s) 0 k h in
    let e : 256 ^ suc (length s) ≡ 256 ^ length s * 256 = pow-suc 256 (length s) in
    omega arith

-- The order does not see what is added on both sides.
ltb_add : (k m n : ℕ) → ltb m n ≡ ltb (k + m) (k + n)
ltb_add k m n =
    by_ltb (λ t. t ≡ ltb (k + m) (k + n)) m n
    (λ h. sym (lt-ltb (k + m) (k + n) (omega arith)))
    (λ h. sym (le-ltb (k + m) (k + n) (omega arith)))

-- First digits that differ decide the order of two numbers.
digit_order : (x y p m n : ℕ) → x ≢ y → m < p → n < p → ltb x y ≡ ltb (x * p + m) (y * p + n)
digit_order x y p m n d h k =
    by_ltb (λ t. t ≡ ltb (x * p + m) (y * p + n)) x y
    (λ l. sym (lt-ltb (x * p + m) (y * p + n) (outweighs x y p m n l h)))
    (λ l.
    let f : y < x = omega arith in
    sym (le-ltb (x * p + m) (y * p + n) (le_of_lt (outweighs y x p n m f k))))

-- Numbers that are equal have equal first digits.
digit_same : (x y p m n : ℕ) → m < p → n < p → x * p + m ≡ y * p + n → x ≡ y
digit_same x y p m n h k e =
    le_antisymm
    (by_ltb (λ _. x ≤ y) y x (λ l. absurd (omega (arith, outweighs y x p n m l k))) (λ l. l))
    (by_ltb (λ _. y ≤ x) x y (λ l. absurd (omega (arith, outweighs x y p m n l h))) (λ l. l))

-- Which of two byte lists of one length comes first, their numbers say.
pub number_order : (a b : List ℕ) → length a ≡ length b → Bytes a → Bytes b → comes_before a b ≡ ltb (id_num a) (id_num b)
unfolding comes_before id_num
number_order [] [] e p q = refl
number_order [] (y ∷ b) e p q = let z : ◌≡◌ {A = ℕ} 0 1 = cc in absurd (omega arith)
number_order (x ∷ a) [] e p q = let z : ◌≡◌ {A = ℕ} 0 1 = cc in absurd (omega arith)
number_order (x ∷ a) (y ∷ b) e p q =
    let l : length a ≡ length b = omega arith in
    let h : id_num a < 256 ^ length a = number_below a (bytes_rest x a p) in
    let k : id_num b < 256 ^ length b = number_below b (bytes_rest y b q) in
    by_eqb (λ t. pick t (comes_before a b) (ltb x y) ≡ ltb (x * 256 ^ length a + id_num a) (y * 256 ^ length b + id_num b)) x y
    (λ f. rw (f, ← l) (number_order a b l (bytes_rest x a p) (bytes_rest y b q) ∙ ltb_add (y * 256 ^ length a) (id_num a) (id_num b)))
    (λ n. rw (← l) (digit_order x y (256 ^ length a) (id_num a) (id_num b) n h (rw (← l) at k)))

-- Byte lists of one length with one number are equal.
pub number_says : (a b : List ℕ) → length a ≡ length b → Bytes a → Bytes b → id_num a ≡ id_num b → a ≡ b
unfolding id_num
number_says [] [] l p q e = refl
number_says [] (y ∷ b) l p q e = let z : ◌≡◌ {A = ℕ} 0 1 = cc in absurd (omega arith)
number_says (x ∷ a) [] l p q e = let z : ◌≡◌ {A = ℕ} 0 1 = cc in absurd (omega arith)
number_says (x ∷ a) (y ∷ b) l p q e =
    let m : length a ≡ length b = omega arith in
    let h : id_num a < 256 ^ length a = number_below a (bytes_rest x a p) in
    let k : id_num b < 256 ^ length a = rw m (number_below b (bytes_rest y b q)) in
    let f : x * 256 ^ length a + id_num a ≡ y * 256 ^ length a + id_num b = rw (← m) at e in
    let d : x ≡ y = digit_same x y (256 ^ length a) (id_num a) (id_num b) h k f in
    let g : y * 256 ^ length a + id_num a ≡ y * 256 ^ length a + id_num b = rw d at f in
    let r : a ≡ b = number_says a b m (bytes_rest x a p) (bytes_rest y b q) (omega arith) in
    cc
