-- Texts that are put one behind the other at the front of a buffer, and the decimal digits of a number: how many, and which.
-- Assumes nothing.
use Prim.Native.Nat.{ℕ, zero, suc, ◌+◌, ◌/◌, ◌%◌, ◌^◌, ◌≤◌, ◌<◌}
use mathlib.Core.Path.{◌≡◌, refl, sym, ap, ◌∙◌}
use mathlib.Core.List.{List, [], ◌∷◌, ◌++◌, append_assoc}
use native.Mathlib.Omega.{arith}
use native.Mathlib.Nat.{le_trans, lt_of_lt_of_le, lt_irrefl, pow-le-pow_right, zero-lt-suc}
use native.Mathlib.Numerals.{add-one}
use borrow.Author.Tests.{le-leb}
use lib.ListN.{length, take, drop, length-append}
use lib.Seq.{paste, length-paste, take_all, take-append-le, drop_at}
use Rattle.lines.specs.Digits.{last_digits, hex_digit_ascii, IsDigitCount}
use Rattle.basics.proofs.Tests.{by_ltb}
use Rattle.basics.proofs.Prefixes.{paste_more}
use Rattle.lines.specs.Line.{Put, PutDecimal, PutNumber, Decimal, Begins, Spells}

-- So many digits are so many.
length_digits : (k n : ℕ) → length (last_digits 10 k n) ≡ k
length_digits zero n = refl
length_digits (suc k) n =
    length-append (last_digits 10 k (n / 10)) (hex_digit_ascii (n % 10) ∷ []) ∙ ap (λ (i : ℕ). i + 1) (length_digits k (n / 10)) ∙ add-one k

-- A number below a power of ten takes no more digits than that.
fewest_within : (m n k : ℕ) → 1 ≤ m → n < 10 ^ m → IsDigitCount 10 1 n k → k ≤ m
fewest_within m n k h l f =
    by_ltb (λ _. k ≤ m) m k
    (λ g.
    let p : 10 ^ m ≤ n = le_trans (pow-le-pow_right (zero-lt-suc 9) (omega arith)) (f.2 (omega arith)) in
    absurd (lt_irrefl n (lt_of_lt_of_le l p)))
    (λ g. g)

-- Two texts of one number in decimal digits are one.
pub one_decimal : (n : ℕ) (s t : List ℕ) → Decimal n s → Decimal n t → s ≡ t
one_decimal n s t p q =
    let h = fewest_within q.places n p.places q.fewest.0 q.fewest.1 p.fewest in
    let k = fewest_within p.places n q.places p.fewest.0 p.fewest.1 q.fewest in
    let e : p.places ≡ q.places = omega (arith, h, k) in
    p.spelled ∙ ap (λ (i : ℕ). last_digits 10 i n) e ∙ sym q.spelled

-- The text of a number below a power of ten is no longer than that.
pub decimal_short : (m n : ℕ) (text : List ℕ) → 1 ≤ m → n < 10 ^ m → Decimal n text → length text ≤ m
decimal_short m n text h l p = rw (p.spelled, length_digits p.places n) (fewest_within m n p.places h l p.fewest)

-- Nothing stands at the front yet.
pub begins_empty : (out : List ℕ) → Begins out [] out 0
begins_empty out = record { content = refl; count = refl; fits = omega arith }

-- A text that is put behind what stands at the front stands there, too.
pub begins_more : (out s o : List ℕ) (u : ℕ) (t o' : List ℕ) (u' : ℕ) → Begins out s o u → Put o u t o' u' → length s + length t ≤ length out
    → Begins out (s ++ t) o' u'
begins_more out s o u t o' u' b p h =
    let n : length (s ++ t) ≡ length s + length t = length-append s t in
    let a : length o ≡ length out = ap length b.content ∙ length-paste out 0 s (length s) (omega arith) (omega arith) in
    let l = le-leb (u + length t) (length o) (omega (arith, b.count, a)) in
    let e : o ≡ paste out 0 (s ++ t) (length s) =
    b.content ∙ ap (λ (x : List ℕ). x ++ drop (0 + length s) out) (sym (take-append-le (length s) s t (omega arith))) in
    let f : o' ≡ paste o (length s) t (length t) = (rw l at p.content) ∙ ap (λ (i : ℕ). paste o i t (length t)) b.count in
    let g : take (length t) (drop (length s) (s ++ t)) ≡ t = ap (take (length t)) (drop_at s t (length s) refl) ∙ take_all (length t) t (omega arith) in
    let w = paste_more out (s ++ t) (length s) t o o' e f g (omega (arith, n)) (omega (arith, n)) in
    record {
      content = w ∙ ap (paste out 0 (s ++ t)) (sym n);
      count = (rw l at p.grown) ∙ ap (λ (i : ℕ). i + length t) b.count ∙ sym n;
      fits = omega (arith, n);
    }

-- A number stands behind `s` and a gap, in no more than `m` digits.
pub record Said (n m : ℕ) (out s gap o : List ℕ) (u : ℕ) : Type 0 where
  pub word : List ℕ
  pub said : Decimal n word
  pub begins : Begins out (s ++ (gap ++ word)) o u
  pub short : length (s ++ (gap ++ word)) ≤ length s + (length gap + m)

-- So many bytes behind the others.
longer : (s gap word : List ℕ) (m : ℕ) → length word ≤ m → length (s ++ (gap ++ word)) ≤ length s + (length gap + m)
longer s gap word m h = omega (arith, length-append s (gap ++ word), length-append gap word)

-- The decimal digits of a number below a power of ten, behind what stands at the front,
pub decimal_said : (m n : ℕ) (out s o : List ℕ) (u : ℕ) (o' : List ℕ) (u' : ℕ) → 1 ≤ m → n < 10 ^ m → Begins out s o u → PutDecimal o u n o' u'
    → length s + m ≤ length out → Said n m out s [] o' u'
decimal_said m n out s o u o' u' h l b p k =
    let w = last_digits 10 p.places n in
    let d : Decimal n w = record { places = p.places; fewest = p.fewest; spelled = refl } in
    let e = decimal_short m n w h l d in
    record { word = w; said = d; begins = begins_more out s o u w o' u' b p.put (omega (arith, e)); short = longer s [] w m e }

-- and behind a space.
pub number_said : (m n : ℕ) (out s o : List ℕ) (u : ℕ) (o' : List ℕ) (u' : ℕ) → 1 ≤ m → n < 10 ^ m → Begins out s o u → PutNumber o u n o' u'
    → length s + (1 + m) ≤ length out → Said n m out s (32 ∷ []) o' u'
number_said m n out s o u o' u' h l b p k =
    let a = length-append s (32 ∷ []) in
    let c = begins_more out s o u (32 ∷ []) p.middle p.behind b p.space (omega arith) in
    let d = decimal_said m n out (s ++ (32 ∷ [])) p.middle p.behind o' u' h l c p.number (omega (arith, a)) in
    record {
      word = d.word;
      said = d.said;
      begins = rw (append_assoc s (32 ∷ []) d.word) at d.begins;
      short = longer s (32 ∷ []) d.word m (decimal_short m n d.word h l d.said);
    }

-- Where there is one text of which `L` holds, the buffer holds one content afterwards, and as many bytes of it are used.
pub one_spelling : (L : List ℕ → Type 0) → ((s t : List ℕ) → L s → L t → s ≡ t) → (out o : List ℕ) (u : ℕ) (p : List ℕ) (v : ℕ) → Spells L out o u
    → Spells L out p v → (o ≡ p) × (u ≡ v)
one_spelling L one out o u p v x y =
    let e = one x.text y.text x.said y.said in
    let a : paste out 0 x.text (length x.text) ≡ paste out 0 y.text (length y.text) = ap (λ (s : List ℕ). paste out 0 s (length s)) e in
    (x.begins.content ∙ a ∙ sym y.begins.content, x.begins.count ∙ ap length e ∙ sym y.begins.count)
