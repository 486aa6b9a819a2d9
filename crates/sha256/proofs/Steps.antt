-- What a loop's step keeps, of each definition that a loop follows: none yet, one more, all; and what stands at each place of one that is made by places.
-- Assumes nothing.
use Rattle.std.proofs.Common.{◌≡◌, ℕ, zero, suc, ◌+◌, ◌-◌, ◌*◌, ◌<◌, ◌≤◌, List, [], ◌∷◌, ◌++◌, length, get_or, take, drop, sym, refl, ap, subst, ◌∙◌, add-zero, add-suc, add-one, arith, length-append, length-drop, drop_of_length-le, get_or-drop, drop-cons, get_or-take, drop-drop, le_of_suc-le-suc}
use lib.Seq.{drop-append-le, take-append-le, take-length, get_or-append_seam}
use lib.ListN.{get_or-append}
use mathlib.Core.Logic.{⊎_elim}
use native.Mathlib.Nat.{eq-or-lt_of_le}
use Rattle.sha256.specs.Sha256.{◌⊞◌, K, word_at, words_at, next_w, W, round_of, rounds, sums, next_hash, padded, H⁽⁰⁾, H⁽ⁱ⁾, M⁽ⁱ⁾}
use Rattle.sha256.proofs.Bytes.{padded_front}

-- The elements of a list one by one, n of them from place i on.
unfoldable pub spelled : List ℕ → ℕ → ℕ → List ℕ
spelled w i zero = []
spelled w i (suc n) = get_or w i 0 ∷ spelled w (suc i) n

-- Spelled to its end it is the list from there on.
spelled_rest : (w : List ℕ) (i n : ℕ) → i + n ≡ length w → spelled w i n ≡ drop i w
unfolding spelled
spelled_rest w i zero h = sym (drop_of_length-le w {i = i} (omega arith))
spelled_rest w i (suc n) h =
    let k : suc i + n ≡ length w = omega arith in
    let j : i < length w = omega arith in
    ap (λ (r : List ℕ). get_or w i 0 ∷ r) (spelled_rest w (suc i) n k) ∙ sym (drop-cons w i 0 j)

-- The words of a block, and one more each.
length_W : (b : List ℕ) (i : ℕ) → length (W b i) ≡ length b + i
unfolding W
length_W b zero = omega arith
length_W b (suc i) = length-append (W b i) (next_w (W b i) i ∷ []) ∙ rw (length_W b i) (omega arith)

-- The oldest word goes, the next one comes.
pub W_one : (w : List ℕ) (x : ℕ) → length w ≡ 16 → x ≡ next_w w 0 → spelled w 1 15 ++ x ∷ [] ≡ drop 1 (W w 1)
unfolding W
W_one w x h e =
    let k : 1 ≤ length w = omega arith in
    let j : 1 + 15 ≡ length w = sym h in
    ap (λ (l : List ℕ). l ++ x ∷ []) (spelled_rest w 1 15 j) ∙ ap (λ (y : ℕ). drop 1 w ++ y ∷ []) e ∙ sym (drop-append-le 1 w (next_w w 0 ∷ []) k)

-- A next word hangs on the last sixteen alone: of a schedule from place t on as of the schedule.
next_of_last : (w : List ℕ) (t j : ℕ) → next_w (drop t w) j ≡ next_w w (t + j)
next_of_last w t j =
    let p : t + (14 + j) ≡ 14 + (t + j) = omega arith in
    let q : t + (9 + j) ≡ 9 + (t + j) = omega arith in
    let r : t + (1 + j) ≡ 1 + (t + j) = omega arith in
    rw (get_or-drop t w (14 + j) 0, get_or-drop t w (9 + j) 0, get_or-drop t w (1 + j) 0, get_or-drop t w j 0, p, q, r)

-- The schedule from place t on is the schedule of the sixteen words that stand there.
W_from : (b : List ℕ) (t j : ℕ) → drop t (W b (t + j)) ≡ W (drop t (W b t)) j
unfolding W
W_from b t zero = rw add-zero refl
W_from b t (suc j) =
    let k : t ≤ length (W b (t + j)) = rw length_W (omega arith) in
    rw add-suc
    (drop-append-le t (W b (t + j)) (next_w (W b (t + j)) (t + j) ∷ []) k
    ∙ ap (λ (y : ℕ). drop t (W b (t + j)) ++ y ∷ []) (sym (next_of_last (W b (t + j)) t j))
    ∙ ap (λ (l : List ℕ). l ++ next_w l j ∷ []) (W_from b t j))

-- The words at place t, then those j places on.
pub W_on : (b w r : List ℕ) (t j : ℕ) → w ≡ drop t (W b t) → r ≡ drop j (W w j) → r ≡ drop (t + j) (W b (t + j))
W_on b w r t j e f =
    f ∙ ap (λ (l : List ℕ). drop j (W l j)) e ∙ ap (drop j) (sym (W_from b t j)) ∙ drop-drop j t (W b (t + j))

-- The words at place 0 are the block.
pub W_none : (b : List ℕ) → b ≡ drop 0 (W b 0)
unfolding W
W_none b = refl

-- A schedule begins with its block.
W_front : (b : List ℕ) (j : ℕ) → take (length b) (W b j) ≡ b
unfolding W
W_front b zero = take-length b
W_front b (suc j) =
    take-append-le (length b) (W b j) (next_w (W b j) j ∷ []) (rw length_W (omega arith)) ∙ W_front b j

-- The sixteen words at place t are those of the whole schedule.
pub W_window : (b w : List ℕ) (t : ℕ) → length b ≡ 16 → t ≤ 48 → w ≡ drop t (W b t) → w ≡ take 16 (drop t (W b 48))
W_window b w t h k e =
    let p : t + (48 - t) ≡ 48 = omega arith in
    let l : length (drop t (W b t)) ≡ 16 = length-drop t (W b t) ∙ rw (length_W b t) (omega arith) in
    let f : take 16 (W (drop t (W b t)) (48 - t)) ≡ drop t (W b t) =
    ap (λ (n : ℕ). take n (W (drop t (W b t)) (48 - t))) (sym l) ∙ W_front (drop t (W b t)) (48 - t) in
    e ∙ sym f ∙ ap (take 16) (sym (W_from b t (48 - t))) ∙ ap (λ (n : ℕ). take 16 (drop t (W b n))) p

-- The words of a block: how many they are,
pub length_words : (s : List ℕ) (at n : ℕ) → length (words_at s at n) ≡ n
unfolding words_at
length_words s at zero = refl
length_words s at (suc n) = simp (length-append, length_words s at n) (add-one n)

-- and which word stands at a place.
pub words_read : (s : List ℕ) (at n i : ℕ) → i < n → get_or (words_at s at n) i 0 ≡ word_at s (at + 4 * i)
unfolding words_at
words_read s at zero i h = absurd (omega arith)
words_read s at (suc n) i h =
    let before = words_at s at n in
    let next = word_at s (at + 4 * n) in
    let last : get_or (before ++ next ∷ []) n 0 ≡ next = ap (λ (k : ℕ). get_or (before ++ next ∷ []) k 0) (sym (length_words s at n)) ∙ get_or-append_seam before next [] 0 in
    ⊎_elim (λ (p : i ≡ n). subst (λ (k : ℕ). get_or (before ++ next ∷ []) k 0 ≡ word_at s (at + 4 * k)) (sym p) last)
    (λ (p : i < n). get_or-append before (next ∷ []) 0 i (rw length_words p) ∙ words_read s at n i p)
    (eq-or-lt_of_le (le_of_suc-le-suc h))

-- The sums: how many they are,
pub length_sums : (h v : List ℕ) → length (sums h v) ≡ 8
unfolding sums
length_sums h v = refl

-- and which stands at a place.
pub sums_read : (h v : List ℕ) (i : ℕ) → i < 8 → get_or (sums h v) i 0 ≡ get_or v i 0 ⊞ get_or h i 0
unfolding sums
sums_read h v zero k = refl
sums_read h v (suc zero) k = refl
sums_read h v (suc (suc zero)) k = refl
sums_read h v (suc (suc (suc zero))) k = refl
sums_read h v (suc (suc (suc (suc zero)))) k = refl
sums_read h v (suc (suc (suc (suc (suc zero))))) k = refl
sums_read h v (suc (suc (suc (suc (suc (suc zero)))))) k = refl
sums_read h v (suc (suc (suc (suc (suc (suc (suc zero))))))) k = refl
sums_read h v (suc (suc (suc (suc (suc (suc (suc (suc i)))))))) k = absurd (omega (arith, k))

-- No turn yet.
pub rounds_none : (w v : List ℕ) → v ≡ rounds w v 0
unfolding rounds
rounds_none w v = refl

-- An element of sixteen that were cut out of a list.
cut_at : (l w : List ℕ) (t i : ℕ) → i < 16 → w ≡ take 16 (drop t l) → get_or w i 0 ≡ get_or l (t + i) 0
cut_at l w t i h e = ap (λ (x : List ℕ). get_or x i 0) e ∙ get_or-take 16 (drop t l) i 0 h ∙ get_or-drop t l i 0

-- One more turn, by constants and words that were cut out at place t.
pub rounds_more : (s h k w : List ℕ) (t : ℕ) → k ≡ take 16 (drop t K) → w ≡ take 16 (drop t s) → (i : ℕ) (v r : List ℕ)
    → i < 16 → v ≡ rounds s h (t + i) → r ≡ round_of v (get_or k i 0) (get_or w i 0) → r ≡ rounds s h (t + (i + 1))
unfolding rounds
rounds_more s h k w t e f i v r j g p =
    let q : t + (i + 1) ≡ suc (t + i) = omega arith in
    rw q (p ∙ rw (g, cut_at K k t i j e, cut_at s w t i j f))

-- The hash value before the first block.
pub H_none : (s : List ℕ) → H⁽⁰⁾ ≡ H⁽ⁱ⁾ s 0
unfolding H⁽ⁱ⁾
H_none s = refl

-- The hash value after one more block.
pub H_more : (s h b r : List ℕ) (i : ℕ) → h ≡ H⁽ⁱ⁾ s i → b ≡ M⁽ⁱ⁾ s i → r ≡ next_hash h b → r ≡ H⁽ⁱ⁾ s (i + 1)
unfolding H⁽ⁱ⁾
H_more s h b r i e f g = rw (add-one i) (g ∙ rw (e, f))

-- A word that lies in the message is a word of the padded message.
word_in_front : (m : List ℕ) (at : ℕ) → at + 4 ≤ length m → word_at (padded m) at ≡ word_at m at
word_in_front m at h =
    rw (
      padded_front m at (omega arith),
      padded_front m (at + 1) (omega arith),
      padded_front m (at + 2) (omega arith),
      padded_front m (at + 3) (omega arith),
    )

-- So are whole blocks.
pub words_in_front : (m : List ℕ) (at n : ℕ) → at + 4 * n ≤ length m → words_at m at n ≡ words_at (padded m) at n
unfolding words_at
words_in_front m at zero h = refl
words_in_front m at (suc t) h =
    let k : at + 4 * t ≤ length m = omega arith in
    let j : at + 4 * t + 4 ≤ length m = omega arith in
    rw (words_in_front m at t k, word_in_front m (at + 4 * t) j)
