-- The lines of the report: what is put one behind the other is the line, and each line has one text.
-- Assumes nothing.
use Prim.Native.Nat.{ℕ, ◌+◌, ◌*◌, ◌≤◌, ◌<◌}
use mathlib.Core.Path.{◌≡◌, refl, sym, ap, ◌∙◌}
use mathlib.Core.List.{List, [], ◌∷◌, ◌++◌}
use native.Mathlib.Omega.{arith}
use lib.ListN.{length, get_or, length-append}
use Rattle.basics.specs.Pick.{pick}
use Rattle.basics.proofs.Tests.{by_eqb}
use Rattle.frontiers.specs.Numbers.{entry_width, author_at, phase_at, last_at, low_at, high_at}
use Rattle.lines.specs.Line.{Put, PutDecimal, PutNumber, Spells}
use Rattle.lines.proofs.Texts.{one_decimal, begins_empty, begins_more, decimal_said, number_said}
use Rattle.intake.specs.Report.{line_room, spaced, phase_word, ItemLine, AuthorLine}

-- The line of an item.
pub item_spelled : (out : List ℕ) (number answer row : ℕ) (o : List ℕ) (a : ℕ) (p : List ℕ) (b : ℕ) (q : List ℕ) (c : ℕ) → line_room ≤ length out
    → number < 100000000000000000000 → answer < 65536 → row < 65536 → PutDecimal out 0 number o a → PutNumber o a answer p b → PutNumber p b row q c
    → Spells (ItemLine number answer row) out q c
item_spelled out number answer row o a p b q c h i j k f g l =
    let x = decimal_said 20 number out [] out 0 o a (omega arith) i (begins_empty out) f (omega arith) in
    let y = number_said 5 answer out x.word o a p b (omega arith) (omega arith) x.begins g (omega (arith, x.short)) in
    let z = number_said 5 row out (x.word ++ spaced y.word) p b q c (omega arith) (omega arith) y.begins l (omega (arith, x.short, y.short)) in
    record {
      text = (x.word ++ spaced y.word) ++ spaced z.word;
      said =
          record {
            number_word = x.word;
            answer_word = y.word;
            row_word = z.word;
            number_said = x.said;
            answer_said = y.said;
            row_said = z.said;
            line = refl;
          };
      begins = z.begins;
    }

-- A phase has a short word.
phase_short : (phase : ℕ) → length (spaced (phase_word phase)) ≤ 8
phase_short phase =
    by_eqb
    (λ t. length (spaced (pick t (103 ∷ 114 ∷ 111 ∷ 119 ∷ 105 ∷ 110 ∷ 103 ∷ []) (102 ∷ 111 ∷ 114 ∷ 107 ∷ 101 ∷ 100 ∷ []))) ≤ 8) phase 0 (λ e. omega arith)
    (λ e. omega arith)

-- The line of an author.
pub author_spelled : (out f : List ℕ) (i : ℕ) (o₁ : List ℕ) (a : ℕ) (o₂ : List ℕ) (b : ℕ) (o₃ : List ℕ) (c : ℕ) (o₄ : List ℕ) (d : ℕ) (o₅ : List ℕ) (e : ℕ)
    → line_room ≤ length out → ((j : ℕ) → get_or f j 0 < 65536) → PutDecimal out 0 (author_at f i) o₁ a → Put o₁ a (spaced (phase_word (phase_at f i))) o₂ b
    → PutNumber o₂ b (last_at f i) o₃ c → PutNumber o₃ c (low_at f i) o₄ d → PutNumber o₄ d (high_at f i) o₅ e → Spells (AuthorLine f i) out o₅ e
author_spelled out f i o₁ a o₂ b o₃ c o₄ d o₅ e h s p₁ p₂ p₃ p₄ p₅ =
    let word = spaced (phase_word (phase_at f i)) in
    let w = phase_short (phase_at f i) in
    let x = decimal_said 5 (author_at f i) out [] out 0 o₁ a (omega arith) (below (i * entry_width)) (begins_empty out) p₁ (omega arith) in
    let n = length-append x.word word in
    let y = begins_more out x.word o₁ a word o₂ b x.begins p₂ (omega (arith, w, x.short)) in
    let l = number_said 5 (last_at f i) out (x.word ++ word) o₂ b o₃ c (omega arith) (below (i * entry_width + 2)) y p₃ (omega (arith, w, n, x.short)) in
    let m = number_said 5 (low_at f i) out ((x.word ++ word) ++ spaced l.word) o₃ c o₄ d (omega arith) (below (i * entry_width + 3)) l.begins p₄
    (omega (arith, w, n, x.short, l.short)) in
    let k = number_said 5 (high_at f i) out (((x.word ++ word) ++ spaced l.word) ++ spaced m.word) o₄ d o₅ e (omega arith)
    (below (i * entry_width + 4)) m.begins p₅ (omega (arith, w, n, x.short, l.short, m.short)) in
    record {
      text = (((x.word ++ word) ++ spaced l.word) ++ spaced m.word) ++ spaced k.word;
      said =
          record {
            author_word = x.word;
            last_word = l.word;
            low_word = m.word;
            high_word = k.word;
            author_said = x.said;
            last_said = l.said;
            low_said = m.said;
            high_said = k.said;
            line = refl;
          };
      begins = k.begins;
    }
  where
    below : (j : ℕ) → get_or f j 0 < 100000
    below j = omega (arith, s j)

-- The line of an item has one text,
pub one_item_line : (number answer row : ℕ) (s t : List ℕ) → ItemLine number answer row s → ItemLine number answer row t → s ≡ t
one_item_line number answer row s t p q =
    p.line
    ∙ ap (λ (w : List ℕ). (w ++ spaced p.answer_word) ++ spaced p.row_word)
    (one_decimal number p.number_word q.number_word p.number_said q.number_said)
    ∙ ap (λ (w : List ℕ). (q.number_word ++ spaced w) ++ spaced p.row_word)
    (one_decimal answer p.answer_word q.answer_word p.answer_said q.answer_said)
    ∙ ap (λ (w : List ℕ). (q.number_word ++ spaced q.answer_word) ++ spaced w)
    (one_decimal row p.row_word q.row_word p.row_said q.row_said)
    ∙ sym q.line

-- and so has that of an author.
pub one_author_line : (f : List ℕ) (i : ℕ) (s t : List ℕ) → AuthorLine f i s → AuthorLine f i t → s ≡ t
one_author_line f i s t p q =
    let word = spaced (phase_word (phase_at f i)) in
    p.line
    ∙ ap (λ (w : List ℕ). (((w ++ word) ++ spaced p.last_word) ++ spaced p.low_word) ++ spaced p.high_word)
    (one_decimal (author_at f i) p.author_word q.author_word p.author_said q.author_said)
    ∙ ap (λ (w : List ℕ). (((q.author_word ++ word) ++ spaced w) ++ spaced p.low_word) ++ spaced p.high_word)
    (one_decimal (last_at f i) p.last_word q.last_word p.last_said q.last_said)
    ∙ ap (λ (w : List ℕ). (((q.author_word ++ word) ++ spaced q.last_word) ++ spaced w) ++ spaced p.high_word)
    (one_decimal (low_at f i) p.low_word q.low_word p.low_said q.low_said)
    ∙ ap (λ (w : List ℕ). (((q.author_word ++ word) ++ spaced q.last_word) ++ spaced q.low_word) ++ spaced w)
    (one_decimal (high_at f i) p.high_word q.high_word p.high_said q.high_said)
    ∙ sym q.line
