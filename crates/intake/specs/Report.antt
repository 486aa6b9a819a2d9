-- The lines that `intake` prints: document 01, "The program". One space parts the words of a line.
-- Assumes nothing.
use Rattle.std.specs.Prelude.{ℕ, ◌+◌, ◌*◌, ◌≤◌, ◌≡◌, List, [], ◌∷◌, ◌++◌, length, eqb}
use Rattle.basics.specs.Pick.{pick}
use Rattle.frontiers.specs.Numbers.{entry_width, author_at, phase_at, last_at, low_at, high_at}
use Rattle.lines.specs.Line.{Decimal}

-- How many bytes are lent for a line: more than any line has.
abbrev pub line_room : ℕ
line_room = 64

-- A word with the space before it.
abbrev pub spaced : List ℕ → List ℕ
spaced word = 32 ∷ word

-- "with the phase as `growing` or `forked`": the letters of the word.
abbrev pub phase_word : ℕ → List ℕ
phase_word phase =
    pick (eqb phase 0) (103 ∷ 114 ∷ 111 ∷ 119 ∷ 105 ∷ 110 ∷ 103 ∷ []) (102 ∷ 111 ∷ 114 ∷ 107 ∷ 101 ∷ 100 ∷ [])

-- "`item answer row`, a line per item (its number from 1, answer, row)": each in decimal digits.
pub record ItemLine (number answer row : ℕ) (text : List ℕ) : Type 0 where
  pub number_word : List ℕ
  pub answer_word : List ℕ
  pub row_word : List ℕ
  pub number_said : Decimal number number_word
  pub answer_said : Decimal answer answer_word
  pub row_said : Decimal row row_word
  pub line : text ≡ (number_word ++ spaced answer_word) ++ spaced row_word

-- The list of numbers holds entry `i` of a frontier whole.
abbrev pub HasEntry : List ℕ → ℕ → Type 0
HasEntry f i = i * entry_width + entry_width ≤ length f

-- "`author phase last low high` and a line per author": of entry `i` of a frontier, the phase as its word, all else in decimal digits.
pub record AuthorLine (f : List ℕ) (i : ℕ) (text : List ℕ) : Type 0 where
  pub author_word : List ℕ
  pub last_word : List ℕ
  pub low_word : List ℕ
  pub high_word : List ℕ
  pub author_said : Decimal (author_at f i) author_word
  pub last_said : Decimal (last_at f i) last_word
  pub low_said : Decimal (low_at f i) low_word
  pub high_said : Decimal (high_at f i) high_word
  pub line : text ≡ (((author_word ++ spaced (phase_word (phase_at f i))) ++ spaced last_word) ++ spaced low_word) ++ spaced high_word
