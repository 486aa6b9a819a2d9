-- A line of text that grows in a lent buffer.
-- Assumes nothing.
use Rattle.std.specs.Prelude.{ℕ, ◌+◌, ◌≤◌, ◌≡◌, Bool, List, [], ◌∷◌, length, leb}
use Rattle.std.proofs.Math.Seq.{paste}
use Rattle.lines.specs.Digits.{last_digits, IsDigitCount}
use Rattle.basics.specs.Pick.{pick}

-- Does `text` fit behind the first `used` bytes?
abbrev pub fits_in : List ℕ → ℕ → List ℕ → Bool
fits_in out used text = leb (used + length text) (length out)

-- `text` stands behind the first `used` bytes, and all else stays; where it does not fit, nothing changes.
pub record Put (out : List ℕ) (used : ℕ) (text out' : List ℕ) (used' : ℕ) : Type 0 where
  pub content : out' ≡ pick (fits_in out used text) (paste out used text (length text)) out
  pub grown : used' ≡ pick (fits_in out used text) (used + length text) used

-- The decimal digits of `n`, no more than it takes, are put.
pub record PutDecimal (out : List ℕ) (used n : ℕ) (out' : List ℕ) (used' : ℕ) : Type 0 where
  pub places : ℕ
  pub fewest : IsDigitCount 10 1 n places
  pub put : Put out used (last_digits 10 places n) out' used'

-- A space and then the decimal digits of `n` are put.
pub record PutNumber (out : List ℕ) (used n : ℕ) (out' : List ℕ) (used' : ℕ) : Type 0 where
  pub middle : List ℕ
  pub behind : ℕ
  pub space : Put out used (32 ∷ []) middle behind
  pub number : PutDecimal middle behind n out' used'

-- A line feed is put, and nothing else.
pub record Ended (out : List ℕ) (used : ℕ) (out' : List ℕ) : Type 0 where
  pub behind : ℕ
  pub feed : Put out used (10 ∷ []) out' behind

-- `text` is `n` in decimal digits, no more than it takes.
pub record Decimal (n : ℕ) (text : List ℕ) : Type 0 where
  pub places : ℕ
  pub fewest : IsDigitCount 10 1 n places
  pub spelled : text ≡ last_digits 10 places n

-- `text` stands at the front of the buffer, `used` bytes of it, and all else stays.
pub record Begins (out text out' : List ℕ) (used : ℕ) : Type 0 where
  pub content : out' ≡ paste out 0 text (length text)
  pub count : used ≡ length text
  pub fits : length text ≤ length out

-- A text of which `L` holds stands at the front of the buffer, and all else stays.
pub record Spells (L : List ℕ → Type 0) (out out' : List ℕ) (used : ℕ) : Type 0 where
  pub text : List ℕ
  pub said : L text
  pub begins : Begins out text out' used
