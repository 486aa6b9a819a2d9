-- What `put` leaves in each of its cases.
-- Assumes nothing.
use Prim.Native.Nat.{ℕ, ◌+◌, ◌≤◌, ◌<◌}
use mathlib.Core.Path.{◌≡◌, sym}
use mathlib.Core.List.{List}
use borrow.Author.Tests.{le-leb, lt-leb}
use lib.ListN.{length}
use lib.Seq.{paste, length-take-le}
use Rattle.lines.specs.Digits.{IsPrefixLen}
use Rattle.lines.specs.Line.{Put}

-- Text that fits is put.
pub put_done : (out : List ℕ) (used : ℕ) (text out' : List ℕ) (used' : ℕ) → used + length text ≤ length out
    → out' ≡ paste out used text (length text) → used' ≡ used + length text → Put out used text out' used'
put_done out used text out' used' h e f = record {
  content = rw (le-leb (used + length text) (length out) h) e;
  grown = rw
      (le-leb (used + length text) (length out) h) f;
}

-- Text that does not fit leaves all as it was.
pub put_nothing : (out : List ℕ) (used : ℕ) (text out' : List ℕ) (used' : ℕ) → length out < used + length text → out' ≡ out → used' ≡ used
    → Put out used text out' used'
put_nothing out used text out' used' h e f =
    record { content = rw (lt-leb (used + length text) (length out) h) e; grown = rw (lt-leb (used + length text) (length out) h) f }

-- From a bound on a count to what `&buf[..n]` asks.
pub prefix_len_of_le : (n : ℕ) (xs : List ℕ) → n ≤ length xs → IsPrefixLen n xs
prefix_len_of_le n xs h = (h, sym (length-take-le n xs h))
