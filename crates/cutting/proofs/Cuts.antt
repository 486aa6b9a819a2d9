-- What the cut leaves in each of its cases.
-- Assumes nothing.
use Prim.Native.Nat.{ℕ, ◌+◌, ◌≤◌, ◌<◌}
use mathlib.Core.Path.{◌≡◌}
use mathlib.Core.Bool.{Bool, true, false}
use mathlib.Core.List.{List}
use native.Mathlib.Omega.{arith}
use borrow.Author.Tests.{le-leb, lt-leb}
use lib.ListN.{length}
use Rattle.item.specs.Offsets.{length_limit}
use Rattle.item.specs.Layout.{length_of}
use Rattle.cutting.specs.Cutting.{CutOff}

-- Fewer than four bytes: all are cut off.
pub cut_short : (s : List ℕ) (n : ℕ) (w : Bool) → length s < 4 → n ≡ length s → w ≡ false → CutOff s n w
cut_short s n w h e f = record { size = rw (lt-leb 4 (length s) h) e; judged = rw (lt-leb 4 (length s) h) f; inside = omega arith }

-- A length above the limit: all are cut off.
pub cut_above : (s : List ℕ) (n : ℕ) (w : Bool) → 4 ≤ length s → length_limit < length_of s → n ≡ length s → w ≡ false → CutOff s n w
cut_above s n w h k e f =
    record {
      size = rw (le-leb 4 (length s) h, lt-leb (length_of s) length_limit k) e;
      judged = rw (le-leb 4 (length s) h, lt-leb (length_of s) length_limit k) f;
      inside = omega arith;
    }

-- Fewer bytes than the length says: all are cut off.
pub cut_broken : (s : List ℕ) (n : ℕ) (w : Bool) → 4 ≤ length s → length_of s ≤ length_limit → length s < 4 + length_of s → n ≡ length s → w ≡ false → CutOff s n w
cut_broken s n w h k l e f =
    record {
      size = rw (le-leb 4 (length s) h, le-leb (length_of s) length_limit k, lt-leb (4 + length_of s) (length s) l) e;
      judged = rw (le-leb 4 (length s) h, le-leb (length_of s) length_limit k, lt-leb (4 + length_of s) (length s) l) f;
      inside = omega arith;
    }

-- A whole item: as many as its length says.
pub cut_whole : (s : List ℕ) (n : ℕ) → 4 ≤ length s → length_of s ≤ length_limit → 4 + length_of s ≤ length s → n ≡ 4 + length_of s → CutOff s n true
cut_whole s n h k l e =
    record {
      size = rw (le-leb 4 (length s) h, le-leb (length_of s) length_limit k, le-leb (4 + length_of s) (length s) l) e;
      judged = rw (le-leb 4 (length s) h, le-leb (length_of s) length_limit k, le-leb (4 + length_of s) (length s) l);
      inside = omega arith;
    }
