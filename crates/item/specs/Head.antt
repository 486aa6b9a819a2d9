-- What an item of any kind begins with, a length and a kind: the first refusal in the order of document 01, "Answer numbers":
-- "fewer than 4 bytes, 2; length above [the kind's limit], 3; length under 2, 2; item incomplete, 2; bytes after it, 4; 5".
-- Assumes nothing.
use Rattle.std.specs.Prelude.{ℕ, ◌-◌, List, length, eqb, ltb, Result, Ok, Err}
use Rattle.basics.specs.Pick.{pick}
use Rattle.answers.specs.declared.Refusal.{Refusal}
use Rattle.answers.specs.declared.Refusal.TheVariants.{Short, Size, Long, Kind}
use Rattle.item.specs.Layout.{length_of, kind_of}

-- The tests before the body, of an item that has a largest length and a kind.
unfoldable pub head_tests : ℕ → ℕ → List ℕ → Result (Unit {0}) Refusal
head_tests limit kind s =
    pick (ltb (length s) 4) (Err Short)
    (pick (ltb limit (length_of s)) (Err Size)
    (pick (ltb (length_of s) 2) (Err Short)
    (pick (ltb (length s - 4) (length_of s)) (Err Short)
    (pick (ltb (length_of s) (length s - 4)) (Err Long) (pick (eqb (kind_of s) kind) (Ok tt) (Err Kind))))))
