-- What reading an item of kind 3 gives: its number of entries, or the first refusal. "the layout's in the order of kind 1 (a kind other
-- than 3 is 5, entry count above 64 is 3)", which is, by document 01: "fewer than 4 bytes, 2; length above [8,324], 3; length under 2, 2;
-- item incomplete, 2; bytes after it, 4; 5; body under [2], 2; [entry] count, 3; body too short, 2; too long, 4".
-- Assumes nothing.
use Rattle.answers.specs.declared.Refusal.{Refusal}
use Rattle.std.specs.Prelude.{ℕ, ◌+◌, ◌*◌, ◌-◌, List, length, eqb, ltb, Result, Ok, Err}
use Rattle.basics.specs.Pick.{pick}
use Rattle.answers.specs.Number.{number_of}
use Rattle.answers.specs.declared.Refusal.TheVariants.{Short, Size, Long, Kind}
use Rattle.item.specs.Little.{le16}
use Rattle.item.specs.Layout.{length_of, kind_of, body_size}
use Rattle.kind3.specs.Offsets.{standing_kind, at_count, entry_size, entry_limit, smallest_body, length_limit}

-- "entry count 2 bytes"
abbrev pub count_of : List ℕ → ℕ
count_of s = le16 s at_count

-- How many bytes the body has, by its entry count.
abbrev pub body_with : ℕ → ℕ
body_with n = smallest_body + entry_size * n

-- The tests on the body.
unfoldable pub body_tests : List ℕ → Result ℕ Refusal
body_tests s =
    pick (ltb (body_size s) smallest_body) (Err Short)
    (pick (ltb entry_limit (count_of s)) (Err Size)
    (pick (ltb (body_size s) (body_with (count_of s))) (Err Short)
    (pick (ltb (body_with (count_of s)) (body_size s)) (Err Long) (Ok (count_of s)))))

-- What reading the item gives, all tests in order. Phase and presence bytes are not judged here.
unfoldable pub layout_of : List ℕ → Result ℕ Refusal
layout_of s =
    pick (ltb (length s) 4) (Err Short)
    (pick (ltb length_limit (length_of s)) (Err Size)
    (pick (ltb (length_of s) 2) (Err Short)
    (pick (ltb (length s - 4) (length_of s)) (Err Short)
    (pick (ltb (length_of s) (length s - 4)) (Err Long) (pick (eqb (kind_of s) standing_kind) (body_tests s) (Err Kind))))))

-- The number of a reading: 0 for an item of kind 3, else the refusal's.
abbrev pub layout_number : Result ℕ Refusal → ℕ
layout_number (Ok n) = 0
layout_number (Err why) = number_of why
