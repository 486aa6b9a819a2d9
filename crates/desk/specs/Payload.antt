-- Document 02, §14: "A release's payload is three bytes: component number 2, and whether its menu starts expanded, byte 0 or 1."
-- Assumes nothing.
use Rattle.std.specs.Prelude.{ℕ, Bool, List, length, get_or, eqb, leb}
use Rattle.basics.specs.Pick.{both}
use Rattle.item.specs.Little.{le16}

-- "three bytes"
abbrev pub payload_width : ℕ
payload_width = 3

-- "component number 2": the number that the first two bytes say; document 01, "Numbers are little-endian."
abbrev pub component_in : List ℕ → ℕ
component_in p = le16 p 0

-- "and whether its menu starts expanded": the third byte.
abbrev pub expanded_in : List ℕ → ℕ
expanded_in p = get_or p 2 0

-- "byte 0 or 1": whether a byte is one of the two.
abbrev pub is_mark : ℕ → Bool
is_mark b = leb b 1

-- What a byte says: 1 alone is yes.
abbrev pub says_yes : ℕ → Bool
says_yes b = eqb b 1

-- Whether a payload is a release's: "a payload of another length, or with an expanded byte not 0 or 1, is 25 PAYLOAD." Nothing else is bad: any
-- component number may stand there.
unfoldable pub is_release : List ℕ → Bool
is_release p = both (eqb (length p) payload_width) (is_mark (expanded_in p))
