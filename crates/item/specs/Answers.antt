-- The answer of reading an item: document 01's number of each case, and the values that it gives.
-- Assumes nothing.
use Rattle.answers.specs.declared.Refusal.{Refusal}
use Rattle.std.specs.Prelude.{ℕ, Result, Ok, Err}
use Rattle.answers.specs.Number.{number_of}
use Rattle.item.specs.declared.Fields.{Fields}

-- The number of a reading: 0 for an item, else the refusal's.
abbrev pub layout_number : Result Fields Refusal → ℕ
layout_number (Ok f) = 0
layout_number (Err r) = number_of r

-- No fields: zeros, so that "a refusal hands back an empty stretch".
abbrev pub no_fields : Fields
no_fields = record { mark = 0; index = 0; payload = 0; size = 0; dependencies = 0; count = 0 }

-- The fields of a reading: none on a refusal.
abbrev pub layout_fields : Result Fields Refusal → Fields
layout_fields (Ok f) = f
layout_fields (Err r) = no_fields
