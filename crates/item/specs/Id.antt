-- The id of an item, as document 01, "The item", says: "The id is SHA-256 over the body without the mark" and "The signature is hashed".
-- Assumes nothing.
use Rattle.std.specs.Prelude.{ℕ, List}
use Rattle.sha256.specs.Sha256.{sha256_of}
use Rattle.item.specs.Layout.{hashed_of}

-- The id of the item `s`; of a list that ends at the mark or before, SHA-256 of nothing.
abbrev pub id_of : List ℕ → List ℕ
id_of s = sha256_of (hashed_of s)
