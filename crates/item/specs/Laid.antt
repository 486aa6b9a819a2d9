-- What an item is, as document 01, "The item", writes it: its fields laid one after the other.
-- Assumes nothing.
use Rattle.std.specs.Prelude.{ℕ, ◌+◌, ◌*◌, ◌≤◌, ◌≡◌, List, [], ◌∷◌, ◌++◌, length}
use Rattle.item.specs.Offsets.{at_payload, at_dependencies, smallest_item, payload_limit, count_limit, largest_item}
use Rattle.item.specs.declared.Fields.{Fields}
use Rattle.item.specs.Little.{le16, le32}

-- "An item is: length, 4 bytes, counting all that follows; kind, 2 bytes, which is 1; then the body: mark 1, author key 32,
-- previous id 32, index 4, payload length 4, payload, dependency count 2, dependency ids 32 each, signature 64."
-- "payload at most 4,096 bytes, 63 dependencies a message". `f` has the numbers, and the places where payload and dependency ids start.
pub record IsItem (s : List ℕ) (f : Fields) : Type 0 where
  pub len : List ℕ
  pub kind : List ℕ
  pub key : List ℕ
  pub previous : List ℕ
  pub index : List ℕ
  pub size : List ℕ
  pub payload : List ℕ
  pub count : List ℕ
  pub dependencies : List ℕ
  pub signature : List ℕ
  pub laid : s ≡ len ++ (kind ++ ((f.mark ∷ []) ++ (key ++ (previous ++ (index ++ (size ++ (payload ++ (count ++ (dependencies ++ signature)))))))))
  pub len_4 : length len ≡ 4
  pub kind_2 : length kind ≡ 2
  pub key_32 : length key ≡ 32
  pub previous_32 : length previous ≡ 32
  pub index_4 : length index ≡ 4
  pub size_4 : length size ≡ 4
  pub count_2 : length count ≡ 2
  pub dependencies_32_each : length dependencies ≡ 32 * f.count
  pub signature_64 : length signature ≡ 64
  pub len_says : length s ≡ 4 + le32 len 0
  pub kind_says : le16 kind 0 ≡ 1
  pub index_says : le32 index 0 ≡ f.index
  pub size_says : le32 size 0 ≡ length payload
  pub count_says : le16 count 0 ≡ f.count
  pub payload_limit_lem : length payload ≤ payload_limit
  pub count_limit_lem : f.count ≤ count_limit
  pub payload_size_lem : f.size ≡ length payload
  pub payload_place : f.payload ≡ at_payload
  pub dependencies_place : f.dependencies ≡ at_dependencies + length payload

-- Each part that the fields name lies inside the item, the signature ends it, and the limits are kept.
pub record Inside (s : List ℕ) (f : Fields) : Type 0 where
  pub smallest : smallest_item ≤ length s
  pub largest : length s ≤ largest_item
  pub payload_in_lem : f.payload + f.size ≤ length s
  pub dependencies_in : f.dependencies + 32 * f.count + 64 ≡ length s
  pub size_limit : f.size ≤ payload_limit
  pub count_limit_lem : f.count ≤ count_limit
