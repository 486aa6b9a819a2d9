-- What is laid as an item has each part at its place, and has passed the tests.
-- Assumes nothing.
use Rattle.std.specs.Prelude.{Ok}
use Prim.Native.Nat.{ℕ, ◌+◌, ◌*◌}
use native.Mathlib.Nat.{add-zero}
use native.Mathlib.Omega.{arith}
use mathlib.Core.Path.{◌≡◌, refl, sym, ap, ◌∙◌}
use mathlib.Core.List.{List, [], ◌∷◌, ◌++◌}
use lib.ListN.{length, get_or, drop, length-append}
use lib.Seq.{drop-drop, drop_at}
use Rattle.item.specs.declared.Fields.{Fields}
use Rattle.item.specs.Little.{le16, le32}
use Rattle.item.specs.Layout.{kind_of, payload_size, count_after, fields_with, layout_of}
use Rattle.item.specs.Laid.{IsItem}
use Rattle.item.proofs.Numbers.{get_d_there, le16_there, le32_there}
use Rattle.item.proofs.Verdict.{Passed, passed_sound}

-- After a part of `n` entries comes what is laid after it.
after : (a n b : ℕ) (s p q : List ℕ) → drop a s ≡ p ++ q → length p ≡ n → a + n ≡ b → drop b s ≡ q
after a n b s p q e h g = ap (λ (k : ℕ). drop k s) (sym g) ∙ sym (drop-drop n a s) ∙ ap (drop n) e ∙ drop_at p q n h

-- Fields are the same whose six numbers are.
same_fields : (f g : Fields) → f.mark ≡ g.mark → f.index ≡ g.index → f.payload ≡ g.payload → f.size ≡ g.size
    → f.dependencies ≡ g.dependencies → f.count ≡ g.count → f ≡ g
same_fields f g m x p z d c =
    let e : ◌≡◌ {A = Fields} (record {
      mark = f.mark;
      index = f.index;
      payload = f.payload;
      size = f.size;
      dependencies = f.dependencies;
      count =
          f.count;
    })
    (record { mark = g.mark; index = g.index; payload = g.payload; size = g.size; dependencies = g.dependencies; count = g.count }) = cc in
    e

-- What stands from each place of an item on, and what its numbers say there.
module _ {s : List ℕ} {f : Fields} (i : IsItem s f) where
  -- After the length comes the kind.
  pub at_kind_lem : drop 4 s
      ≡ i.kind ++ ((f.mark ∷ []) ++ (i.key ++ (i.previous ++ (i.index ++ (i.size ++ (i.payload ++ (i.count ++ (i.dependencies ++ i.signature))))))))
  at_kind_lem = after 0 4 4 s i.len _ i.laid i.len_4 refl

  -- After the kind comes the mark.
  pub at_mark_lem : drop 6 s
      ≡ (f.mark ∷ []) ++ (i.key ++ (i.previous ++ (i.index ++ (i.size ++ (i.payload ++ (i.count ++ (i.dependencies ++ i.signature)))))))
  at_mark_lem = after 4 2 6 s i.kind _ at_kind_lem i.kind_2 refl

  -- After the mark comes the author key.
  pub at_key_lem : drop 7 s ≡ i.key ++ (i.previous ++ (i.index ++ (i.size ++ (i.payload ++ (i.count ++ (i.dependencies ++ i.signature))))))
  at_key_lem = after 6 1 7 s (f.mark ∷ []) _ at_mark_lem refl refl

  -- After the key comes the previous id.
  pub at_previous_lem : drop 39 s ≡ i.previous ++ (i.index ++ (i.size ++ (i.payload ++ (i.count ++ (i.dependencies ++ i.signature)))))
  at_previous_lem = after 7 32 39 s i.key _ at_key_lem i.key_32 refl

  -- After the previous id comes the index.
  pub at_index_lem : drop 71 s ≡ i.index ++ (i.size ++ (i.payload ++ (i.count ++ (i.dependencies ++ i.signature))))
  at_index_lem = after 39 32 71 s i.previous _ at_previous_lem i.previous_32 refl

  -- After the index comes the payload length.
  pub at_size_lem : drop 75 s ≡ i.size ++ (i.payload ++ (i.count ++ (i.dependencies ++ i.signature)))
  at_size_lem = after 71 4 75 s i.index _ at_index_lem i.index_4 refl

  -- After the payload length comes the payload.
  pub at_payload_lem : drop 79 s ≡ i.payload ++ (i.count ++ (i.dependencies ++ i.signature))
  at_payload_lem = after 75 4 79 s i.size _ at_size_lem i.size_4 refl

  -- After the payload comes the dependency count.
  pub at_count_lem : drop (79 + length i.payload) s ≡ i.count ++ (i.dependencies ++ i.signature)
  at_count_lem = after 79 (length i.payload) (79 + length i.payload) s i.payload _ at_payload_lem refl refl

  -- After the count come the dependency ids, and then the signature.
  pub at_dependencies_lem : drop (81 + length i.payload) s ≡ i.dependencies ++ i.signature
  at_dependencies_lem = after (79 + length i.payload) 2 (81 + length i.payload) s i.count _ at_count_lem i.count_2 (omega arith)

  -- How long an item is.
  pub item_length : length s ≡ 145 + length i.payload + 32 * f.count
  item_length = omega (
    arith,
    simp length-append at (ap length i.laid),
    i.len_4,
    i.kind_2,
    i.key_32,
    i.previous_32,
    i.index_4,
    i.size_4,
    i.count_2,
    i.dependencies_32_each,
    i.signature_64,
  )

  -- The length, read at its place.
  item_len : le32 s 0 ≡ le32 i.len 0
  item_len = le32_there 0 s i.len _ i.laid 0 (omega (arith, i.len_4))

  -- The kind is 1.
  item_kind : kind_of s ≡ 1
  item_kind = le16_there 4 s i.kind _ at_kind_lem 0 (omega (arith, i.kind_2)) ∙ i.kind_says

  -- The mark, read at its place.
  item_mark : f.mark ≡ get_or s 6 0
  item_mark = sym (get_d_there 6 s (f.mark ∷ []) _ at_mark_lem 0 (omega arith))

  -- The index, read at its place.
  item_index : f.index ≡ le32 s 71
  item_index = sym (le32_there 71 s i.index _ at_index_lem 0 (omega (arith, i.index_4)) ∙ i.index_says)

  -- The payload length, read at its place.
  item_size : payload_size s ≡ length i.payload
  item_size = le32_there 75 s i.size _ at_size_lem 0 (omega (arith, i.size_4)) ∙ i.size_says

  -- The dependency count, read at its place.
  item_count : count_after (length i.payload) s ≡ f.count
  item_count = ap (le16 s) (sym (add-zero (79 + length i.payload))) ∙ le16_there (79 + length i.payload) s i.count _ at_count_lem 0
      (omega (arith, i.count_2)) ∙ i.count_says

  -- The fields of an item are what its bytes say.
  item_fields : f ≡ fields_with (payload_size s) (count_after (payload_size s) s) s
  item_fields =
      same_fields f _ item_mark item_index i.payload_place (i.payload_size_lem ∙ sym item_size)
      (i.dependencies_place ∙ ap (λ (p : ℕ). 81 + p) (sym item_size)) (sym item_count ∙ ap (λ (p : ℕ). count_after p s) (sym item_size))

  -- An item has passed all tests.
  pub item_passed : Passed s f
  item_passed =
      let c : count_after (payload_size s) s ≡ f.count = ap (λ (p : ℕ). count_after p s) item_size ∙ item_count in
      record {
        whole = i.len_says ∙ ap (λ (n : ℕ). 4 + n) (sym item_len);
        kind_1 = item_kind;
        payload_limit_lem = rw item_size i.payload_limit_lem;
        count_limit_lem = rw c i.count_limit_lem;
        full = rw (c, item_size) item_length;
        fields = item_fields;
      }

-- An item is sound, with its fields.
pub item_sound : (s : List ℕ) (f : Fields) → IsItem s f → layout_of s ≡ Ok f
item_sound s f i = passed_sound s f (item_passed i)
