-- Document 02, §11: "Where no limit behind FULL is met, and no two items differ after the mark and share an id, an id is kept exactly when
-- some order of some of the items admits it."
-- Assumes nothing.
use Prim.Native.Nat.{ℕ, ◌<◌}
use mathlib.Core.Path.{◌≡◌, refl, sym, ap, subst, ◌∙◌}
use mathlib.Core.Bool.{true, false}
use mathlib.Core.List.{List, [], ◌∷◌}
use mathlib.Core.Logic.{⊎_elim}
use native.Mathlib.Omega.{arith}
use native.Mathlib.Nat.{eq-or-lt_of_le}
use borrow.Author.Tests.{eq-eqb}
use lib.Dec.{eqb}
use lib.ListN.{length, take}
use lib.Seq.{get_or-drop}
use Rattle.basics.proofs.Tests.{either_first, either_second, not_both_ways}
use Rattle.item.specs.Id.{id_of}
use Rattle.item.specs.Laid.{IsItem}
use Rattle.item.specs.Layout.{hashed_of}
use Rattle.item.specs.Little.{le16, le32}
use Rattle.item.specs.declared.Fields.{Fields}
use Rattle.item.proofs.Places.{item_sound}
use Rattle.item.proofs.Verdict.{sound_passed}
use Rattle.store.specs.Paper.{Message}
use Rattle.store.specs.Table.{Table}
use Rattle.admission.specs.declared.Admitted.TheVariants.{Done}
use Rattle.morning.specs.Intake.{Kept, Sound, answer_to, kept_after, kept_after_all}
use Rattle.rescue.specs.Greedy.{Salvage, salvage_origin, item_of, among, is_done, items_in}
use Rattle.rescue.specs.Orders.{HasId, RowIs, NoneFull, NoClash}
use Rattle.rescue.proofs.Growth.{done_or_not, done_count, grown_after, sound_after, undone_after, id_later, key_later, index_later}
use Rattle.rescue.proofs.Held.{Rows, row_new}
use Rattle.rescue.proofs.Reaching.{There, Within, admitted_there}

-- The index of an item is among the bytes after its mark.
index_hashed : (i : List ℕ) (f : Fields) → IsItem i f → f.index ≡ le32 (hashed_of i) 64
unfolding le32 le16
index_hashed i f x =
    ap (λ (g : Fields). g.index) (sound_passed i f (item_sound i f x)).fields
    ∙ rw (get_or-drop 7 i 64 0, get_or-drop 7 i 65 0, get_or-drop 7 i 66 0, get_or-drop 7 i 67 0)

-- What a salvage ends with: a sound store whose rows are the kept items, and nothing more is admitted.
pub record Ended (is : List (List ℕ)) (g : Salvage) : Type 0 where
  pub well : Sound g.kept
  pub rows : Rows is g
  pub numbers : (p : ℕ) → among p g.order ≡ true → p < length is
  pub ends : (p : ℕ) → p < length is → is_done (answer_to g.kept (item_of is p)) ≡ false

module _ (is : List (List ℕ)) (g : Salvage) (x : Ended is g) (none : NoneFull is g) (apart : NoClash is) where
  -- A row that is an item's is in the final store, where the item's id is.
  row_there : (t : Table) (r p : ℕ) → p < length is → RowIs t r (item_of is p) → HasId g.kept (id_of (item_of is p)) → There t g.kept.store r
  row_there t r p h a y =
      let k = x.rows.item_of y.row y.has.message in
      let z = subst (λ (n : ℕ). RowIs g.kept.store n (item_of is k.number)) k.place (x.rows.row_of k.number k.kept) in
      let same : hashed_of (item_of is p) ≡ hashed_of (item_of is k.number) =
      apart p k.number h (x.numbers k.number k.kept) a.fields z.fields a.item z.item (sym y.has.id ∙ z.has.id) in
      let index : z.fields.index ≡ a.fields.index =
      index_hashed (item_of is k.number) z.fields z.item
      ∙ ap (λ (s : List ℕ). le32 s 64) (sym same)
      ∙ sym (index_hashed (item_of is p) a.fields a.item) in
      record {
        row = y.row;
        has = record { message = y.has.message; id = y.has.id ∙ sym a.has.id };
        key = z.key ∙ ap (take 32) (sym same) ∙ sym a.key;
        index = z.index ∙ index ∙ sym a.index;
      }

  -- One item more, admitted or not.
  within_after : (v : Kept) → Sound v → Within v.store g.kept.store → (p : ℕ) → p < length is
      → Within (kept_after v salvage_origin (item_of is p)).store g.kept.store
  within_after v s h p l =
      ⊎_elim
      (λ d r m.
      let i = item_of is p in
      let u = kept_after v salvage_origin i in
      let c = done_count v s salvage_origin i d.0 d.1 in
      let new = row_new v s salvage_origin i d.0 d.1 in
      let undone : (q : ℕ) → answer_to g.kept i ≡ Done q → ⊥ = λ q e. not_both_ways (is_done (answer_to g.kept i)) (ap is_done e) (x.ends p l) in
      let id = admitted_there v g.kept s x.well h i d.0 d.1 undone (none p l) in
      ⊎_elim
      (λ (z : r ≡ d.0). row_there u.store r p l (subst (λ (n : ℕ). RowIs u.store n i) (sym z) new) id)
      (λ (z : r < d.0).
      let b = grown_after v s salvage_origin i in
      let o : Message v.store r = record { some = m.some; held = omega (arith, c.0) } in
      let y = h r o in
      record {
        row = y.row;
        has = record { message = y.has.message; id = y.has.id ∙ sym (id_later v u s b r o) };
        key = y.key ∙ sym (key_later v u s b r o);
        index = y.index ∙ sym (index_later v u s b r o);
      })
      (eq-or-lt_of_le (omega (arith, m.held, c.0, c.1))))
      (λ d. subst (λ (u : Kept). Within u.store g.kept.store) (sym (undone_after v s salvage_origin (item_of is p) d)) h)
      (done_or_not (answer_to v (item_of is p)))

  -- All items of an order.
  pub within_all : (ps : List ℕ) (v : Kept) → Sound v → Within v.store g.kept.store → ((p : ℕ) → among p ps ≡ true → p < length is)
      → Within (kept_after_all v salvage_origin (items_in is ps)).store g.kept.store
  unfolding kept_after_all items_in among
  within_all [] v s h l = h
  within_all (p ∷ ps) v s h l =
      let first : p < length is = l p (either_first (eqb p p) (among p ps) (eq-eqb p p refl)) in
      within_all ps (kept_after v salvage_origin (item_of is p)) (sound_after v s salvage_origin (item_of is p)) (within_after v s h p first)
      (λ q e. l q (either_second (eqb q p) (among q ps) e))
