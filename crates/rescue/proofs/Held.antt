-- The rows of a salvaged store are the kept items, in order: the place of a kept item is its row.
-- Assumes nothing.
use Prim.Native.Nat.{ℕ, zero, suc, ◌+◌, ◌<◌}
use mathlib.Core.Path.{◌≡◌, refl, sym, ap, subst, ◌∙◌}
use mathlib.Core.Bool.{Bool, true, false}
use mathlib.Core.List.{List, [], ◌∷◌, ◌++◌}
use mathlib.Core.Logic.{⊎_elim}
use native.Mathlib.Omega.{arith}
use native.Mathlib.Nat.{eq-or-lt_of_le}
use borrow.Author.Tests.{eqb-true, eq-eqb, ne_eqb}
use lib.Dec.{eqb, leb}
use lib.ListN.{length, length-append}
use Rattle.basics.specs.Pick.{pick, either}
use Rattle.basics.proofs.Tests.{by_ltb, by_eqb, either_cases, either_first, not_both_ways}
use Rattle.item.specs.Id.{id_of}
use Rattle.item.specs.Laid.{IsItem}
use Rattle.item.specs.declared.Fields.{Fields}
use Rattle.item.proofs.Places.{item_sound}
use Rattle.store.specs.Paper.{Message}
use Rattle.store.specs.Table.{row_at, author_of, key_at}
use Rattle.store.specs.declared.Row.{Row}
use Rattle.judging.specs.Message.{row_with}
use Rattle.judging.specs.Verdict.{chain_tests, then_deps, then_room, then_judged, verdict_of}
use Rattle.judging.specs.declared.Verdict.{Verdict}
use Rattle.judging.specs.declared.Verdict.TheVariants.{Holds}
use Rattle.admission.specs.After.{answer_of}
use Rattle.admission.specs.Paper.{Has}
use Rattle.admission.specs.declared.Admitted.TheVariants.{Done, Held}
use Rattle.admission.proofs.Accepting.{found_has}
use Rattle.origins.specs.Origins.{without_place}
use Rattle.morning.specs.Intake.{Kept, Sound, answer_to, kept_after}
use Rattle.rescue.specs.Greedy.{Salvage, begun, salvage_origin, item_of, among, free, next_item, keep, turn, greedy, place_in}
use Rattle.rescue.specs.Growing.{Grown}
use Rattle.rescue.specs.Orders.{RowIs}
use Rattle.rescue.proofs.Growth.{done_count, done_has, done_accepted, done_row, grown_after, has_later, key_later, index_later}
use Rattle.rescue.proofs.Lost.{one_layout}
use Rattle.rescue.proofs.Ordered.{free_done, run_greedy}
use Rattle.rescue.proofs.Sums.{among_more, among_last}
use Rattle.rescue.proofs.Turns.{turn_next, turn_none, next_free, free_new}

-- HELD: an item with mark 1 whose id the store has is answered with the row that has it.
pub held_answer : (k : Kept) → Sound k → (i : List ℕ) (f : Fields) → IsItem i f → f.mark ≡ 1 → (r : ℕ) → Has k.store (id_of i) r → answer_to k i ≡ Held r
unfolding then_judged then_room then_deps chain_tests without_place
held_answer k w i f t m r h = placed (leb (length k.origins) k.store.counts.rows)
  where
    z : row_with k.store (id_of i) ≡ r
    z = found_has k.store w.store (id_of i) r h

    verdict : verdict_of k.store i ≡ Holds r
    verdict =
        ap (then_judged k.store i) (item_sound i f t)
        ∙ rw (m, z, ne_eqb r 0 (λ (e : r ≡ 0). omega (arith, h.message.some)))

    placed : (b : Bool) → answer_of k.store (pick b (without_place (verdict_of k.store i)) (verdict_of k.store i)) ≡ Held r
    placed true = ap (λ (v : Verdict). answer_of k.store (without_place v)) verdict
    placed false = ap (answer_of k.store) verdict

-- A row is an item's in every store that came of this one.
pub row_later : (k l : Kept) → Sound k → Grown k l → (r : ℕ) (i : List ℕ) → RowIs k.store r i → RowIs l.store r i
row_later k l w g r i x =
    record {
      fields = x.fields;
      item = x.item;
      marked = x.marked;
      has = has_later k l w g (id_of i) r x.has;
      key = key_later k l w g r x.has.message ∙ x.key;
      index = index_later k l w g r x.has.message ∙ x.index;
    }

-- The row of a done admission is the item's.
pub row_new : (k : Kept) → Sound k → (g : ℕ) (i : List ℕ) (n : ℕ) → answer_to k i ≡ Done n → RowIs (kept_after k g i).store n i
row_new k w g i n e =
    let x = done_row k w g i n e in
    let f = x.1.0 in
    let row = x.1.1.0 in
    let of = x.1.1.1.0 in
    let grows = x.1.1.1.1 in
    let u = (kept_after k g i).store in
    let here : row_at u.rows n ≡ row = ap (row_at u.rows) x.0 ∙ grows.row_new in
    let a : author_of u n ≡ row.author = ap (λ (y : Row). y.author) here in
    let c = (done_accepted k w g i n e).0 in
    record {
      fields = f;
      item = of.item;
      marked = ap (λ (y : Fields). y.mark) (one_layout i f c.0 (item_sound i f of.item) (item_sound i c.0 c.1.item)) ∙ c.1.m5;
      has = done_has k w g i n e;
      key = ap (key_at u) a ∙ grows.key_new;
      index = ap (λ (y : Row). y.index) here ∙ of.index;
    }

-- The place of the last number of an order, where it is there once,
pub place_last : (p : ℕ) (qs : List ℕ) → among p qs ≡ false → place_in p (qs ++ (p ∷ [])) ≡ length qs + 1
unfolding place_in among
place_last p [] e = rw (eq-eqb p p refl)
place_last p (q ∷ qs) e =
    by_eqb (λ b. either b (among p qs) ≡ false → pick b 1 (suc (place_in p (qs ++ (p ∷ [])))) ≡ suc (length qs) + 1) p q
    (λ _ z. absurd (not_both_ways true refl z)) (λ _ z. let h = place_last p qs z in omega arith) e

-- and that of an earlier one.
pub place_before : (p : ℕ) (qs : List ℕ) (q : ℕ) → among p qs ≡ true → place_in p (qs ++ (q ∷ [])) ≡ place_in p qs
unfolding place_in among
place_before p [] q e = absurd (not_both_ways false e refl)
place_before p (x ∷ qs) q e =
    by_eqb (λ b. either b (among p qs) ≡ true → pick b 1 (suc (place_in p (qs ++ (q ∷ [])))) ≡ pick b 1 (suc (place_in p qs))) p x
    (λ _ z. refl) (λ _ z. ap suc (place_before p qs q z)) e

-- A kept item, by its row.
pub record KeptAs (g : Salvage) (row : ℕ) : Type 0 where
  pub number : ℕ
  pub kept : among number g.order ≡ true
  pub place : place_in number g.order ≡ row

-- The rows of what is salvaged from an empty store: each kept item has the row of its place, and each row is such an item's.
pub record Rows (is : List (List ℕ)) (g : Salvage) : Type 0 where
  pub many : g.kept.store.counts.rows ≡ length g.order
  pub row_of : (p : ℕ) → among p g.order ≡ true → RowIs g.kept.store (place_in p g.order) (item_of is p)
  pub item_of : (r : ℕ) → Message g.kept.store r → KeptAs g r

-- One free item more.
rows_keep : (is : List (List ℕ)) (g : Salvage) (p : ℕ) → Sound g.kept → free is g p ≡ true → Rows is g → Rows is (keep is g p)
rows_keep is g p w f rows =
    let d = free_done is g p f in
    let i = item_of is p in
    let k = g.kept in
    let l = kept_after k salvage_origin i in
    let c = done_count k w salvage_origin i d.0 d.1 in
    let m = rows.many in
    let new : place_in p (g.order ++ (p ∷ [])) ≡ d.0 = place_last p g.order (free_new is g p f) ∙ sym (c.0 ∙ ap (λ (n : ℕ). n + 1) m) in
    record {
      many = c.1 ∙ ap (λ (n : ℕ). n + 1) m ∙ sym (length-append g.order (p ∷ []));
      row_of =
          λ q b.
          ⊎_elim
          (λ (a : among q g.order ≡ true).
          subst (λ (r : ℕ). RowIs l.store r (item_of is q)) (sym (place_before q g.order p a))
          (row_later k l w (grown_after k w salvage_origin i) (place_in q g.order) (item_of is q) (rows.row_of q a)))
          (λ (a : eqb q p ≡ true).
          subst (λ (n : ℕ). RowIs l.store (place_in n (g.order ++ (p ∷ []))) (item_of is n)) (sym (eqb-true q p a))
          (subst (λ (r : ℕ). RowIs l.store r i) (sym new) (row_new k w salvage_origin i d.0 d.1)))
          (either_cases (among q g.order) (eqb q p) (sym (among_more q g.order p) ∙ b));
      item_of =
          λ r h.
          ⊎_elim
          (λ (z : r ≡ d.0). record { number = p; kept = among_last p g.order; place = new ∙ sym z })
          (λ (z : r < d.0).
          let x = rows.item_of r (record { some = h.some; held = omega (arith, c.0) }) in
          record {
            number = x.number;
            kept = among_more x.number g.order p ∙ either_first (among x.number g.order) (eqb x.number p) x.kept;
            place = place_before x.number g.order p x.kept ∙ x.place;
          })
          (eq-or-lt_of_le (omega (arith, h.held, c.0, c.1)));
    }

-- So many turns from an empty store.
pub rows_greedy : (is : List (List ℕ)) (k : Kept) → Sound k → k.store.counts.rows ≡ 0 → (n : ℕ) → Rows is (greedy is (begun k) n)
unfolding greedy among
rows_greedy is k w z zero =
    record { many = z; row_of = λ p e. absurd (not_both_ways false e refl); item_of = λ r h. absurd (omega (arith, h.some, h.held)) }
rows_greedy is k w z (suc n) =
    let g = greedy is (begun k) n in
    let rows = rows_greedy is k w z n in
    by_ltb (λ _. Rows is (turn is g)) (next_item is g) (length is)
    (λ l. subst (Rows is) (sym (turn_next is g l)) (rows_keep is g (next_item is g) (run_greedy is k w n).well (next_free is g l) rows))
    (λ l. subst (Rows is) (sym (turn_none is g l)) rows)

-- KEPT HELD: the final store answers the kept item of each place with HELD and that row.
pub kept_held : (is : List (List ℕ)) (g : Salvage) → Sound g.kept → Rows is g → (p : ℕ) → among p g.order ≡ true
    → answer_to g.kept (item_of is p) ≡ Held (place_in p g.order)
kept_held is g w rows p e =
    let x = rows.row_of p e in
    held_answer g.kept w (item_of is p) x.fields x.item x.marked (place_in p g.order) x.has
