-- What a salvage leaves of the lent parts: every kept row has the origin 0, and room beyond stays.
-- Assumes nothing.
use Prim.Native.Nat.{ℕ, zero, suc, ◌-◌, ◌*◌, ◌≤◌, ◌<◌}
use mathlib.Core.Path.{◌≡◌, refl, sym, ap, subst, ◌∙◌}
use mathlib.Core.Bool.{true}
use mathlib.Core.List.{List}
use mathlib.Core.Logic.{◌⊎◌, inl, inr, ⊎_elim, ◌≢◌}
use native.Mathlib.Omega.{arith}
use native.Mathlib.Nat.{eq-or-lt_of_le}
use borrow.Author.Tests.{eqb-true, eqb-false, ne_eqb, le-ltb}
use lib.Dec.{eqb}
use lib.ListN.{length, drop, get_or}
use lib.Seq.{drop-set-lt}
use Rattle.basics.proofs.Prefixes.{drop_rest}
use Rattle.basics.proofs.Tests.{by_ltb, by_test}
use Rattle.cutting.specs.Cutting.{items_of}
use Rattle.store.specs.Branches.{counted_at}
use Rattle.store.specs.Limits.{row_limit, author_limit}
use Rattle.store.specs.Table.{row_at, first_place, branch_place}
use Rattle.store.specs.declared.Row.{Row}
use Rattle.store.proofs.Facts.{author_held, prev_older}
use Rattle.admission.specs.declared.Admitted.{Admitted}
use Rattle.admission.specs.declared.Admitted.TheVariants.{Done}
use Rattle.origins.specs.Origins.{origins_after}
use Rattle.origins.proofs.Theorems.{done_origin}
use Rattle.morning.specs.Intake.{Kept, Sound, answer_to, kept_after}
use Rattle.rescue.specs.Greedy.{Salvage, begun, salvage_origin, item_of, free, next_item, keep, turn, greedy}
use Rattle.rescue.specs.Growing.{Grown}
use Rattle.rescue.specs.Salvaging.{Lent, empty_in, salvage_of}
use Rattle.rescue.specs.Wrote.{RoomStays}
use Rattle.rescue.proofs.Growth.{admitting_done, done_row, done_count, grown_after, sound_after}
use Rattle.rescue.proofs.Ordered.{free_done, run_greedy}
use Rattle.rescue.proofs.Theorems.{empty_sound}
use Rattle.rescue.proofs.Turns.{turn_next, turn_none, next_free}

-- A row of a store counts at the place of its author, or of the row before it.
counted_where : (row : Row) → 1 ≤ row.author → row.author ≤ author_limit → row.prev ≤ row_limit
    → ((row.prev ≡ 0) × (counted_at row ≡ first_place row.author)) ⊎ ((1 ≤ row.prev) × (counted_at row ≡ branch_place row.prev))
unfolding counted_at
counted_where row h k l =
    by_test (λ _. ((row.prev ≡ 0) × (counted_at row ≡ first_place row.author)) ⊎ ((1 ≤ row.prev) × (counted_at row ≡ branch_place row.prev)))
    (eqb row.prev 0)
    (λ e. inl (eqb-true row.prev 0 e, rw (e, ne_eqb row.author 0 (λ z. omega arith), le-ltb author_limit row.author k)))
    (λ e.
    let z : row.prev ≢ 0 = eqb-false row.prev 0 e in
    inr (omega arith, rw (e, le-ltb row_limit row.prev l)))

-- Room that stayed stays.
stays_on : (k l m : Kept) → Grown l m → RoomStays k l → RoomStays l m → RoomStays k m
stays_on k l m g r s =
    let t = k.store in
    let u = l.store in
    let v = m.store in
    record {
      keys =
          s.keys ∙ drop_rest (v.counts.authors * 32) (u.counts.authors * 32) u.keys t.keys (omega (arith, g.authors)) r.keys;
      ids = s.ids ∙ drop_rest (v.counts.rows * 32) (u.counts.rows * 32) u.ids t.ids (omega (arith, g.rows)) r.ids;
      rows = s.rows ∙ drop_rest (v.counts.rows * 4) (u.counts.rows * 4) u.rows t.rows (omega (arith, g.rows)) r.rows;
      deps = s.deps ∙ drop_rest v.counts.deps u.counts.deps u.deps t.deps g.deps r.deps;
      firsts = λ a h n. s.firsts a h n ∙ r.firsts a (omega (arith, g.authors)) n;
      branches = λ x h. s.branches x h ∙ r.branches x (omega (arith, g.rows));
      origins = s.origins ∙ drop_rest v.counts.rows u.counts.rows l.origins k.origins g.rows r.origins;
    }

-- A done admission leaves the room beyond.
stays_row : (k : Kept) → Sound k → (i : List ℕ) (n : ℕ) → answer_to k i ≡ Done n → RoomStays k (kept_after k salvage_origin i)
stays_row k w i n e =
    let x = done_row k w salvage_origin i n e in
    let row = x.1.1.0 in
    let g = x.1.1.1.1 in
    let c = done_count k w salvage_origin i n e in
    let u = (kept_after k salvage_origin i).store in
    let v = (sound_after k w salvage_origin i).store in
    let here : row_at u.rows n ≡ row = ap (row_at u.rows) x.0 ∙ g.row_new in
    let held : n ≤ u.counts.rows = omega (arith, c.0, c.1) in
    let some : 1 ≤ n = omega (arith, c.0) in
    let a : (1 ≤ row.author) × (row.author ≤ u.counts.authors) =
    subst (λ (y : Row). (1 ≤ y.author) × (y.author ≤ u.counts.authors)) here (author_held u v n held some) in
    let p : row.prev < n = subst (λ (y : Row). y.prev < n) here (prev_older u v n held some) in
    let at = counted_where row a.0 (omega (arith, a.1, v.authors_limit)) (omega (arith, p, held, v.rows_limit)) in
    record {
      keys = g.keys_beyond;
      ids = g.ids_beyond;
      rows = g.rows_beyond;
      deps = g.deps_beyond;
      firsts =
          λ b h m.
          g.branches_new.others (first_place b) (λ z. omega arith)
          (λ z. ⊎_elim (λ q. omega (arith, q.1, a.0, a.1)) (λ q. omega (arith, q.1)) at);
      branches =
          λ r h.
          g.branches_new.others (branch_place r) (λ z. omega (arith, c.0, c.1, x.0))
          (λ z. ⊎_elim (λ q. omega (arith, q.1, a.0, a.1, v.authors_limit)) (λ q. omega (arith, q.0, q.1, p, held)) at);
      origins =
          ap (λ (y : Admitted). drop u.counts.rows (origins_after k.origins salvage_origin y)) e
          ∙ drop-set-lt u.counts.rows k.origins (n - 1) salvage_origin (omega (arith, c.0, c.1));
    }

-- Nothing was changed.
stays_still : (k : Kept) → RoomStays k k
stays_still k =
    record { keys = refl; ids = refl; rows = refl; deps = refl; firsts = λ a h m. refl; branches = λ r h. refl; origins = refl }

-- What so many turns leave: the origins of all rows are 0, and room beyond stays.
record Left (k : Kept) (g : Salvage) : Type 0 where
  zeros : (r : ℕ) → 1 ≤ r → r ≤ g.kept.store.counts.rows → get_or g.kept.origins (r - 1) 0 ≡ 0
  stays : RoomStays k g.kept

-- One free item more.
left_keep : (is : List (List ℕ)) (k : Kept) (g : Salvage) (p : ℕ) → Sound g.kept → free is g p ≡ true → Left k g → Left k (keep is g p)
left_keep is k g p w f l =
    let d = free_done is g p f in
    let i = item_of is p in
    let m = g.kept in
    let u = kept_after m salvage_origin i in
    let c = done_count m w salvage_origin i d.0 d.1 in
    let o = (done_origin m.store m.origins salvage_origin i u.store u.origins d.0 (admitting_done m w salvage_origin i d.0 d.1)).1 in
    record {
      zeros =
          λ r s h.
          ⊎_elim (λ (z : r ≡ d.0). ap (λ (x : ℕ). get_or u.origins (x - 1) 0) z ∙ o.0)
          (λ (z : r < d.0). o.1 (r - 1) (λ y. omega arith) ∙ l.zeros r s (omega (arith, c.0)))
          (eq-or-lt_of_le (omega (arith, h, c.0, c.1)));
      stays = stays_on k m u (grown_after m w salvage_origin i) l.stays (stays_row m w i d.0 d.1);
    }

-- So many turns.
left_greedy : (is : List (List ℕ)) (k : Kept) → Sound k → k.store.counts.rows ≡ 0 → (n : ℕ) → Left k (greedy is (begun k) n)
unfolding greedy
left_greedy is k w z zero = record { zeros = λ r s h. absurd (omega arith); stays = stays_still k }
left_greedy is k w z (suc n) =
    let g = greedy is (begun k) n in
    let l = left_greedy is k w z n in
    by_ltb (λ _. Left k (turn is g)) (next_item is g) (length is)
    (λ h. subst (Left k) (sym (turn_next is g h)) (left_keep is k g (next_item is g) (run_greedy is k w n).well (next_free is g h) l))
    (λ h. subst (Left k) (sym (turn_none is g h)) l)

-- "The lent store .. ends with the kept items, origin 0;
pub origin_0 : (stick : List ℕ) (l : Lent) (r : ℕ) → 1 ≤ r → r ≤ (salvage_of stick l).kept.store.counts.rows
    → get_or (salvage_of stick l).kept.origins (r - 1) 0 ≡ 0
origin_0 stick l r s h = (left_greedy (items_of stick) (empty_in l) (empty_sound l) refl (length (items_of stick))).zeros r s h

-- room beyond stays."
pub room_stays : (stick : List ℕ) (l : Lent) → RoomStays (empty_in l) (salvage_of stick l).kept
room_stays stick l = (left_greedy (items_of stick) (empty_in l) (empty_sound l) refl (length (items_of stick))).stays
