-- All messages of some stores that agree on ids, as one store of chains. Nothing is asked of how many they are, and no store need hold them
-- all.
-- Assumes nothing.
use Prim.Native.Nat.{ℕ, suc, ◌+◌, ◌*◌, ◌%◌, ◌≤◌, ◌<◌}
use mathlib.Core.Path.{◌≡◌, refl, sym, ap, ◌∙◌, subst}
use mathlib.Core.List.{List}
use mathlib.Core.Logic.{inl, inr}
use mathlib.Core.Option.{Option, none, some, IsSome}
use native.Mathlib.Omega.{arith}
use native.Mathlib.Nat.{suc-mul, mul-le-mul_right}
use borrow.Author.Tests.{ne_eqb}
use lib.Arith.{digits_mod}
use lib.Dec.{eqb}
use Rattle.basics.specs.Pick.{pick}
use Rattle.chunks.specs.Bytes.{id_num}
use Rattle.chunks.proofs.Numbers.{number_says}
use Rattle.chunks.proofs.Pieces.{bytes_piece}
use Rattle.store.specs.Table.{Table, prev_of, index_of, id_at}
use Rattle.store.specs.Paper.{Message}
use Rattle.store.proofs.Facts.{length_id, index_counted, index_within}
use Rattle.store.proofs.Validity.{none_index}
use Rattle.chains.specs.Chain.{Store, RowOf, Node, Valid}
use Rattle.chains.specs.Elsewhere.{CarriesOn}
use Rattle.chains.proofs.Elsewhere.{rows_closed}
use Rattle.logs.specs.Held.{chain_of}
use Rattle.logs.proofs.Tables.{chain_valid}
use Rattle.standing.specs.Standing.{id_of}
use Rattle.standing.proofs.Rows.{Place, row_message, id_none, id_some}
use Rattle.across.specs.Stores.{TwoStores}
use Rattle.across.proofs.Places.{some_id, same_id_lem, prev_place}
use Rattle.across.proofs.Numbering.{Among, At, code, place, find, FoundAt, find_is, find_some}

module _ (b : ℕ) where
  -- What a number has: its previous number, its index, and its id as a number. What no table holds has none, is a first message, and has a
  -- number above all ids.
  abbrev pub prev_at : Option At → ℕ
  prev_at none = 0
  prev_at (some a) = place b a.table (prev_of a.table a.row)

  abbrev pub index_at : Option At → ℕ
  index_at none = 1
  index_at (some a) = index_of a.table a.row

  abbrev pub key_of_at : ℕ → Option At → ℕ
  key_of_at c none = b + c
  key_of_at c (some a) = id_num (id_at a.table a.row)

  -- All messages of the tables as one store of chains. One author is enough: previous links do not leave an author.
  unfoldable pub world : List Table → Store
  world ts =
      record {
        count = 1025 * b;
        author = λ c. 1;
        prev = λ c. prev_at (find b ts c);
        index = λ c. pick (eqb c 0) 0 (index_at (find b ts c));
        key = λ c. key_of_at c (find b ts c);
      }

  module _ (ts : List Table) (agree : (t u : Table) → Among t ts → Among u ts → TwoStores t u)
      (small : (t : Table) → Among t ts → (x : ℕ) → Message t x → id_num (id_at t x) < b) where
    -- Numbers of messages that are one are of one id,
    pub same_code : (t u : Table) → Among t ts → Among u ts → (x y : ℕ) → Message t x → Message u y → code b t x ≡ code b u y → id_at t x ≡ id_at u y
    same_code t u i j x y m n e =
        let s = agree t u i j in
        let k : id_num (id_at t x) ≡ id_num (id_at u y) =
        sym (digits_mod (index_of t x) (small t i x m)) ∙ ap (λ (c : ℕ). c % b) e ∙ digits_mod (index_of u y) (small u j y n) in
        number_says (id_at t x) (id_at u y) (length_id t s.first x m.held m.some ∙ sym (length_id u s.second y n.held n.some))
        (bytes_piece t.ids x s.first_ids) (bytes_piece u.ids y s.second_ids) k

    -- and messages with one id have one number.
    pub same_number : (t u : Table) → Among t ts → Among u ts → (x y : ℕ) → Message t x → Message u y → id_at t x ≡ id_at u y → code b t x ≡ code b u y
    same_number t u i j x y m n e = rw ((agree t u i j).agree.index x y m n e, e)

    -- So have places.
    pub same_place : (t u : Table) → Among t ts → Among u ts → (x y : ℕ) → Place t x → Place u y → id_of t x ≡ id_of u y → place b t x ≡ place b u y
    same_place t u i j x y (inl z) (inl v) e = rw (z, v)
    same_place t u i j x y (inl z) (inr n) e = absurd (some_id (sym (id_some u y n.some) ∙ sym e ∙ id_none t x z))
    same_place t u i j x y (inr m) (inl v) e = absurd (some_id (sym (id_some t x m.some) ∙ e ∙ id_none u y v))
    same_place t u i j x y (inr m) (inr n) e =
        rw (ne_eqb x 0 (λ z. let h = m.some in omega arith), ne_eqb y 0 (λ z. let h = n.some in omega arith))
        (same_number t u i j x y m n (same_id_lem (sym (id_some t x m.some) ∙ e ∙ id_some u y n.some)))

    -- What the world has of the number of a message is what the message has.
    record Has (c : ℕ) (t : Table) (x : ℕ) (o : Option At) : Type 0 where
      prev : prev_at o ≡ place b t (prev_of t x)
      index : index_at o ≡ index_of t x
      key : key_of_at c o ≡ id_num (id_at t x)

    has : (t : Table) → Among t ts → (x : ℕ) → Message t x → Has (code b t x) t x (find b ts (code b t x))
    has t i x m = here (find b ts (code b t x)) (find_is b ts (code b t x)) (find_some b ts (code b t x) t x i m refl)
      where
        here : (o : Option At) → FoundAt b ts (code b t x) o → IsSome o → Has (code b t x) t x o
        here none h s = absurd s
        here (some a) h s =
            let u = a.table in
            let y = a.row in
            let e = same_code u t h.among i y x h.row m h.number in
            let g = agree u t h.among i in
            record {
              prev = same_place u t h.among i (prev_of u y) (prev_of t x) (prev_place u g.first y (inr h.row)) (prev_place t g.second x (inr m))
                  (g.agree.previous y x h.row m e);
              index = g.agree.index y x h.row m e;
              key = ap id_num e;
            }

    -- A message's number is some number, within the count,
    pub code_some : (t : Table) → Among t ts → (x : ℕ) → Message t x → 1 ≤ code b t x
    code_some t i x m =
        let s = agree t t i i in
        let k = small t i x m in
        let e : index_of t x ≡ suc (index_of t (prev_of t x)) = let c = index_counted t s.first x m.held m.some in omega arith in
        let f : index_of t x * b ≡ index_of t (prev_of t x) * b + b = ap (λ (n : ℕ). n * b) e ∙ suc-mul (index_of t (prev_of t x)) b in
        omega arith

    code_held : (t : Table) → Among t ts → (x : ℕ) → Message t x → code b t x ≤ 1025 * b
    code_held t i x m =
        let s = agree t t i i in
        let k = small t i x m in
        let h : index_of t x ≤ 1024 = let a = index_within t s.first x m.held in let l = s.first.rows_limit in let n = m.held in omega arith in
        let g : index_of t x * b ≤ 1024 * b = mul-le-mul_right b h in
        omega arith

    -- and above that of its previous message.
    code_older : (t : Table) → Among t ts → (x : ℕ) → Message t x → place b t (prev_of t x) < code b t x
    code_older t i x m = here (prev_place t (agree t t i i).first x (inr m))
      where
        here : Place t (prev_of t x) → place b t (prev_of t x) < code b t x
        here (inl z) = let o = code_some t i x m in rw z o
        here (inr p) =
            let s = agree t t i i in
            let k = small t i (prev_of t x) p in
            let e : index_of t x ≡ suc (index_of t (prev_of t x)) = let c = index_counted t s.first x m.held m.some in omega arith in
            let f : index_of t x * b ≡ index_of t (prev_of t x) * b + b = ap (λ (n : ℕ). n * b) e ∙ suc-mul (index_of t (prev_of t x)) b in
            let q : place b t (prev_of t x) ≡ code b t (prev_of t x) = rw (ne_eqb (prev_of t x) 0 (λ z. let h = p.some in omega arith)) in
            omega arith

    -- The number of a place is none or a row of the world,
    pub place_node : (t : Table) → Among t ts → (x : ℕ) → Place t x → Node (world ts) 1 (place b t x)
    unfolding world
    place_node t i x (inl z) = inl (rw z)
    place_node t i x (inr m) =
        let q : place b t x ≡ code b t x = rw (ne_eqb x 0 (λ z. let h = m.some in omega arith)) in
        inr (subst (RowOf (world ts) 1) (sym q) (record { some = code_some t i x m; held = code_held t i x m; by = refl }))

    -- with its index.
    place_index : (t : Table) → Among t ts → (x : ℕ) → Place t x → (world ts).index (place b t x) ≡ index_of t x
    unfolding world
    place_index t i x (inl z) = rw z (sym (none_index t))
    place_index t i x (inr m) =
        let q : place b t x ≡ code b t x = rw (ne_eqb x 0 (λ z. let h = m.some in omega arith)) in
        rw (q, ne_eqb (code b t x) 0 (λ z. let h = code_some t i x m in omega arith)) (has t i x m).index

    -- No message has the number 0.
    zero_none : (o : Option At) → FoundAt b ts 0 o → prev_at o ≡ 0
    zero_none none h = refl
    zero_none (some a) h = absurd (let o = code_some a.table h.among a.row h.row in let n = h.number in omega arith)

    -- What is found of a number that is one stands on an earlier number, of which the index is one less.
    older_at : (c : ℕ) → 1 ≤ c → (o : Option At) → FoundAt b ts c o → prev_at o < c
    older_at c h none f = omega arith
    older_at c h (some a) f = let o = code_older a.table f.among a.row f.row in let n = f.number in omega arith

    own_at : (c : ℕ) (o : Option At) → FoundAt b ts c o → Node (world ts) 1 (prev_at o)
    own_at c none f = inl refl
    own_at c (some a) f =
        place_node a.table f.among (prev_of a.table a.row) (prev_place a.table (agree a.table a.table f.among f.among).first a.row
        (inr f.row))

    counted_at_lem : (c : ℕ) (o : Option At) → FoundAt b ts c o → index_at o ≡ suc ((world ts).index (prev_at o))
    unfolding world
    counted_at_lem c none f = refl
    counted_at_lem c (some a) f =
        let t = a.table in
        let x = a.row in
        let w = (agree t t f.among f.among).first in
        let d = index_counted t w x f.row.held f.row.some in
        let e = place_index t f.among (prev_of t x) (prev_place t w x (inr f.row)) in
        omega arith

    distinct_at : (c d : ℕ) (o q : Option At) → FoundAt b ts c o → FoundAt b ts d q → key_of_at c o ≡ key_of_at d q → c ≡ d
    distinct_at c d none none f g e = omega arith
    distinct_at c d none (some a) f g e = absurd (let k = small a.table g.among a.row g.row in omega arith)
    distinct_at c d (some a) none f g e = absurd (let k = small a.table f.among a.row f.row in omega arith)
    distinct_at c d (some a) (some z) f g e =
        let s = agree a.table z.table f.among g.among in
        let l = length_id a.table s.first a.row f.row.held f.row.some in
        let m = length_id z.table s.second z.row g.row.held g.row.some in
        let i = number_says (id_at a.table a.row) (id_at z.table z.row) (l ∙ sym m) (bytes_piece a.table.ids a.row s.first_ids)
        (bytes_piece z.table.ids z.row s.second_ids) e in
        sym f.number ∙ same_number a.table z.table f.among g.among a.row z.row f.row g.row i ∙ g.number

    -- The world is a valid store of chains.
    pub world_valid : Valid (world ts)
    unfolding world
    world_valid =
        record {
          none_prev = zero_none (find b ts 0) (find_is b ts 0);
          none_index = refl;
          older = λ A c r. older_at c r.some (find b ts c) (find_is b ts c);
          own = λ A c r. subst (λ (a : ℕ). Node (world ts) a (prev_at (find b ts c))) r.by (own_at c (find b ts c) (find_is b ts c));
          counted = λ A c r.
              subst (λ (n : ℕ). n ≡ suc ((world ts).index (prev_at (find b ts c))))
              (sym (ap (λ q. pick q 0 (index_at (find b ts c))) (ne_eqb c 0 (λ z. let h = r.some in omega arith))))
              (counted_at_lem c (find b ts c) (find_is b ts c));
          distinct = λ A B c d r q e. distinct_at c d (find b ts c) (find b ts d) (find_is b ts c) (find_is b ts d) e;
        }

    -- The messages of an author of a table are carried into it.
    pub world_carries : (t : Table) → Among t ts → (A : ℕ) → CarriesOn (chain_of t) (world ts) A 1 (RowOf (chain_of t) A) (place b t)
    unfolding world
    world_carries t i A =
        record {
          closed = rows_closed (chain_of t) (chain_valid t s.first s.first_ids) A;
          none = refl;
          row = row;
          prev = λ x r. ap (λ c. prev_at (find b ts c)) (number x r) ∙ (has t i x (row_message t A x r)).prev;
          key = λ x r. ap (λ c. key_of_at c (find b ts c)) (number x r) ∙ (has t i x (row_message t A x r)).key;
        }
      where
        s : TwoStores t t
        s = agree t t i i

        number : (x : ℕ) → RowOf (chain_of t) A x → place b t x ≡ code b t x
        number x r = rw (ne_eqb x 0 (λ z. let h = r.some in omega arith))

        row : (x : ℕ) → RowOf (chain_of t) A x → RowOf (world ts) 1 (place b t x)
        row x r =
            subst (RowOf (world ts) 1) (sym (number x r))
            (record { some = code_some t i x (row_message t A x r); held = code_held t i x (row_message t A x r); by = refl })
