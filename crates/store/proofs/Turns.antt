-- Turns and ends of the loops over the dependencies of a row: what is left of a list decides.
-- Assumes nothing.
use Prim.Native.Nat.{ℕ, zero, suc, ◌+◌, ◌-◌, ◌%◌, ◌≤◌, ◌<◌}
use mathlib.Core.Path.{◌≡◌, refl, sym, ap, ◌∙◌}
use mathlib.Core.Bool.{Bool, true, false, not, ◌||◌}
use lib.Dec.{eqb}
use Rattle.std.specs.List.{list_any}
use Rattle.basics.specs.Pick.{either}
use mathlib.Core.List.{List, [], ◌∷◌}
use mathlib.Core.Logic.{◌≢◌}
use native.Mathlib.Omega.{arith}
use lib.ListN.{length, take, drop, get_or, set, length-drop, drop_of_length-le}
use lib.Seq.{take_all, get_or-set_same, get_or-set_other}
use borrow.Author.Tests.{ne_eqb}
use Rattle.basics.proofs.Tests.{by_eqb}
use Rattle.chunks.proofs.Rest.{left_here, both_false}
use Rattle.store.specs.declared.Row.{Row}
use Rattle.store.specs.Table.{row_at, has_author, one_per_author}
use Rattle.store.specs.Authors.{Marked}
use Rattle.store.proofs.Depends.{author_in}

-- One of the two tests, in the words of the library.
either_or : (p q : Bool) → either p q ≡ (p || q)
either_or true q = refl
either_or false q = refl

-- Whether one of the rows is of the author, as a search of the list tests it.
pub has_any : (rows : List ℕ) (a : ℕ) (ds : List ℕ) → has_author rows a ds ≡ list_any (λ d. eqb (author_in rows d) a) ds
unfolding has_author
has_any rows a [] = refl
has_any rows a (d ∷ ds) = rw (has_any rows a ds) (either_or (eqb (author_in rows d) a) (list_any (λ x. eqb (author_in rows x) a) ds))

module _ (rows ds : List ℕ) (i : ℕ) where
  -- A row of another author leaves it to the rest.
  pub has_more : (a : ℕ) → i < length ds → author_in rows (get_or ds i 0) ≢ a → has_author rows a (drop i ds) ≡ has_author rows a (drop (i + 1) ds)
  unfolding has_author
  has_more a h e = rw (left_here ds i h, ne_eqb _ _ e)

  -- None is left.
  pub has_end : (a : ℕ) → length ds ≤ i → has_author rows a (drop i ds) ≡ false
  unfolding has_author
  has_end a h = rw (drop_of_length-le ds h)

  -- A row whose author comes no more leaves it to the rest.
  pub one_more : i < length ds → has_author rows (author_in rows (get_or ds i 0)) (drop (i + 1) ds) ≡ false
      → one_per_author rows (drop i ds) ≡ one_per_author rows (drop (i + 1) ds)
  unfolding one_per_author
  one_more h e = rw (left_here ds i h, e)

  -- A row whose author comes again says no.
  pub one_fails : i < length ds → has_author rows (author_in rows (get_or ds i 0)) (drop (i + 1) ds) ≡ true → one_per_author rows (drop i ds) ≡ false
  unfolding one_per_author
  one_fails h e = rw (left_here ds i h, e)

  -- None is left.
  pub one_end : length ds ≤ i → one_per_author rows (drop i ds) ≡ true
  unfolding one_per_author
  one_end h = rw (drop_of_length-le ds h)

-- A list of which some rest has an author twice has it twice.
pub one_of_rest : (rows ds : List ℕ) (i : ℕ) → one_per_author rows (drop i ds) ≡ false → one_per_author rows ds ≡ false
unfolding one_per_author
one_of_rest rows ds zero e = e
one_of_rest rows [] (suc i) e = e
one_of_rest rows (d ∷ ds) (suc i) e = rw (one_of_rest rows ds i e) (both_false (not (has_author rows (author_in rows d) ds)))

-- The part from a place on is the rest from there.
rest_all : (ds : List ℕ) (i : ℕ) → take (length ds - i) (drop i ds) ≡ drop i ds
rest_all ds i = take_all (length ds - i) (drop i ds) (rw length-drop (omega arith))

-- What a search in the part after a place says, with the numbers that the code has at hand.
pub has_rest : (rows ds : List ℕ) (i w : ℕ) (row : Row) (b : Bool) → w ≡ get_or ds i 0 → row ≡ row_at rows w
    → b ≡ has_author rows row.author (take (length ds - (i + 1)) (drop (i + 1) ds))
    → has_author rows (author_in rows (get_or ds i 0)) (drop (i + 1) ds) ≡ b
has_rest rows ds i w row b e f g =
    let a : row.author ≡ author_in rows (get_or ds i 0) = ap (λ (x : Row). x.author) f ∙ ap (author_in rows) e in
    ap (λ (x : ℕ). has_author rows x (drop (i + 1) ds)) (sym a)
    ∙ ap (has_author rows row.author) (sym (rest_all ds (i + 1))) ∙ sym g

module _ (rows ds marks : List ℕ) (i : ℕ) where
  -- A row more, whose author is marked.
  pub marked_more : (a : ℕ) → i < length ds → length marks ≡ 64 → a ≡ author_in rows (get_or ds i 0) → Marked rows marks (drop (i + 1) ds)
      → Marked rows (set marks (a % 64) 1) (drop i ds)
  marked_more a h l e m c z =
      by_eqb (λ _. has_author rows c (drop i ds) ≡ false) (c % 64) (a % 64)
      (λ q.
      let one : get_or (set marks (a % 64) 1) (c % 64) 0 ≡ 1 = rw q (get_or-set_same marks (a % 64) 1 0 (omega arith)) in
      absurd (omega arith))
      (λ n.
      has_more rows ds i c h (λ q. n (ap (λ (x : ℕ). x % 64) (sym q ∙ sym e)))
      ∙ m c (sym (get_or-set_other marks (a % 64) (c % 64) 1 0 n) ∙ z))
