-- Messages of some stores by a number of their index and id, which is the same whichever store holds the message; and the message of a number.
-- Assumes nothing.
use Prim.Native.Nat.{ℕ, zero, suc, ◌+◌, ◌*◌, ◌≤◌}
use mathlib.Core.Path.{◌≡◌, refl, sym, ap, ◌∙◌, subst}
use mathlib.Core.List.{List, [], ◌∷◌}
use mathlib.Core.Logic.{◌⊎◌, inl, inr, ⊎_elim, ◌≢◌}
use mathlib.Core.Option.{Option, none, some, IsSome}
use native.Mathlib.Omega.{arith}
use lib.Dec.{eqb}
use Rattle.basics.specs.Pick.{pick}
use Rattle.basics.proofs.Tests.{by_eqb}
use Rattle.chunks.specs.Bytes.{id_num}
use Rattle.store.specs.Table.{Table, index_of, id_at}
use Rattle.store.specs.Paper.{Message}

-- A table is one of a list.
abbrev pub Among : Table → List Table → Type 0
Among t [] = ⊥
Among t (u ∷ us) = (t ≡ u) ⊎ Among t us

-- A row of a table.
pub record At : Type 0 where
  pub table : Table
  pub row : ℕ

module _ (b : ℕ) where
  -- The number of a message, of its index and its id,
  abbrev pub code : Table → ℕ → ℕ
  code t x = index_of t x * b + id_num (id_at t x)

  -- and of a place: none is none.
  abbrev pub place : Table → ℕ → ℕ
  place t x = pick (eqb x 0) 0 (code t x)

  -- The row of a table, of the first `n`, that has a number; 0 where none has.
  unfoldable pub seek : Table → ℕ → ℕ → ℕ
  seek t c zero = 0
  seek t c (suc n) = pick (eqb (code t (suc n)) c) (suc n) (seek t c n)

  -- It has the number,
  seek_is : (t : Table) (c n : ℕ) → seek t c n ≢ 0 → (1 ≤ seek t c n) × ((seek t c n ≤ n) × (code t (seek t c n) ≡ c))
  unfolding seek
  seek_is t c zero = λ h. absurd (h refl)
  seek_is t c (suc n) =
      by_eqb (λ q. pick q (suc n) (seek t c n) ≢ 0
      → (1 ≤ pick q (suc n) (seek t c n)) × ((pick q (suc n) (seek t c n) ≤ suc n) × (code t (pick q (suc n) (seek t c n)) ≡ c)))
      (code t (suc n)) c (λ e h. (omega arith, (omega arith, e)))
      (λ d h. let i = seek_is t c n h in (i.0, (let j = i.1.0 in omega arith, i.1.1)))

  -- and is found where one has.
  seek_some : (t : Table) (c n x : ℕ) → 1 ≤ x → x ≤ n → code t x ≡ c → seek t c n ≢ 0
  unfolding seek
  seek_some t c zero x h l e = absurd (omega arith)
  seek_some t c (suc n) x h l e =
      by_eqb (λ q. pick q (suc n) (seek t c n) ≢ 0) (code t (suc n)) c (λ f z. omega arith)
      (λ d. seek_some t c n x h (below d) e)
    where
      below : (code t (suc n) ≡ c → ⊥) → x ≤ n
      below d = by_eqb (λ q. x ≤ n) x (suc n) (λ f. absurd (d (ap (code t) (sym f) ∙ e))) (λ f. omega arith)

  -- The first row of some tables that has a number.
  unfoldable pub find : List Table → ℕ → Option At
  find [] c = none
  find (t ∷ ts) c = pick (eqb (seek t c t.counts.rows) 0) (find ts c) (some (record { table = t; row = seek t c t.counts.rows }))

  -- What is found is a row of one of them that has the number.
  pub record IsAt (ts : List Table) (c : ℕ) (a : At) : Type 0 where
    pub among : Among a.table ts
    pub row : Message a.table a.row
    pub number : code a.table a.row ≡ c

  abbrev pub FoundAt : List Table → ℕ → Option At → Type 0
  FoundAt ts c none = Unit {0}
  FoundAt ts c (some a) = IsAt ts c a

  found_later : (t : Table) (ts : List Table) (c : ℕ) (o : Option At) → FoundAt ts c o → FoundAt (t ∷ ts) c o
  found_later t ts c none h = h
  found_later t ts c (some a) h = record { among = inr h.among; row = h.row; number = h.number }

  pub find_is : (ts : List Table) (c : ℕ) → FoundAt ts c (find ts c)
  unfolding find
  find_is [] c = tt
  find_is (t ∷ ts) c =
      by_eqb (λ q. FoundAt (t ∷ ts) c (pick q (find ts c) (some (record { table = t; row = seek t c t.counts.rows })))) (seek t c t.counts.rows) 0
      (λ e. found_later t ts c (find ts c) (find_is ts c))
      (λ d. let i = seek_is t c t.counts.rows d in record { among = inl refl; row = record { some = i.0; held = i.1.0 }; number = i.1.1 })

  -- Where one of them has the number, something is found.
  pub find_some : (ts : List Table) (c : ℕ) (t : Table) (x : ℕ) → Among t ts → Message t x → code t x ≡ c → IsSome (find ts c)
  unfolding find
  find_some [] c t x h m e = absurd h
  find_some (u ∷ ts) c t x h m e =
      by_eqb (λ q. IsSome (pick q (find ts c) (some (record { table = u; row = seek u c u.counts.rows })))) (seek u c u.counts.rows) 0
      (λ z. ⊎_elim (λ q. absurd (first q z)) (λ q. find_some ts c t x q m e) h) (λ z. tt)
    where
      first : t ≡ u → seek u c u.counts.rows ≡ 0 → ⊥
      first q z = seek_some t c t.counts.rows x m.some m.held e (subst (λ (v : Table). seek v c v.counts.rows ≡ 0) (sym q) z)
