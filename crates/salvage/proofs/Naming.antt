-- The laws of the ids that an item names.
-- Assumes nothing.
use Rattle.std.specs.Prelude.{Option, Some, None, Result, Ok, Err}
use Prim.Native.Nat.{ℕ, ◌+◌, ◌-◌, ◌≤◌, ◌<◌}
use mathlib.Core.Path.{◌≡◌, refl, sym, ap, subst, ◌∙◌}
use mathlib.Core.Bool.{Bool, true, false, not}
use mathlib.Core.List.{List}
use native.Mathlib.Omega.{arith}
use lib.Dec.{eqb}
use borrow.Author.Tests.{lt-ltb, le-ltb, le-leb, lt-leb}
use Rattle.std.specs.Option.{is_some}
use Rattle.basics.specs.Pick.{pick}
use Rattle.basics.proofs.Tests.{not_both_ways}
use Rattle.chunks.specs.Bytes.{same_bytes}
use Rattle.chunks.specs.Lookup.{place_of, found_of}
use Rattle.item.specs.Layout.{layout_of, previous_of, dependency_of}
use Rattle.item.specs.declared.Fields.{Fields}
use Rattle.answers.specs.declared.Refusal.{Refusal}
use Rattle.salvage.specs.Names.{name_of, lacks_at, FirstMissing, MissingName, names_it, names_by}

-- Nothing is found just where the store lacks the id.
found_none : (t : Bool) (p : ℕ) (b : Bool) → is_some (pick t None (Some p)) ≡ not b → b ≡ t
found_none true p true e = refl
found_none true p false e = absurd (not_both_ways false e refl)
found_none false p true e = absurd (not_both_ways true refl e)
found_none false p false e = refl

pub lacks_none : (ids x : List ℕ) (n : ℕ) (r : Option ℕ) (b : Bool) → r ≡ found_of (place_of ids n x) → is_some r ≡ not b → b ≡ eqb (place_of ids n x) 0
lacks_none ids x n r b f e = found_none (eqb (place_of ids n x) 0) (place_of ids n x) b (subst (λ (o : Option ℕ). is_some o ≡ not b) f e)

-- A dependency is missing where its id is not in the store.
pub missing_dep : (ids : List ℕ) (n : ℕ) (s : List ℕ) (f : Fields) (p : ℕ) (x : List ℕ) (r : Bool) → 1 < p → x ≡ dependency_of f (p - 2) s
    → r ≡ eqb (place_of ids n x) 0 → r ≡ lacks_at ids n s f p
unfolding lacks_at
missing_dep ids n s f p x r h e g = g ∙ rw (lt-ltb 1 p h, lt-leb p 1 h, e)

-- An index up to 1 names no previous id.
pub missing_none_named : (ids : List ℕ) (n : ℕ) (s : List ℕ) (f : Fields) (p : ℕ) → p ≤ 1 → f.index ≤ 1 → false ≡ lacks_at ids n s f p
unfolding lacks_at
missing_none_named ids n s f p h k = rw (le-ltb 1 p h, le-ltb 1 f.index k)

-- The previous id is missing where it is not in the store.
pub missing_previous : (ids : List ℕ) (n : ℕ) (s : List ℕ) (f : Fields) (p : ℕ) (x : List ℕ) (r : Bool) → p ≤ 1 → 1 < f.index → x ≡ previous_of s
    → r ≡ eqb (place_of ids n x) 0 → r ≡ lacks_at ids n s f p
unfolding lacks_at
missing_previous ids n s f p x r h k e g = g ∙ rw (le-ltb 1 p h, lt-ltb 1 f.index k, le-leb p 1 h, e)

-- The name at a place.
pub name_previous : (s : List ℕ) (f : Fields) (p : ℕ) → p ≤ 1 → previous_of s ≡ name_of s f p
name_previous s f p h = rw (le-leb p 1 h)

pub name_dependency : (s : List ℕ) (f : Fields) (p : ℕ) → 1 < p → dependency_of f (p - 2) s ≡ name_of s f p
name_dependency s f p h = rw (lt-leb p 1 h)

-- Whether an item names an id, by its layout.
pub names_sound : (s : List ℕ) (p : ℕ) (id x : List ℕ) (l : Result Fields Refusal) (f : Fields) (r : Bool) → l ≡ layout_of s → l ≡ Ok f → x ≡ name_of s f p
    → r ≡ same_bytes id x → r ≡ names_it s p id
unfolding names_by
names_sound s p id x l f r e g h k =
    let z : layout_of s ≡ Ok f = sym e ∙ g in
    k ∙ ap (same_bytes id) h ∙ sym (ap (λ y. names_by y s p id) z)

pub names_refused : (s : List ℕ) (p : ℕ) (id : List ℕ) (l : Result Fields Refusal) (why : Refusal) → l ≡ layout_of s → l ≡ Err why → false ≡ names_it s p id
unfolding names_by
names_refused s p id l why e g =
    let z : layout_of s ≡ Err why = sym e ∙ g in
    sym (ap (λ y. names_by y s p id) z)

-- How an item stands, by its layout.
pub stands_first : (ids : List ℕ) (n : ℕ) (s : List ℕ) (x r : ℕ) (l : Result Fields Refusal) (f : Fields) → l ≡ layout_of s → l ≡ Ok f → FirstMissing ids n s f x r
    → r ≤ f.count + 1 → MissingName ids n s x r
stands_first ids n s x r l f e g m h = record { none = λ z. absurd (omega (arith, m.later)); first = λ k. (f, (sym e ∙ g, (m, h))) }

pub stands_ready : (ids : List ℕ) (n : ℕ) (s : List ℕ) (x r : ℕ) (l : Result Fields Refusal) (f : Fields) → l ≡ layout_of s → l ≡ Ok f → FirstMissing ids n s f x r
    → f.count + 1 < r → MissingName ids n s x 0
stands_ready ids n s x r l f e g m h =
    record {
      none =
          λ z q b p k o.
          let y : Ok f ≡ Ok q = sym g ∙ e ∙ b in
          let w : f ≡ q = cc in
          let c : f.count ≡ q.count = ap (λ (u : Fields). u.count) w in
          ap (λ (u : Fields). lacks_at ids n s u p) (sym w) ∙ m.known p (omega arith) o;
      first = λ k. absurd (omega arith);
    }

pub stands_broken : (ids : List ℕ) (n : ℕ) (s : List ℕ) (x : ℕ) (l : Result Fields Refusal) (why : Refusal) → l ≡ layout_of s → l ≡ Err why → MissingName ids n s x 0
stands_broken ids n s x l why e g =
    record {
      none = λ z q b p k o. let y : Err why ≡ Ok q = sym g ∙ e ∙ b in let w : ◌≡◌ {A = ℕ} 0 1 = cc in absurd (omega arith);
      first = λ k. absurd (omega arith);
    }
