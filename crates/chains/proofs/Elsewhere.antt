-- Two stores that hold the same messages of an author in other rows: the state of a set is the same state, by ids.
-- Assumes nothing.
use Prim.Native.Nat.{ℕ, zero, suc, ◌≤◌}
use mathlib.Core.Path.{◌≡◌, refl, sym, ap, subst, ◌∙◌}
use mathlib.Core.Logic.{◌⊎◌, inl, inr, ⊎_elim, ◌↔◌}
use native.Mathlib.Omega.{arith}
use Rattle.chains.specs.Chain.{Store, RowOf, Valid, Closed, Shared, State, growing, forked, StateOf}
use Rattle.chains.specs.Elsewhere.{CarriesOn, Image, carried}
use Rattle.chains.proofs.Sandwich.{state_unique}

-- All rows of an author are a set closed under previous links,
pub rows_closed : (s : Store) → Valid s → (A : ℕ) → Closed s A (RowOf s A)
rows_closed s v A = record { rows = λ x r. r; back = v.own A }

-- Each closed set is carried to itself in its own store,
pub carries_self : (s : Store) (A : ℕ) (S : ℕ → Type 0) → Closed s A S → CarriesOn s s A A S (λ x. x)
carries_self s A S c = record { closed = c; none = refl; row = c.rows; prev = λ x h. refl; key = λ x h. refl }

-- And what carries a set carries each closed part of it.
pub carries_less : (s u : Store) (A B : ℕ) (S R : ℕ → Type 0) (f : ℕ → ℕ) → CarriesOn s u A B S f → Closed s A R → ((x : ℕ) → R x → S x) → CarriesOn s u A B R f
carries_less s u A B S R f e c i =
    record { closed = c; none = e.none; row = λ x h. e.row x (i x h); prev = λ x h. e.prev x (i x h); key = λ x h. e.key x (i x h) }

module _ (s u : Store) (v : Valid s) (w : Valid u) (A B : ℕ) (S : ℕ → Type 0) (f : ℕ → ℕ) (e : CarriesOn s u A B S f) where
  -- None, or in the set.
  abbrev In : ℕ → Type 0
  In x = (x ≡ 0) ⊎ S x

  -- None counts 0 in both.
  none_same : (x : ℕ) → x ≡ 0 → u.index (f x) ≡ s.index x
  none_same x z = ap (λ y. u.index (f y)) z ∙ ap u.index e.none ∙ w.none_index ∙ sym v.none_index ∙ sym (ap s.index z)

  -- A message has one index in both.
  index_same : (n x : ℕ) → s.index x ≤ n → In x → u.index (f x) ≡ s.index x
  index_same zero x h (inl z) = none_same x z
  index_same zero x h (inr r) = let c = v.counted A x (e.closed.rows x r) in absurd (omega arith)
  index_same (suc n) x h (inl z) = none_same x z
  index_same (suc n) x h (inr r) =
      let c = v.counted A x (e.closed.rows x r) in
      w.counted B (f x) (e.row x r) ∙ ap suc (ap u.index (e.prev x r) ∙ index_same n (s.prev x) (omega arith) (e.closed.back x r)) ∙ sym c

  -- So it has, whatever the index is.
  pub index_carried : (x : ℕ) → In x → u.index (f x) ≡ s.index x
  index_carried x h = index_same (s.index x) x (omega arith) h

  -- Two messages are not carried to one row.
  pub carried_apart : (x y : ℕ) → In x → In y → f x ≡ f y → x ≡ y
  carried_apart x y (inl a) (inl b) g = a ∙ sym b
  carried_apart x y (inl a) (inr q) g = let i = (e.row y q).some in let z : f x ≡ 0 = ap f a ∙ e.none in absurd (omega arith)
  carried_apart x y (inr r) (inl b) g = let i = (e.row x r).some in let z : f y ≡ 0 = ap f b ∙ e.none in absurd (omega arith)
  carried_apart x y (inr r) (inr q) g =
      v.distinct A A x y (e.closed.rows x r) (e.closed.rows y q) (sym (e.key x r) ∙ ap u.key g ∙ e.key y q)

  -- A message of the set elsewhere stands on what its predecessor is carried to.
  image_prev : (y : ℕ) (i : Image f S y) → u.prev y ≡ f (s.prev i.from)
  image_prev y i = subst (λ z. u.prev z ≡ f (s.prev i.from)) i.here (e.prev i.from i.member)

  -- It has its id,
  image_key : (y : ℕ) (i : Image f S y) → u.key y ≡ s.key i.from
  image_key y i = subst (λ z. u.key z ≡ s.key i.from) i.here (e.key i.from i.member)

  -- And its index.
  image_index : (y : ℕ) (i : Image f S y) → u.index y ≡ s.index i.from
  image_index y i = subst (λ z. u.index z ≡ s.index i.from) i.here (index_carried i.from (inr i.member))

  -- Two messages that share a predecessor there share it here.
  shared_back : (x y : ℕ) (h : Shared u (Image f S) x y) → Shared s S h.first.from h.second.from
  shared_back x y h =
      let p = h.first in
      let q = h.second in
      record {
        first = p.member;
        second = q.member;
        differ = λ g. h.differ (sym p.here ∙ ap f g ∙ q.here);
        one = carried_apart (s.prev p.from) (s.prev q.from) (e.closed.back p.from p.member) (e.closed.back q.from q.member)
            (sym (image_prev x p) ∙ h.one ∙ image_prev y q);
      }

  -- The set elsewhere is closed, too.
  pub image_closed : Closed u B (Image f S)
  image_closed =
      record {
        rows = λ y i. subst (RowOf u B) i.here (e.row i.from i.member);
        back = λ y i.
            ⊎_elim (λ z. inl (image_prev y i ∙ ap f z ∙ e.none))
            (λ h. inr (record { from = s.prev i.from; member = h; here = sym (image_prev y i) }))
            (e.closed.back i.from i.member);
      }

  -- The state of the set elsewhere is the state of the set, carried.
  pub state_carried : (K : State) → StateOf s S K → StateOf u (Image f S) (carried f K)
  state_carried (growing l) g =
      record {
        last = ⊎_elim (λ z. inl (ap f z ∙ e.none)) (λ h. inr (record { from = l; member = h; here = refl })) g.last;
        deepest = λ y i.
            let a = image_index y i in
            let b = index_carried l g.last in
            let d = g.deepest i.from i.member in
            omega arith;
        single = λ x y h. g.single h.first.from h.second.from (shared_back x y h);
      }
  state_carried (forked l lo hi) g =
      let a = e.key lo g.low in
      let b = e.key hi g.high in
      let n : In l = subst In g.low_prev (e.closed.back lo g.low) in
      record {
        low = record { from = lo; member = g.low; here = refl };
        high = record { from = hi; member = g.high; here = refl };
        low_prev = e.prev lo g.low ∙ ap f g.low_prev;
        high_prev = e.prev hi g.high ∙ ap f g.high_prev;
        sorted = let o = g.sorted in omega arith;
        lowest = λ y i p.
            let k = image_key y i in
            let q : s.prev i.from ≡ l = carried_apart (s.prev i.from) l (e.closed.back i.from i.member) n (sym (image_prev y i) ∙ p) in
            ⊎_elim (λ z. inl (sym i.here ∙ ap f z)) (λ z. inr (omega arith)) (g.lowest i.from i.member q);
        shallowest = λ x y h.
            let d = g.shallowest h.first.from h.second.from (shared_back x y h) in
            let r = e.closed.back h.first.from h.first.member in
            let j : u.index (u.prev x) ≡ s.index (s.prev h.first.from) = ap u.index (image_prev x h.first) ∙ index_carried _ r in
            let m = index_carried l n in
            omega arith;
      }

  -- The state of the same messages in the other store is the state of the set, carried.
  same_on : (T : ℕ → Type 0) → ((y : ℕ) → T y ↔ Image f S y) → (K M : State) → StateOf s S K → StateOf u T M → M ≡ carried f K
  same_on T o K M g h = state_unique u w B (Image f S) image_closed M (carried f K) (moved M h) (state_carried K g)
    where
      shared_in : (x y : ℕ) → Shared u (Image f S) x y → Shared u T x y
      shared_in x y p = record { first = (o x).1 p.first; second = (o y).1 p.second; differ = p.differ; one = p.one }

      moved : (M : State) → StateOf u T M → StateOf u (Image f S) M
      moved (growing l) p =
          record {
            last = ⊎_elim inl (λ r. inr ((o l).0 r)) p.last;
            deepest = λ y i. p.deepest y ((o y).1 i);
            single = λ x y i. p.single x y (shared_in x y i);
          }
      moved (forked l lo hi) p =
          record {
            low = (o lo).0 p.low;
            high = (o hi).0 p.high;
            low_prev = p.low_prev;
            high_prev = p.high_prev;
            sorted = p.sorted;
            lowest = λ y i. p.lowest y ((o y).1 i);
            shallowest = λ x y i. p.shallowest x y (shared_in x y i);
          }

-- Two stores that hold the same messages come to the same state: the same phase, and rows with the same ids. `R` are the messages, a
-- closed part of the carried set, and `T` the same messages in the other store.
pub same_elsewhere : (s u : Store) → Valid s → Valid u → (A B : ℕ) (S : ℕ → Type 0) (f : ℕ → ℕ) → CarriesOn s u A B S f
    → (R T : ℕ → Type 0) → Closed s A R → ((x : ℕ) → R x → S x) → ((y : ℕ) → T y ↔ Image f R y)
    → (K M : State) → StateOf s R K → StateOf u T M → M ≡ carried f K
same_elsewhere s u v w A B S f e R T c i o K M g h = same_on s u v w A B R f (carries_less s u A B S R f e c i) T o K M g h
