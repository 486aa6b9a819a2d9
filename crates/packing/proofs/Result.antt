-- The marked rows are the packing list, and what is written of them.
-- Assumes nothing.
use Rattle.std.specs.Prelude.{Result}
use Rattle.answers.specs.declared.Refusal.{Refusal}
use Prim.Native.Nat.{ℕ, zero, suc, ◌≤◌}
use mathlib.Core.Path.{◌≡◌, refl, sym, ap, ◌∙◌, subst}
use mathlib.Core.List.Memᴰ
use mathlib.Core.List.{List, [], ◌∷◌, ◌++◌, Memᴰ}
use mathlib.Core.Bool.{true}
use mathlib.Core.Logic.{⊎_elim}
use native.Mathlib.Omega.{arith}
use lib.ListN.{length, take, drop, get_or, replicate, length-append, length-drop}
use lib.Seq.{take_at, drop_at}
use lib.Dec.{eqb}
use borrow.Author.Tests.{eq-eqb, eqb-true}
use Rattle.basics.proofs.Tests.{by_eqb, by_pick}
use Rattle.answers.specs.Answers.{written_count}
use Rattle.packing.specs.Marks.{Marked, Blank, Marking, listing}
use Rattle.packing.specs.Packing.{Packs, RisesFrom, end, PackingList, Writes, packed, too_short, WritesMarked, written, no_room, MayPack}
use Rattle.packing.proofs.Before.{within_range}
use Rattle.packing.proofs.Rising.{rises_next}

-- The list of the marked rows holds the marked rows, and rises.
record InRange (marks : List ℕ) (n x : ℕ) : Type 0 where
  some : 1 ≤ x
  held : x ≤ n
  marked : Marked marks x

listing_only : (marks : List ℕ) (n x : ℕ) → Memᴰ x (listing marks n) → InRange marks n x
unfolding listing
listing_only marks zero x = λ m. absurd (Memᴰ.not-nil m)
listing_only marks (suc n) x =
    by_pick (λ (l : List ℕ). Memᴰ x l → InRange marks (suc n) x) (eqb (get_or marks (suc n) 0) 1) (listing marks n ++ (suc n ∷ [])) (listing marks n)
    (λ e m. ⊎_elim (λ a. up (listing_only marks n x a)) (λ b. here e (Memᴰ.eq_of_singleton b)) (Memᴰ.append_cases (listing marks n) m))
    (λ e m. up (listing_only marks n x m))
  where
    up : InRange marks n x → InRange marks (suc n) x
    up i = record { some = i.some; held = (let h = i.held in omega arith); marked = i.marked }

    here : eqb (get_or marks (suc n) 0) 1 ≡ true → x ≡ suc n → InRange marks (suc n) x
    here e i = record { some = omega arith; held = omega arith; marked = ap (λ (k : ℕ). get_or marks k 0) i ∙ eqb-true (get_or marks (suc n) 0) 1 e }

listing_all : (marks : List ℕ) (n x : ℕ) → 1 ≤ x → x ≤ n → Marked marks x → Memᴰ x (listing marks n)
unfolding listing
listing_all marks zero x a b e = absurd (omega arith)
listing_all marks (suc n) x a b e = by_eqb (λ t. Memᴰ x (listing marks (suc n))) x (suc n) last (λ d. below (listing_all marks n x a (omega arith) e))
  where
    last : x ≡ suc n → Memᴰ x (listing marks (suc n))
    last i =
        let t = eq-eqb (get_or marks (suc n) 0) 1 (ap (λ (k : ℕ). get_or marks k 0) (sym i) ∙ e) in
        rw t (Memᴰ.append_right (listing marks n) (Memᴰ.head i))

    below : Memᴰ x (listing marks n) → Memᴰ x (listing marks (suc n))
    below m =
        by_pick (λ (l : List ℕ). Memᴰ x l) (eqb (get_or marks (suc n) 0) 1) (listing marks n ++ (suc n ∷ [])) (listing marks n)
        (λ t. Memᴰ.append_left (suc n ∷ []) m)
        (λ t. m)

listing_rises : (marks : List ℕ) (n : ℕ) → RisesFrom 0 (listing marks n)
unfolding listing
listing_rises marks zero = end
listing_rises marks (suc n) =
    by_pick (RisesFrom 0) (eqb (get_or marks (suc n) 0) 1) (listing marks n ++ (suc n ∷ [])) (listing marks n)
    (λ e. rises_next (suc n) (listing_rises marks n) (omega arith) (λ y m. let h = (listing_only marks n y m).held in omega arith))
    (λ e. listing_rises marks n)

module _ {rows deps frontier : List ℕ} {count : ℕ} (may : MayPack rows deps count frontier) where
  -- The marked rows are the packing list.
  pub packing_of : {blank marks : List ℕ} → Blank blank → Marking blank marks (Packs rows deps frontier)
      → PackingList rows deps frontier (listing marks count)
  packing_of {marks = marks} b m =
      record {
        rising = listing_rises marks count;
        only = λ x i. ⊎_elim (λ e. absurd (b.none x e)) (λ p. p) (m.only x (listing_only marks count x i).marked);
        all = λ x p.
            let s = p.packs in
            let r = within_range may.falling (may.roots p.entry p.inside s.root s.stands) s.within in
            listing_all marks count x r.0 r.1 (m.added x p);
      }

-- What is written of a packing list.
pub writes_of : {rows deps frontier marks out out' : List ℕ} {count : ℕ} {r : Result ℕ Refusal} → PackingList rows deps frontier (listing marks count)
    → WritesMarked marks count out out' r → Writes rows deps frontier out out' r
writes_of {rows} {deps} {frontier} {marks} {out} {out'} {count} {r} p (written z n h e) =
    packed z
    (record {
      room = omega arith;
      same_room = ap length e ∙ length-append (listing marks count) (drop (length (listing marks count)) out) ∙ simp length-drop (omega arith);
      list = subst (PackingList rows deps frontier) (sym (ap (take (written_count r)) e ∙ take_at (listing marks count)
          (drop (length (listing marks count)) out) (written_count r) (sym n))) p;
      beyond = ap (drop (written_count r)) e ∙ drop_at (listing marks count) (drop (length (listing marks count)) out) (written_count r) (sym n) ∙ ap
          (λ (k : ℕ). drop k out) (sym n);
    })
writes_of {marks = marks} {count = count} p (no_room z h e) = too_short z (record { result = listing marks count; packs = p; short = h }) e

-- Zeros mark nothing.
pub zeros_blank : (n : ℕ) → Blank (replicate n 0)
zeros_blank n = record { none = λ x e. let z = zeros_at n x in omega arith }
  where
    zeros_at : (n x : ℕ) → get_or (replicate {A = ℕ} n 0) x 0 ≡ 0
    zeros_at zero x = refl
    zeros_at (suc n) zero = refl
    zeros_at (suc n) (suc x) = zeros_at n x
