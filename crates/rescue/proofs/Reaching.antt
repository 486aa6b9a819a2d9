-- Whatever order admits an item, the final store has its id: where no limit behind FULL is met and no two items clash.
-- Assumes nothing.
use Rattle.std.specs.Prelude.{Ok}
use Prim.Native.Nat.{ℕ, ◌+◌, ◌<◌}
use mathlib.Core.Path.{◌≡◌, refl, sym, ap, ◌∙◌}
use mathlib.Core.Bool.{Bool, true, false}
use mathlib.Core.List.{List}
use mathlib.Core.Logic.{⊎_elim, ◌≢◌}
use native.Mathlib.Omega.{arith}
use lib.Dec.{leb}
use lib.ListN.{length}
use Rattle.basics.specs.Pick.{pick}
use Rattle.answers.specs.declared.Refusal.{Refusal}
use Rattle.answers.specs.declared.Refusal.TheVariants.{Full}
use Rattle.item.specs.Id.{id_of}
use Rattle.item.specs.Layout.{layout_of, key_of, previous_of, dependency_of}
use Rattle.item.specs.declared.Fields.{Fields}
use Rattle.item.proofs.Places.{item_sound}
use Rattle.store.specs.Paper.{Message}
use Rattle.store.specs.Table.{Table, WellFormed, id_at, index_of}
use Rattle.judging.specs.Verdict.{judged_of, then_judged, verdict_of}
use Rattle.judging.specs.declared.Verdict.{Verdict}
use Rattle.judging.specs.declared.Verdict.TheVariants.{Fits, Breaks}
use Rattle.admission.specs.After.{answer_of}
use Rattle.admission.specs.Lines.{Rule, flag, sign, index_none, index_marked, prev, owner, step, dep, own, two, no_row, no_key, no_deps}
use Rattle.admission.specs.Paper.{Has, author_key, Accepted, Indexed, first, later}
use Rattle.admission.specs.declared.Admitted.TheVariants.{Done, Refused}
use Rattle.admission.proofs.Accepting.{found_has}
use Rattle.admission.proofs.Lining.{Says, says_fits, says_holds, says_breaks, verdict_says}
use Rattle.origins.specs.Origins.{without_place}
use Rattle.morning.specs.Intake.{Kept, Sound, answer_to}
use Rattle.rescue.specs.Orders.{HasId}
use Rattle.rescue.proofs.Growth.{done_accepted}

-- A message of one store that another has: with the same id, author and index.
pub record There (t u : Table) (r : ℕ) : Type 0 where
  pub row : ℕ
  pub has : Has u (id_at t r) row
  pub key : author_key u row ≡ author_key t r
  pub index : index_of u row ≡ index_of t r

-- Every message of one store the other has.
abbrev pub Within : Table → Table → Type 0
Within t u = (r : ℕ) → Message t r → There t u r

module _ (t u : Table) (w : WellFormed u) (i : List ℕ) (f : Fields) (c : Accepted t i f) (n : Within t u) where
  -- The message with an id, in the other store.
  there : (x : List ℕ) (r q : ℕ) → Has t x r → Has u x q → (author_key u q ≡ author_key t r) × (index_of u q ≡ index_of t r)
  there x r q h k =
      let y = n r h.message in
      let z : y.row ≡ q = sym (found_has u w x y.row (record { message = y.has.message; id = y.has.id ∙ h.id })) ∙ found_has u w x q k in
      (ap (author_key u) (sym z) ∙ y.key, ap (index_of u) (sym z) ∙ y.index)

  -- The row of the previous message,
  previous_there : 1 < f.index → (r : ℕ) × Has t (previous_of i) r
  previous_there h = ⊎_elim (λ (e : f.index ≡ 1). absurd (omega arith)) (λ x. x) c.m1

  -- and of a dependency's author.
  other_there : (j : ℕ) → j < f.count → (q : ℕ) → Has u (dependency_of f j i) q → author_key u q ≢ key_of i
  other_there j h q k e =
      let y = c.m3 j h in
      y.1.1 (sym (there (dependency_of f j i) y.0 q y.1.0 k).0 ∙ e)

  -- No line but that of FULL refuses an item that is accepted by a store within this one.
  only_full : {r : Refusal} → Rule u i f r → r ≡ Full
  only_full (flag a b) = absurd (b c.m5)
  only_full (sign a) = absurd (omega (arith, c.m5))
  only_full (index_none e) = absurd (some_index c.indexed)
    where
      some_index : Indexed t i f → ⊥
      some_index (first h z) = omega arith
      some_index (later h z) = omega arith
  only_full (index_marked e d) = absurd (unmarked c.indexed)
    where
      unmarked : Indexed t i f → ⊥
      unmarked (first h z) = d z
      unmarked (later h z) = omega arith
  only_full (prev h d) =
      let p = previous_there h in
      let y = n p.0 p.1.message in
      absurd (d y.row (record { message = y.has.message; id = y.has.id ∙ p.1.id }))
  only_full (owner h q k d) =
      let p = previous_there h in
      absurd (d ((there (previous_of i) p.0 q p.1 k).0 ∙ c.m2 (λ e. omega arith) p.0 p.1))
  only_full (step h q k d) = absurd (stepped c.indexed)
    where
      stepped : Indexed t i f → ⊥
      stepped (first e z) = omega arith
      stepped (later e z) =
          let p = previous_there h in
          d (z p.0 p.1 ∙ ap (λ (x : ℕ). x + 1) (sym (there (previous_of i) p.0 q p.1 k).1))
  only_full (dep j h d) =
      let p = c.m3 j h in
      let y = n p.0 p.1.0.message in
      absurd (d y.row (record { message = y.has.message; id = y.has.id ∙ p.1.0.id }))
  only_full (own j h q k e) = absurd (other_there j h q k e)
  only_full (two a b h m q r k s e) =
      let x = c.m3 a (omega arith) in
      let y = c.m3 b m in
      let p = (there (dependency_of f a i) x.0 q x.1.0 k).0 in
      let o = (there (dependency_of f b i) y.0 r y.1.0 s).0 in
      let same : a ≡ b = c.m4 (author_key t x.0) x.1.1 a b (omega arith) m x.0 y.0 x.1.0 y.1.0 refl (sym o ∙ sym e ∙ p) in
      absurd (omega arith)
  only_full (no_row h) = refl
  only_full (no_key h m) = refl
  only_full (no_deps h) = refl

-- An item that is admitted by a store within this one, and that this one neither admits nor refuses with FULL, has its id here.
pub admitted_there : (v k : Kept) → Sound v → Sound k → Within v.store k.store → (i : List ℕ) (n : ℕ) → answer_to v i ≡ Done n
    → ((m : ℕ) → answer_to k i ≡ Done m → ⊥) → answer_to k i ≢ Refused Full → HasId k (id_of i)
unfolding then_judged without_place
admitted_there v k s w h i n d not full = by_verdict (verdict_says k.store w.store i f laid) refl
  where
    f : Fields
    f = (done_accepted v s 0 i n d).0.0

    c : Accepted v.store i f
    c = (done_accepted v s 0 i n d).0.1

    laid : layout_of i ≡ Ok f
    laid = item_sound i f c.item

    verdict : verdict_of k.store i ≡ judged_of k.store i f
    verdict = ap (then_judged k.store i) laid

    by_place : (x : Verdict) → judged_of k.store i f ≡ x
        → answer_to k i ≡ answer_of k.store (pick (leb (length k.origins) k.store.counts.rows) (without_place x) x)
    by_place x e =
        ap (λ (y : Verdict). answer_of k.store (pick (leb (length k.origins) k.store.counts.rows) (without_place y) y)) (verdict ∙ e)

    by_verdict : {x : Verdict} → Says k.store i f x → judged_of k.store i f ≡ x → HasId k (id_of i)
    by_verdict (says_fits row a b) e = absurd (never (leb (length k.origins) k.store.counts.rows) (by_place (Fits row) e))
      where
        never : (b : Bool) → answer_to k i ≡ answer_of k.store (pick b (without_place (Fits row)) (Fits row)) → ⊥
        never true z = full (z ∙ unplaced)
          where
            unplaced : answer_of k.store (without_place (Fits row)) ≡ Refused Full
            unplaced = refl
        never false z = not _ z
    by_verdict (says_holds r has) e = record { row = r; has = has }
    by_verdict (says_breaks {r = r} rule) e =
        let z = never (leb (length k.origins) k.store.counts.rows) (by_place (Breaks r) e) in
        absurd (full (z ∙ ap Refused (only_full v.store k.store w.store i f c h rule)))
      where
        never : (b : Bool) → answer_to k i ≡ answer_of k.store (pick b (without_place (Breaks r)) (Breaks r)) → answer_to k i ≡ Refused r
        never true z = z
        never false z = z
