-- "Entries beyond the counts are never read": over two tables that agree within the counts the packing of a frontier keeps its
-- promise with the same answers and lists, so its answer and what it leaves are the same. The ids are bytes, as a lent part's are.
-- Assumes nothing.
use Rattle.std.specs.Prelude.{Result}
use Rattle.answers.specs.declared.Refusal.{Refusal}
use Prim.Native.Nat.{ℕ, zero, suc, ◌≤◌}
use mathlib.Core.Path.{◌≡◌, ap, ◌∙◌, subst}
use mathlib.Core.List.{List, Memᴰ}
use mathlib.Core.Logic.{inl, inr, ◌↔◌}
use native.Mathlib.Omega.{arith}
use Rattle.basics.specs.Bytes.{Bytes}
use Rattle.store.specs.declared.Row.{Row}
use Rattle.store.specs.Table.{Table, WellFormed}
use Rattle.store.specs.Agree.{SameWithin, Agree}
use Rattle.store.proofs.Agreeing.{agree_rows, agree_deps, well_formed_together, agree_back}
use Rattle.frontiers.specs.Calls.{FrontierOf}
use Rattle.frontiers.specs.Numbers.{state_at}
use Rattle.frontiers.proofs.Beyond.{frontier_there}
use Rattle.packing.specs.Before.{Step, by_link, by_list, HappenedBefore, one, more, Within}
use Rattle.packing.specs.Packing.{PacksState, Packs, PackingList, Writes, packed, too_short, Answers, bad_store, bad_frontier, answered}
use Rattle.packing.proofs.Before.{no_step, step_earlier}
use Rattle.packing.proofs.Stored.{well_formed_falls}
use Rattle.packing.proofs.Checked.{may_pack, answers_unique}

module _ (t u : Table) (g : SameWithin t u t.counts.rows t.counts.authors t.counts.deps) (w : WellFormed t) where
  -- A step back from a row is a step there,
  step_there : (x y : ℕ) → y ≤ t.counts.rows → Step t.rows t.deps x y → Step u.rows u.deps x y
  step_there x zero h s = absurd (no_step s)
  step_there x (suc y) h (by_link k e) = by_link k (e ∙ ap (λ (r : Row). r.prev) (agree_rows t u w g (suc y) h))
  step_there x (suc y) h (by_list m) = by_list (subst (Memᴰ x) (agree_deps t u w g (suc y) h (omega arith)) m)

  -- what happened before it happened before it there,
  pub before_there : {x y : ℕ} → HappenedBefore t.rows t.deps x y → y ≤ t.counts.rows → HappenedBefore u.rows u.deps x y
  before_there {x} {y} (one s) h = one (step_there x y h s)
  before_there {x} {y} (more {z = z} p s) h =
      let e = (step_earlier (well_formed_falls t w) h s).1 in
      more (before_there p (omega arith)) (step_there z y h s)

module _ (t u : Table) (g : Agree t u) (w : WellFormed t) where
  -- and so what a frontier packs it packs there.
  packs_there : (f : List ℕ) → FrontierOf t f → (x : ℕ) → Packs t.rows t.deps f x → Packs u.rows u.deps f x
  packs_there f v x p = record { entry = p.entry; inside = p.inside; packs = record { root = s.root; stands = s.stands; within = there } }
    where
      s : PacksState t.rows t.deps (state_at f p.entry) x
      s = p.packs

      within : (root : ℕ) → root ≤ t.counts.rows → Within t.rows t.deps root x → Within u.rows u.deps root x
      within root h (inl e) = inl e
      within root h (inr q) = inr (before_there t u g.within w q h)

      there : Within u.rows u.deps s.root x
      there = within s.root ((may_pack t f w v).roots p.entry p.inside s.root s.stands) s.within

-- What the call promises over a table, it promises over the other.
module _ (t u : Table) (g : Agree t u) (y : Bytes t.ids) (z : Bytes u.ids) where
  module _ (w : WellFormed t) (f : List ℕ) (v : FrontierOf t f) where
    -- The packing list is the packing list there,
    list_there : (l : List ℕ) → PackingList t.rows t.deps f l → PackingList u.rows u.deps f l
    list_there l p =
        let o = well_formed_together t u g w in
        record {
          rising = p.rising;
          only = λ x m. packs_there t u g w f v x (p.only x m);
          all = λ x k. p.all x (packs_there u t (agree_back t u g) o f (frontier_there t u g y z w f v) x k);
        }

    -- written or too long for the output.
    writes_there : (out out' : List ℕ) (r : Result ℕ Refusal) → Writes t.rows t.deps f out out' r → Writes u.rows u.deps f out out' r
    writes_there out out' r (packed e k) =
        packed e (record { room = k.room; same_room = k.same_room; list = list_there _ k.list; beyond = k.beyond })
    writes_there out out' r (too_short e k i) =
        too_short e (record { result = k.result; packs = list_there k.result k.packs; short = k.short }) i

  answers_there : (f out out' : List ℕ) (r : Result ℕ Refusal) → Answers t f out out' r → Answers u f out out' r
  answers_there f out out' r (bad_store e n i) = bad_store e (λ w. n (well_formed_together u t (agree_back t u g) w)) i
  answers_there f out out' r (bad_frontier e w n i) =
      let o = well_formed_together t u g w in
      bad_frontier e o (λ v. n (frontier_there u t (agree_back t u g) z y o f v)) i
  answers_there f out out' r (answered w v p) =
      answered (well_formed_together t u g w) (frontier_there t u g y z w f v) (writes_there w f v out out' r p)

-- Over tables that agree within the counts the call promises the same, and so answers and leaves the same.
module _ (t u : Table) (g : Agree t u) (y : Bytes t.ids) (z : Bytes u.ids) where
  pub packing_beyond : (f out out' : List ℕ) (r : Result ℕ Refusal) → Answers t f out out' r ↔ Answers u f out out' r
  packing_beyond f out out' r = (answers_there t u g y z f out out' r, answers_there u t (agree_back t u g) z y f out out' r)

  pub same_packing : (f out i j : List ℕ) (r q : Result ℕ Refusal) → Answers t f out i r → Answers u f out j q → (r ≡ q) × (i ≡ j)
  same_packing f out i j r q p = answers_unique ((packing_beyond f out i r).0 p)
