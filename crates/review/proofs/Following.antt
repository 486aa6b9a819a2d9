-- Branches are said of the order in the log: a tip follows the last row, and each row that follows it runs through a child of it.
-- Assumes nothing.
use Prim.Native.Nat.{ℕ, zero, suc, ◌≤◌, ◌<◌}
use mathlib.Core.Path.{◌≡◌, refl, sym, ap, ◌∙◌}
use mathlib.Core.Bool.{Bool}
use mathlib.Core.List.{List}
use mathlib.Core.Logic.{◌≢◌}
use native.Mathlib.Omega.{arith}
use Rattle.basics.proofs.Tests.{by_eqb}
use Rattle.store.specs.Clauses.{AllChained}
use Rattle.store.specs.Table.{row_at}
use Rattle.store.proofs.Links.{older}
use Rattle.chains.specs.Chain.{RowOf, up, AtOrBefore, Before}
use Rattle.logs.specs.Held.{chain}
use Rattle.logs.proofs.Links.{none_prev}
use Rattle.review.specs.Review.{RunsThrough, Branch}
use Rattle.review.proofs.Tips.{through_earlier}

module _ (ids rows : List ℕ) (n : ℕ) where
  -- One step is the previous link.
  one_step : (k x : ℕ) → up (chain ids rows n) k (row_at rows x).prev ≡ up (chain ids rows n) (suc k) x
  unfolding up
  one_step zero x = refl
  one_step (suc k) x = ap (λ (y : ℕ). (row_at rows y).prev) (one_step k x)

  -- Steps from none stay at none.
  none_steps : (k : ℕ) → up (chain ids rows n) k 0 ≡ 0
  unfolding up
  none_steps zero = refl
  none_steps (suc k) = ap (λ (y : ℕ). (row_at rows y).prev) (none_steps k) ∙ none_prev rows

  -- What a row runs through is at or before it in the log.
  pub through_before : (c x : ℕ) → RunsThrough rows c x → AtOrBefore (chain ids rows n) c x
  unfolding up
  through_before c x RunsThrough.here = record { steps = 0; reach = refl }
  through_before c x (RunsThrough.back y h p) =
      let b = through_before c (row_at rows x).prev p in
      record { steps = suc b.steps; reach = sym (one_step b.steps x) ∙ b.reach }

  -- A tip follows last in the log.
  pub branch_follows : (a last tip child : ℕ) → AllChained rows n → Branch rows n a last tip child → Before (chain ids rows n) last tip
  unfolding up
  branch_follows a last tip child h b =
      let p = through_before child tip b.through in
      let e : child ≤ tip = through_earlier rows n h child tip b.held b.through in
      let k : child ≤ n = omega (arith, b.held) in
      let o : (row_at rows child).prev < child = older rows child b.child_some (h child k b.child_some) in
      let f : (row_at rows child).prev ≡ last = b.child_of_last in
      record {
        back = record { steps = suc p.steps; reach = ap (λ (y : ℕ). (row_at rows y).prev) p.reach ∙ f };
        apart = λ z. omega arith;
      }

  -- A child of `last` that a row runs through.
  pub record Child (last x : ℕ) : Type 0 where
    pub child : ℕ
    pub some : 1 ≤ child
    pub of_last : (row_at rows child).prev ≡ last
    pub through : RunsThrough rows child x

  -- A row from which links lead to `last` runs through a child of it.
  follows_child : (steps last x : ℕ) → 1 ≤ x → x ≢ last → up (chain ids rows n) steps x ≡ last → Child last x
  unfolding up
  follows_child zero last x h d e = absurd (d e)
  follows_child (suc steps) last x h d e =
      by_eqb (λ (b : Bool). Child last x) (row_at rows x).prev last
      (λ f. record { child = x; some = h; of_last = f; through = RunsThrough.here })
      (λ f.
      let g : up (chain ids rows n) steps (row_at rows x).prev ≡ last = one_step steps x ∙ e in
      let z : (row_at rows x).prev ≢ 0 = λ y. f (y ∙ sym (none_steps steps) ∙ ap (up (chain ids rows n) steps) (sym y) ∙ g) in
      let r = follows_child steps last (row_at rows x).prev (omega (arith, z)) f g in
      record { child = r.child; some = r.some; of_last = r.of_last; through = RunsThrough.back x h r.through })

  -- So a row of the author that follows `last`, and is no row's previous row, is the tip of a branch.
  pub follows_branch : (a last tip : ℕ) → RowOf (chain ids rows n) a tip → Before (chain ids rows n) last tip
      → ((r : ℕ) → r ≤ n → 1 ≤ r → (row_at rows r).prev ≢ tip) → (c : Child last tip) → Branch rows n a last tip c.child
  follows_branch a last tip r b u c =
      record {
        some = r.some;
        held = r.held;
        author = r.by;
        unfollowed = u;
        child_some = c.some;
        child_of_last = c.of_last;
        through = c.through;
      }

  -- There is such a child.
  pub before_child : (a last tip : ℕ) → RowOf (chain ids rows n) a tip → Before (chain ids rows n) last tip → Child last tip
  before_child a last tip r b = follows_child b.back.steps last tip r.some (λ z. b.apart (sym z)) b.back.reach
