-- One link of the climb to the child of a row.
-- Assumes nothing.
use Prim.Native.Nat.{ℕ, ◌≤◌, ◌<◌}
use mathlib.Core.Path.{◌≡◌, sym, ap, subst, ◌∙◌}
use mathlib.Core.List.{List}
use mathlib.Core.Logic.{◌≢◌}
use native.Mathlib.Omega.{arith}
use Rattle.store.specs.Clauses.{AllChained}
use Rattle.store.specs.Table.{row_at}
use Rattle.store.proofs.Links.{older}
use Rattle.store.specs.declared.Row.{Row}
use Rattle.review.specs.Review.{RunsThrough}
use Rattle.review.specs.Children.{ChildOf}

-- The climb is at row `at`: what runs through it runs through the tip, and a child that is looked for is still ahead.
pub record Climbed (rows : List ℕ) (last row at : ℕ) : Type 0 where
  pub earlier : at ≤ row
  pub behind : (c : ℕ) → 1 ≤ c → RunsThrough rows c at → RunsThrough rows c row
  pub ahead : (c : ℕ) → 1 ≤ c → (row_at rows c).prev ≡ last → RunsThrough rows c row → RunsThrough rows c at

-- One link more.
pub climbed_more : (rows : List ℕ) (n last row at : ℕ) (this : Row) → AllChained rows n → row ≤ n → at ≢ 0 → Climbed rows last row at → this ≡ row_at rows at
    → this.prev ≢ last → (this.prev < at) × Climbed rows last row this.prev
climbed_more rows n last row at this k b z c e d =
    let h : 1 ≤ at = omega (arith, z) in
    let l : at ≤ row = c.earlier in
    let p : this.prev ≡ (row_at rows at).prev = ap (λ (r : Row). r.prev) e in
    let o : (row_at rows at).prev < at = older rows at h (k at (omega arith) h) in (
      omega arith,
      record {
        earlier = omega arith;
        behind = λ x i g. c.behind x i (RunsThrough.back at h (subst (RunsThrough rows x) p g));
        ahead = λ x i f g. subst (RunsThrough rows x) (sym p) (past x f (c.ahead x i f g));
      },
    )
  where
    past : (x : ℕ) → (row_at rows x).prev ≡ last → RunsThrough rows x at → RunsThrough rows x (row_at rows at).prev
    past x f RunsThrough.here = absurd (d (ap (λ (r : Row). r.prev) e ∙ f))
    past x f (RunsThrough.back y i g) = g

-- The child is found.
pub climbed_found : (rows : List ℕ) (last row at : ℕ) (this : Row) → at ≢ 0 → Climbed rows last row at → this ≡ row_at rows at → this.prev ≡ last
    → ChildOf rows last row at × (at ≤ row)
climbed_found rows last row at this z c e f = (
  record { found = λ y. (ap (λ (r : Row). r.prev) (sym e) ∙ f, c.behind at (omega (arith, z)) RunsThrough.here); none = λ y. absurd (z y) },
  c.earlier,
)
