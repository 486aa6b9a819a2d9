use Rattle.std.proofs.Common.{rules}
use native.Mathlib.Omega.{arith}
use Rattle.std.specs.Prelude.{max}
use mathlib.Core.Path.{◌≡◌, ap, subst, ◌∙◌}
use Prim.Native.Nat.{ℕ, ◌-◌, ◌/◌, ◌^◌, ◌≤◌}
use Rattle.lines.proofs.Powers.{two_mul_div_le, div_pow_one, div_pow_div, pow_le_of_div_pos, lt_pow_of_div_zero}
use Rattle.lines.proofs.digits.digit_count.Goals as goal

pub loop-rest-init : goal.loop-rest-init
loop-rest-init c =
    let a = c.args in
    (omega arith, omega (arith, two_mul_div_le a.n a.base c.requires.base), div_pow_one a.n a.base, omega arith)

pub loop-rest-smaller : goal.loop-rest-smaller
loop-rest-smaller c = omega (arith, two_mul_div_le c.loop-rest.rest c.args.base c.requires.base)

pub loop-rest-preserved : goal.loop-rest-preserved
loop-rest-preserved c =
    let l = c.loop-rest in
    let n = c.args.n in
    let b = c.args.base in (
      omega arith,
      omega (arith, two_mul_div_le l.rest b c.requires.base),
      ap (λ (m : ℕ). m / b) l.invariant.2 ∙ div_pow_div n b l.k,
      λ _. pow_le_of_div_pos n b l.k (omega arith) (omega arith),
    )

pub returns : goal.returns
returns c =
    let a = c.args in
    let l = c.loop-rest in
    let e : c.max.result ≡ max l.k a.width = search rules in
    let above : l.k ≤ c.max.result = omega (arith, e) in (
      omega (arith, e),
      lt_pow_of_div_zero a.n a.base l.k _ (omega arith) (omega arith) above,
      λ more. subst (λ (t : ℕ). a.base ^ (t - 1) ≤ a.n) (omega (arith, e)) (l.invariant.3 (omega (arith, e))),
    )
