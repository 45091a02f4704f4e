use Rattle.std.proofs.Common.{◌+◌, get_or, drop, ap, arith, ◌∙◌, ℤ}
use Rattle.fixed.specs.Arithmetic.{floor_over}
use Rattle.observables.specs.Products.{product_of}
use Rattle.observables.proofs.ProductLaws.{product_of-drop, positive_factors, floor_over-twice}
use Rattle.observables.proofs.fractions.half_floored.Goals as goal

pub loop-divisor-init : goal.loop-divisor-init
loop-divisor-init c = (
  c.requires,
  ap (λ (z : ℤ). floor_over z (product_of c.args.divisors.now)) c.divided-quotient.ensures ∙ floor_over-twice c.args.whole.now 2 (product_of c.args.divisors.now),
)

pub loop-divisor-preserved : goal.loop-divisor-preserved
loop-divisor-preserved c =
    let d = get_or c.args.divisors.now c.loop-divisor.divisor-index 0 in
    let rest = product_of (drop (c.loop-divisor.divisor-index + 1) c.args.divisors.now) in
    let e = product_of-drop c.args.divisors.now c.loop-divisor.divisor-index (omega arith) in (
      (positive_factors d rest (rw e at c.loop-divisor.invariant.0)).1,
      ap (λ (z : ℤ). floor_over z rest) c.divided-quotient-in-loop-divisor.ensures ∙ floor_over-twice c.loop-divisor.quotient d rest ∙ (rw e at c.loop-divisor.invariant.1),
    )
