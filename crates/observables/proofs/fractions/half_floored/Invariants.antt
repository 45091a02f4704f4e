use Rattle.std.proofs.Common.{◌≡◌, ◌*◌, ◌<◌, drop}
use Rattle.fixed.specs.Arithmetic.{floor_over}
use Rattle.observables.specs.Products.{product_of}
use Rattle.observables.proofs.fractions.half_floored.Given as goal

abbrev pub invariant-loop-divisor : goal.invariant-loop-divisor
invariant-loop-divisor l =
    (0 < product_of (drop l.divisor-index l.divisors)) × (floor_over l.quotient (product_of (drop l.divisor-index l.divisors)) ≡ floor_over l.fn.whole (2 * product_of l.fn.divisors))
