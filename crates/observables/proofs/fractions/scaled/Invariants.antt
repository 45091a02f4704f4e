use Rattle.std.proofs.Common.{◌≡◌, pos, ◌*ℤ◌, ◌<◌, drop}
use Rattle.observables.specs.Products.{product_of}
use Rattle.observables.proofs.fractions.scaled.Given as goal

abbrev pub invariant-loop-factor : goal.invariant-loop-factor
invariant-loop-factor l =
    (0 < product_of (drop l.factor-index l.factors)) × (l.product *ℤ pos (product_of (drop l.factor-index l.factors)) ≡ l.fn.whole *ℤ pos (product_of l.fn.factors))
