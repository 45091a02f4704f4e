use Rattle.std.proofs.Common.{pos}
use Rattle.fixed.specs.Fractions.{bits_of}
use Rattle.interval_domain.proofs.RangeLemmas.{over_small, within_same}
use Rattle.error_bounds.specs.Approximations.{scale}
use Rattle.error_bounds.proofs.products.product_spread.Goals as goal

pub returns-clause-bound : goal.returns-clause-bound
returns-clause-bound c =
    within_same _ _ _ c.over_scale.ensures (over_small _ _ (pos (scale (bits_of c.args.frac))) c.product_numerator.ensures.bound)
