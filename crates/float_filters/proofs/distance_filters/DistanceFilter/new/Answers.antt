use Rattle.std.proofs.Common.{arith}
use Rattle.float_filters.proofs.distance_filters.DistanceFilter.new.Goals as goal

pub invariant_of-result : goal.invariant_of-result
invariant_of-result c =
    let s = c.requires.scale in
    record {
      scale = s;
      core_some = omega arith;
      core_few = omega arith;
      factor_is = c.near_ratio-factor.ensures;
      margin_is = c.near_margin.ensures c.args.limit c.args.dividend c.args.divisor (omega (arith, s.small)) s.dividend s.dividend_fits s.divisor s.divisor_fits c.near_reach.ensures c.near_ratio-factor.ensures;
    }
