use Rattle.std.proofs.Common.{◌+◌, ◌-◌, ◌^◌, lit≤}
use Rattle.interval_domain.proofs.RangeLemmas.{quotients_small, within_more, within_same}
use Rattle.error_bounds.proofs.Rounded.{rounded_small}
use Rattle.error_bounds.proofs.quotients.quotient_error.Goals as goal

pub rounded_down-requires : goal.rounded_down-requires
rounded_down-requires c =
    let q = within_same (2 ^ 125) _ _ c.quotients.ensures (quotients_small (2 ^ 125) _ _ c.scaled_numerator.ensures.bound) in
    within_more (2 ^ 125 + 256) (2 ^ 127 - 1) _ (lit≤ tt) (rounded_small (2 ^ 125) _ q)
