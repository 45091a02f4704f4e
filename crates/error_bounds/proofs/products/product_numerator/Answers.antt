use Rattle.std.proofs.Common.{◌+◌, ◌-◌, ◌*◌, ◌^◌, pos, lit≤}
use Rattle.interval_domain.proofs.RangeLemmas.{plus_small, scaled_small, within_more, within_same}
use Rattle.error_bounds.proofs.products.product_numerator.Goals as goal

pub plus-requires : goal.plus-requires
plus-requires c =
    let k = scaled_small (2 ^ 116) 256 _ (pos 256) c.times_errors.ensures.bound (lit≤ tt) in
    let s = within_same (2 ^ 116 * 256) _ _ c.scaled.ensures k in
    within_more (2 ^ 116 * 256 + 2 ^ 125) (2 ^ 127 - 1) _ (lit≤ tt) (plus_small _ _ _ _ s c.exact_times_errors.ensures.bound)

pub returns-clause-bound : goal.returns-clause-bound
returns-clause-bound c =
    let k = scaled_small (2 ^ 116) 256 _ (pos 256) c.times_errors.ensures.bound (lit≤ tt) in
    let s = within_same (2 ^ 116 * 256) _ _ c.scaled.ensures k in
    let t = within_same _ _ _ c.plus.ensures (plus_small (2 ^ 116 * 256) (2 ^ 125) _ _ s c.exact_times_errors.ensures.bound) in
    within_more (2 ^ 116 * 256 + 2 ^ 125) (2 ^ 126) _ (lit≤ tt) t
