use Rattle.std.proofs.Common.{◌-◌, ◌^◌, lit≤}
use Rattle.interval_domain.proofs.RangeLemmas.{within_more, within_same}
use Rattle.error_bounds.proofs.Rooms.{same_moderate}
use Rattle.error_bounds.proofs.products.times_errors.Goals as goal

pub products-requires : goal.products-requires
products-requires c =
    let t = same_moderate _ _ _ _ c.values.ensures.value c.errors.ensures.value c.requires in
    within_more (2 ^ 116) (2 ^ 127 - 1) _ (lit≤ tt) t

pub returns-clause-bound : goal.returns-clause-bound
returns-clause-bound c =
    within_same (2 ^ 116) _ _ c.products.ensures (same_moderate _ _ _ _ c.values.ensures.value c.errors.ensures.value c.requires)
