use Rattle.std.proofs.Common.{◌-◌, ◌^◌, lit≤}
use Rattle.interval_domain.proofs.RangeLemmas.{within_more, within_same}
use Rattle.error_bounds.proofs.Rooms.{same_exact_moderate}
use Rattle.error_bounds.proofs.products.exact_times_errors.Goals as goal

pub products-requires : goal.products-requires
products-requires c =
    let t =
    same_exact_moderate c.args.x.now _ _ _ c.exact.ensures.value c.errors.ensures.value c.requires.values c.requires.errors
    in
    within_more (2 ^ 125) (2 ^ 127 - 1) _ (lit≤ tt) t

pub returns-clause-bound : goal.returns-clause-bound
returns-clause-bound c =
    within_same (2 ^ 125) _ _ c.products.ensures
    (same_exact_moderate c.args.x.now _ _ _ c.exact.ensures.value c.errors.ensures.value c.requires.values c.requires.errors)
