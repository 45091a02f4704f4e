use Rattle.std.proofs.Common.{◌^◌, rules}
use Rattle.interval_domain.specs.Views.{range_of}
use Rattle.interval_domain.proofs.RangeLemmas.{within_same}
use Rattle.error_bounds.proofs.Rooms.{small_within}
use Rattle.error_bounds.proofs.approximations.narrowed.Goals as goal

pub returns-clause-value : goal.returns-clause-value
returns-clause-value c = search rules

pub returns-clause-bound : goal.returns-clause-bound
returns-clause-bound c =
    within_same (2 ^ 62) _ _ (returns-clause-value c) (small_within (range_of c.args.error) c.args.error.ordered c.requires)
