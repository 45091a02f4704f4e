use Rattle.std.proofs.Common.{arith}
use Rattle.float_filters.proofs.LimitLaws.{ends_around}
use Rattle.float_filters.proofs.limits.around.Goals as goal

pub returns : goal.returns
returns c = ends_around c.args.limit c.near_u128-near.result (omega arith) c.near_u128-near.ensures
