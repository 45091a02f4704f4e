use Rattle.std.proofs.Common.{arith}
use Rattle.float_filters.proofs.LengthLaws.{near_limit_root}
use Rattle.float_filters.proofs.lengths.near_reach.Goals as goal

pub returns : goal.returns
returns c = rw c.sqrt.ensures.value (near_limit_root c.args.limit c.near_u128.result (omega arith) c.near_u128.ensures)
