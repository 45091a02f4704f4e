use Rattle.std.proofs.Common.{arith}
use Rattle.float_filters.proofs.ConversionLaws.{near_natural}
use Rattle.float_filters.proofs.conversions.near_u64.Goals as goal

pub returns : goal.returns
returns c = rw c.nearest_u64_to_f64.ensures (near_natural c.args.n (omega arith))
