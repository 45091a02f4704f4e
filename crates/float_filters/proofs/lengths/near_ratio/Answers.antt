use Rattle.std.proofs.Common.{arith}
use Rattle.float_filters.proofs.LengthLaws.{near_number_ratio}
use Rattle.float_filters.proofs.lengths.near_ratio.Goals as goal

pub returns : goal.returns
returns c = near_number_ratio c.args.n c.args.d c.exact_u32.result c.exact_u32-2.result c.requires.dividend (omega arith) c.requires.divisor (omega arith) c.exact_u32.ensures c.exact_u32-2.ensures
