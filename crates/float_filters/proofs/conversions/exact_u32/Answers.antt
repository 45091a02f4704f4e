use Rattle.std.proofs.Common.{arith}
use Rattle.float_filters.proofs.ConversionLaws.{exact_natural}
use Rattle.float_filters.proofs.conversions.exact_u32.Goals as goal

pub returns : goal.returns
returns c = exact_natural c.args.natural (omega arith)
