use Rattle.std.proofs.Common.{rules}
use Rattle.float_filters.proofs.QuotientLaws.{whole_is}
use Rattle.float_filters.proofs.quotient_lanes.is_whole.Goals as goal

pub returns-then-b-gt0 : goal.returns-then-b-gt0
returns-then-b-gt0 c t = whole_is c.args.bits c.args.b c.cast_unsigned.result c.requires (search rules) c.ranges.b c.cast_unsigned.ensures t
