use Rattle.float_filters.proofs.QuotientLaws.{shift_value}
use Rattle.float_filters.proofs.quotient_lanes.shift.Goals as goal

pub returns-then-whole : goal.returns-then-whole
returns-then-whole c = shift_value c.args.whole c.if-whole.true
