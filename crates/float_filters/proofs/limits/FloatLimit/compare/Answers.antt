use Rattle.float_filters.proofs.LimitLaws.{verdict}
use Rattle.float_filters.proofs.limits.FloatLimit.compare.Goals as goal

pub returns : goal.returns
returns c s limit around near = verdict s limit c.args.self c.args.square around near
