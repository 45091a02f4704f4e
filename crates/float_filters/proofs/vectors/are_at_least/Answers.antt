use Rattle.float_filters.proofs.VectorLaws.{at_least_set}
use Rattle.float_filters.proofs.vectors.are_at_least.Goals as goal

pub returns : goal.returns
returns c k l s = at_least_set c.args.x c.args.y k l s
