use lib.Ieee.{nan, le}
use Rattle.float_filters.proofs.VectorLaws.{at_most_set, full_where}
use Rattle.float_filters.proofs.vectors.at_most.Goals as goal

pub returns-clause-set : goal.returns-clause-set
returns-clause-set c k l s = at_most_set c.args.x c.args.y k s

pub returns-clause-full : goal.returns-clause-full
returns-clause-full c k l t = full_where le nan c.args.x c.args.y k c.fits-x.0 c.fits-y.0 l t
