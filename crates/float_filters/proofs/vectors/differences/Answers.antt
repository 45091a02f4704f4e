use lib.Ieee.{binary64, sub}
use Rattle.float_filters.proofs.VectorLaws.{pointwise}
use Rattle.float_filters.proofs.vectors.differences.Goals as goal

pub returns : goal.returns
returns c = pointwise (sub binary64) c.args.x c.args.y c.fits-x.0 c.fits-y.0
