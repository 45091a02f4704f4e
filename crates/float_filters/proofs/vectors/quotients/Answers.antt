use lib.Ieee.{binary64, div}
use Rattle.float_filters.proofs.VectorLaws.{pointwise}
use Rattle.float_filters.proofs.vectors.quotients.Goals as goal

pub returns : goal.returns
returns c = pointwise (div binary64) c.args.x c.args.y c.fits-x.0 c.fits-y.0
