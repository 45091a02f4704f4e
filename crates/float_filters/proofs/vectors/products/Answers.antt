use lib.Ieee.{binary64, mul}
use Rattle.float_filters.proofs.VectorLaws.{pointwise}
use Rattle.float_filters.proofs.vectors.products.Goals as goal

pub returns : goal.returns
returns c = pointwise (mul binary64) c.args.x c.args.y c.fits-x.0 c.fits-y.0
