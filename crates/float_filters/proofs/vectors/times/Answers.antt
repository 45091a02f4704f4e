use lib.Ieee.{binary64, mul}
use Rattle.float_filters.proofs.VectorLaws.{with_number}
use Rattle.float_filters.proofs.vectors.times.Goals as goal

pub returns : goal.returns
returns c = with_number (mul binary64) c.args.x c.args.y c.fits-x.0
