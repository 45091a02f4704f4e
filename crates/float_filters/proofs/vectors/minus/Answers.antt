use lib.Ieee.{binary64, sub}
use Rattle.float_filters.proofs.VectorLaws.{with_number}
use Rattle.float_filters.proofs.vectors.minus.Goals as goal

pub returns : goal.returns
returns c = with_number (sub binary64) c.args.x c.args.y c.fits-x.0
