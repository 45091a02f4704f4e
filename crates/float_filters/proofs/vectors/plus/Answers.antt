use lib.Ieee.{binary64, add}
use Rattle.float_filters.proofs.VectorLaws.{with_number}
use Rattle.float_filters.proofs.vectors.plus.Goals as goal

pub returns : goal.returns
returns c = with_number (add binary64) c.args.x c.args.y c.fits-x.0
