use Rattle.float_filters.proofs.VectorLaws.{magnitude_lanes}
use Rattle.float_filters.proofs.vectors.magnitudes.Goals as goal

pub returns : goal.returns
returns c = magnitude_lanes c.args.x c.fits-x.0
