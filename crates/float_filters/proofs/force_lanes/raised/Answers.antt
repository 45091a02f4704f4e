use Rattle.float_filters.proofs.OppositeLaws.{raised_lane, raised_numbers}
use Rattle.float_filters.proofs.force_lanes.raised.Goals as goal

pub float_from_bits-result : goal.float_from_bits-result
float_from_bits-result c = raised_numbers c.args.n c.fits-n.0

pub returns : goal.returns
returns c k l h = raised_lane c.args.n k c.fits-n.0 l h
