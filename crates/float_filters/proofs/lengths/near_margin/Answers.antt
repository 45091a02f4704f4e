use Rattle.float_filters.proofs.LengthLaws.{near_small_product}
use Rattle.float_filters.proofs.lengths.near_margin.Goals as goal

pub returns : goal.returns
returns c s n d = near_small_product s n d c.args.reach c.args.factor
