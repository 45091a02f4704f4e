use Rattle.float_filters.proofs.LengthLaws.{near_number_root}
use Rattle.float_filters.proofs.lengths.near_length.Goals as goal

pub returns : goal.returns
returns c s bound near = rw c.sqrt.ensures.value (near_number_root s c.args.square bound near)
