use Rattle.error_bounds.proofs.WholeNumbers.{are_ordered}
use Rattle.error_bounds.proofs.laws.integers_are_ordered.Goals as goal

pub returns : goal.returns
returns c = are_ordered
