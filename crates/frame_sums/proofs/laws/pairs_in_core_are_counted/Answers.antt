use Rattle.frame_sums.proofs.CoreLaws.{core_told}
use Rattle.frame_sums.proofs.laws.pairs_in_core_are_counted.Goals as goal

pub returns : goal.returns
returns c = λ d frame below. core_told d frame below
