use Rattle.frame_sums.proofs.FieldLaws.{nearest_told}
use Rattle.frame_sums.proofs.laws.nearest_of_all_pairs_is_found.Goals as goal

pub returns : goal.returns
returns c = λ d frame. nearest_told d frame
