use Rattle.frame_sums.proofs.FieldLaws.{virial_told}
use Rattle.frame_sums.proofs.laws.virials_of_all_pairs_are_summed.Goals as goal

pub returns : goal.returns
returns c = λ d frame. virial_told d frame
