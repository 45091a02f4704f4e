use Rattle.potential.proofs.InputLaws.{inputs_have_names}
use Rattle.potential.proofs.laws.inputs_have_names.Goals as goal

pub returns : goal.returns
returns c = inputs_have_names
