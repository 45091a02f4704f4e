use Rattle.kernel_code.proofs.SomeResult.{parses_always}
use Rattle.kernel_code.proofs.laws.parses_always.Goals as goal

pub returns : goal.returns
returns c = parses_always
