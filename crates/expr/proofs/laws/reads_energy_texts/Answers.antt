use Rattle.expr.proofs.Parsing.{reads_texts}
use Rattle.expr.proofs.laws.reads_energy_texts.Goals as goal

pub returns : goal.returns
returns c = reads_texts
