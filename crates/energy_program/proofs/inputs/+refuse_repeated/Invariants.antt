use Rattle.std.proofs.Common.{length}
use Rattle.energy_program.proofs.inputs.+refuse_repeated.Given as goal

abbrev pub decreases-refuse_repeated : goal.decreases-refuse_repeated
decreases-refuse_repeated g l = length l.names.now
