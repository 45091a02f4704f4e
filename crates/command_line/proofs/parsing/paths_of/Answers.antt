use Rattle.std.proofs.Common.{refl, sym}
use Rattle.command_line.proofs.parsing.paths_of.Goals as goal

pub returns : goal.returns
returns c = (_, sym c.in_ok-job.ensures, (_, sym c.in_ok-state.ensures, refl))
