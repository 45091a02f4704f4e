use Rattle.std.proofs.Common.{refl, sym}
use Rattle.command_line.proofs.parsing.frame_of.Goals as goal

pub returns-in-Some : goal.returns-in-Some
returns-in-Some c = (_, sym c.in_ok-state.ensures, (_, sym c.in-Some.ensures, refl))

pub returns-in-None : goal.returns-in-None
returns-in-None c = (_, sym c.in_ok-state.ensures, (_, sym c.in-None.ensures, refl))
