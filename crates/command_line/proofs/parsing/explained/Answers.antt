use Rattle.std.proofs.Common.{refl, sym}
use Rattle.command_line.proofs.parsing.explained.Goals as goal

pub returns-in-Some-clause-command : goal.returns-in-Some-clause-command
returns-in-Some-clause-command g c = (_, (c.code_among-code.ensures, (_, sym c.in-Some.ensures)), refl)
