use Rattle.std.proofs.Common.{refl, sym}
use Rattle.command_line.proofs.parsing.explain_of.Goals as goal

pub returns : goal.returns
returns c = (_, (c.code_of-code.ensures, (_, sym c.in_ok-text.ensures)), refl)
