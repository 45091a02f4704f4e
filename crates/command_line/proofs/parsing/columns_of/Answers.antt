use Rattle.std.proofs.Common.{refl}
use Rattle.command_line.proofs.parsing.columns_of.Goals as goal

pub returns : goal.returns
returns c = (_, c.is_given.ensures, (_, c.is_given-2.ensures, refl))
