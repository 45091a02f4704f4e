use Rattle.command_line.proofs.CommandLineLaws.{two_texts}
use Rattle.command_line.proofs.values.two_of.Goals as goal

pub returns-then-texts-eq2 : goal.returns-then-texts-eq2
returns-then-texts-eq2 c = two_texts c.args.texts.now _ c.if-texts-eq2.true
