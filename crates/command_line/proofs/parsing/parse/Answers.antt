use Rattle.std.proofs.Common.{map, sym}
use Rattle.std.proofs.lemmas.Result.{IfErr-weaker}
use Rattle.command_line.proofs.CommandLineLaws.{unexplained}
use Rattle.command_line.proofs.parsing.parse.Goals as goal

pub returns-in-Some-clause-none : goal.returns-in-Some-clause-none
returns-in-Some-clause-none g c =
    let words = map g.S.AsStr.text c.args.words.now in
    let arguments = map g.S.AsStr.text c.in-Some.arguments.now in
    IfErr-weaker c.explained.result _ _ (λ e none. unexplained words arguments e (sym c.in-Some.ensures) none) c.explained.ensures.none
