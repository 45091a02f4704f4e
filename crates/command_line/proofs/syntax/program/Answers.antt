use Rattle.std.proofs.Common.{subst}
use Rattle.std.proofs.lemmas.Result.{IfOk-weaker}
use Rattle.command_line.specs.CommandLine.{IsBuilt, bare}
use Rattle.command_line.proofs.syntax.program.Goals as goal

pub returns : goal.returns
returns c =
    let all = subst (IsBuilt c.with_commands.result) c.commands.ensures (c.with_commands.ensures bare c.bare.ensures) in
    IfOk-weaker c.with_commands.result _ _ (λ p is. is.0) all
