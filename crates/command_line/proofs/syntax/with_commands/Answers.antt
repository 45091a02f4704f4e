use Rattle.std.proofs.Common.{◌∙◌, refl, subst, sym}
use Rattle.clap.specs.Words.{with_subcommand}
use Rattle.command_line.specs.CommandLine.{IsBuilt}
use Rattle.command_line.specs.Syntax.{shape_of_syntax}
use Rattle.command_line.proofs.SyntaxLaws.{commands_none, commands_row}
use Rattle.command_line.proofs.syntax.with_commands.Goals as goal

pub loop-commands-init : goal.loop-commands-init
loop-commands-init c = λ app is. (app, is, refl)

pub loop-commands-preserved : goal.loop-commands-preserved
loop-commands-preserved c = λ app is.
    let before = c.loop-commands.invariant app is in
    let same = commands_row shape_of_syntax c.loop-commands.commands.now _ before.0 c.in-len1-up.len_at_least ∙ before.2 in
    (with_subcommand before.0 _, c.with_command-all.ensures before.0 _ before.1 c.built.ensures, same)

pub returns : goal.returns
returns c = λ app is.
    let whole = c.loop-commands.invariant app is in
    subst (IsBuilt c.loop-commands.all) (sym (commands_none shape_of_syntax c.loop-commands.commands.now whole.0 c.in_default.len_below) ∙ whole.2) whole.1
