use Rattle.std.proofs.Common.{◌∙◌, refl, subst, sym}
use Rattle.clap.specs.Words.{with_rule}
use Rattle.command_line.specs.CommandLine.{IsBuilt}
use Rattle.command_line.specs.Syntax.{rule_of_argument}
use Rattle.command_line.proofs.SyntaxLaws.{taking_none, taking_row}
use Rattle.command_line.proofs.syntax.with_arguments.Goals as goal

pub loop-arguments-init : goal.loop-arguments-init
loop-arguments-init c = λ app is. (app, is, refl)

pub loop-arguments-preserved : goal.loop-arguments-preserved
loop-arguments-preserved c = λ app is.
    let before = c.loop-arguments.invariant app is in
    let same = taking_row rule_of_argument c.loop-arguments.arguments.now _ before.0 c.in-len1-up.len_at_least ∙ before.2 in
    (with_rule before.0 _, c.with_argument-built.ensures before.0 _ before.1 c.made.ensures, same)

pub returns : goal.returns
returns c = λ app is.
    let all = c.loop-arguments.invariant app is in
    subst (IsBuilt c.loop-arguments.built) (sym (taking_none rule_of_argument c.loop-arguments.arguments.now all.0 c.in_default.len_below) ∙ all.2) all.1
