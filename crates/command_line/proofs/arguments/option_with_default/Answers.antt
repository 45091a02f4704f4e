use Rattle.std.proofs.Common.{[], ◌∷◌, ◌∙◌, ap}
use Rattle.clap.specs.Words.{Rule, rule_of}
use Rattle.clap.specs.declared.builder.arg.Arg.{Arg}
use Rattle.command_line.proofs.arguments.option_with_default.Goals as goal

pub returns : goal.returns
returns c =
    let rule = ap rule_of c.default_value-arg.ensures
    ∙ ap (λ (r : Rule). record r { defaults = c.args.given.now.default.now ∷ [] }) c.option.ensures.0 in
    let local = ap (λ (a : Arg). a.global) c.default_value-arg.ensures ∙ c.option.ensures.1 in
    c.in_range.ensures _ (c.with_letter.ensures _ (rule, local))
