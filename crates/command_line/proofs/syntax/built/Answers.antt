use Rattle.std.proofs.Common.{ap, ◌∙◌}
use Rattle.clap.specs.Simple.{app_of_fields}
use Rattle.clap.specs.Words.{new_app}
use Rattle.command_line.proofs.CommandLineLaws.{shaped}
use Rattle.command_line.proofs.syntax.built.Goals as goal

pub returns : goal.returns
returns c =
    let app = c.with_end-command.ensures.app ∙ ap app_of_fields c.about-command.ensures ∙ c.new.ensures.app in
    let local = c.with_end-command.ensures.local ∙ ap (λ f. f.has_globals) c.about-command.ensures ∙ c.new.ensures.local in
    shaped _ _ (c.with_arguments.ensures (new_app c.args.syntax.now.name.now) (app, local))
