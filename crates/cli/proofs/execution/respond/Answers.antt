use Rattle.std.proofs.Common.{inl, map, refl}
use Rattle.std.proofs.lemmas.Result.{IfErr-weaker, on_ok_weaker}
use Rattle.command_line.specs.Views.{command_view}
use Rattle.cli.proofs.PerformLaws.{performed, performed_quiet, unperformed}
use Rattle.cli.proofs.RefusalLaws.{answered, unanswered}
use Rattle.cli.proofs.execution.respond.Goals as goal

pub returns-in-Err-clause-undone : goal.returns-in-Err-clause-undone
returns-in-Err-clause-undone g c =
    let words = map g.S.AsStr.text c.args.words.now in
    IfErr-weaker c.answer.result _ _ (λ f h. inl (unanswered words c.in-Err.error _ _ f c.in-Err.ensures.kind c.in-Err.ensures.none h, refl, refl)) c.answer.ensures.not_answered

pub returns-in-Err-clause-done : goal.returns-in-Err-clause-done
returns-in-Err-clause-done g c =
    on_ok_weaker c.answer.result
    (answered (map g.S.AsStr.text c.args.words.now) _ _ c.in-Err.error _ _ c.in-Err.ensures.kind) c.answer.ensures.answered

pub returns-in-Ok-clause-done : goal.returns-in-Ok-clause-done
returns-in-Ok-clause-done g c =
    performed c.perform.result (map g.S.AsStr.text c.args.words.now) _ _ _ (command_view c.in-Ok.command) _ _ c.in-Ok.ensures.command c.perform.ensures.performs

pub returns-in-Ok-clause-quiet : goal.returns-in-Ok-clause-quiet
returns-in-Ok-clause-quiet g c =
    performed_quiet c.perform.result (map g.S.AsStr.text c.args.words.now) (g.F.Files.held c.args.files.now) (g.O.Out.output c.args.out.now)
    (g.O.Out.output c.perform.new.out) (command_view c.in-Ok.command) _ _ c.in-Ok.ensures.command c.perform.ensures.reports

pub returns-in-Ok-clause-undone : goal.returns-in-Ok-clause-undone
returns-in-Ok-clause-undone g c =
    unperformed c.perform.result (map g.S.AsStr.text c.args.words.now) (g.F.Files.held c.args.files.now) (g.F.Files.requested c.args.files.now)
    (g.F.Files.requested c.perform.new.files) (command_view c.in-Ok.command) (g.O.Out.output c.args.out.now) (g.O.Out.output c.perform.new.out)
    _ _ c.in-Ok.ensures.command c.perform.ensures.performs c.perform.ensures.reports
