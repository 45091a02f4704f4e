use Rattle.std.proofs.Common.{arith}
use Rattle.std.proofs.lemmas.Result.{IfOk-weaker}
use Rattle.energy_program.specs.Programs.{trees_of}
use Rattle.job.specs.Views.{job_value}
use Rattle.curves.proofs.ReportLaws.{whatever_error, whatever_value}
use Rattle.curves.proofs.TableLaws.{is_body}
use Rattle.curves.proofs.planned.PlannedTables.body_text.Goals as goal

pub returns-in_err-pair-clause-stopped : goal.returns-in_err-pair-clause-stopped
returns-in_err-pair-clause-stopped g c =
    whatever_error c.from_residual.result _ (0, omega arith, g.met.W.Progress.passed_none c.args.watch.now)

pub returns-in_err-body-clause-stopped : goal.returns-in_err-body-clause-stopped
returns-in_err-body-clause-stopped g c =
    whatever_error c.from_residual-in_err-body.result _ c.in_err-body.ensures.stopped

pub returns-clause-body : goal.returns-clause-body
returns-clause-body g c =
    let j = job_value c.args.self.now.job.now in
    let is = c.in_ok-body.ensures.body in
    IfOk-weaker c.into_text.result _ _
    (λ text h. is_body j (trees_of c.args.self.now.potential.now.slope.energy) c.args.self.now.plan.now c.args.first_type c.args.second_type c.in_ok-pair.pair.a
    c.in_ok-pair.pair.b c.in_ok-body.body text.items is c.in_ok-pair.ensures.first c.in_ok-pair.ensures.second h)
    (c.into_text.ensures is.rows is.has)

pub returns-clause-passed : goal.returns-clause-passed
returns-clause-passed g c = whatever_value c.into_text.result _ c.in_ok-body.ensures.passed

pub returns-clause-stopped : goal.returns-clause-stopped
returns-clause-stopped g c = whatever_error c.into_text.result _ (_, omega arith, c.in_ok-body.ensures.passed)
