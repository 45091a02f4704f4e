use Rattle.std.proofs.Common.{◌≡◌, refl, codes}
use Rattle.curves.specs.Tables.{curve_parts}
use Rattle.job.specs.Views.{job_value}
use Rattle.command_line.specs.Views.{curve_view}
use Rattle.cli.specs.CurveTexts.{OfPlan}
use Rattle.cli.proofs.PerformLaws.{handed_on}
use Rattle.cli.proofs.TableLaws.{unwritten_of}
use Rattle.cli.proofs.WorkLaws.{tables_told, whole_printed}
use Rattle.cli.proofs.curve_tables.curve_of.Goals as goal

pub returns-clause-wrote : goal.returns-clause-wrote
returns-clause-wrote g c = (c.in_ok-plan.plan, c.in_ok-plan.ensures.is, c.in_ok-wrote.ensures.0)

pub returns-clause-reports : goal.returns-clause-reports
returns-clause-reports g c =
    let j = job_value c.args.job.now in
    let curve = curve_view c.args.curve.now in
    whole_printed curve.progress (codes "parts") (λ all. OfPlan j curve (λ plan. all ≡ curve_parts j plan)) (curve_parts j c.in_ok-plan.plan) _ _
    (c.in_ok-plan.plan, c.in_ok-plan.ensures.is, refl) c.in_ok-wrote.ensures.1

pub returns-in_err-wrote-clause-wrote : goal.returns-in_err-wrote-clause-wrote
returns-in_err-wrote-clause-wrote g c =
    let stopped = c.in_err-wrote.ensures in
    handed_on c.from_residual-in_err-wrote.result _ _ _ c.from_residual-in_err-wrote.ensures.1
    (unwritten_of (job_value c.args.job.now) (curve_view c.args.curve.now) c.in_ok-plan.plan _ _ c.in_err-wrote.field-0.0 stopped.0
    c.in_ok-plan.ensures.is stopped.1)

pub returns-in_err-wrote-clause-reports : goal.returns-in_err-wrote-clause-reports
returns-in_err-wrote-clause-reports g c =
    let curve = curve_view c.args.curve.now in
    let stopped = c.in_err-wrote.ensures in
    handed_on c.from_residual-in_err-wrote.result _ _ _ c.from_residual-in_err-wrote.ensures.1
    (tables_told curve.progress (job_value c.args.job.now) curve c.in_ok-plan.plan _ _ _ _ c.in_err-wrote.field-0.0 stopped.0
    c.in_ok-plan.ensures.is stopped.1 stopped.2 stopped.3)
