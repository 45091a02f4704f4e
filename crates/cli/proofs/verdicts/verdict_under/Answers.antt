use Rattle.std.proofs.Common.{◌≡◌, None, Some, refl, subst, sym}
use Rattle.std.proofs.lemmas.Result.{IfErr-weaker}
use Rattle.job.specs.Views.{job_value}
use Rattle.potential.specs.Progress.{slices_of}
use Rattle.cli.specs.Actions.{RejectsChecked}
use Rattle.cli.specs.Progress.{word_for}
use Rattle.cli.specs.Refusals.{RefusesVerdict}
use Rattle.cli.specs.declared.progress.Counted.TheVariants as counted
use Rattle.cli.proofs.PerformLaws.{handed_on}
use Rattle.cli.proofs.StartLaws.{if_err}
use Rattle.cli.proofs.VerdictLaws.{code_refused}
use Rattle.cli.proofs.WorkLaws.{energy_told, listing_rejects, slope_rejects}
use Rattle.cli.proofs.verdicts.verdict_under.Goals as goal

pub returns-in_err-kernel-in-Some-clause-refused : goal.returns-in_err-kernel-in-Some-clause-refused
returns-in_err-kernel-in-Some-clause-refused g c =
    let job = job_value c.args.job.now in
    let listing = c.in-Some.text.now in
    rw c.in-Some.is (IfErr-weaker c.from_residual-in_err-kernel-in-Some.result _ _ (λ e told. subst (RefusesVerdict (Some listing) job) (sym told)
    (code_refused _ job listing _ _ c.in_ok-code-in-Some.ensures.code c.in_err-kernel-in-Some.ensures.refused))
    (if_err c.from_residual-in_err-kernel-in-Some.result _ c.from_residual-in_err-kernel-in-Some.ensures.1))

pub returns-in_err-judged_slope-in-None-clause-reports : goal.returns-in_err-judged_slope-in-None-clause-reports
returns-in_err-judged_slope-in-None-clause-reports g c =
    let j = job_value c.args.job.now in
    let failure = c.in_err-judged_slope-in-None.field-0.0 in
    let told = c.in_err-judged_slope-in-None.ensures.reports in
    rw c.in-None.is (handed_on c.from_residual.result _ _ _ c.from_residual.ensures.1
    (energy_told c.args.progress (word_for counted.Slices) (λ all. all ≡ slices_of j) (λ done. RejectsChecked None j done) (slices_of j)
    told.0 _ _ failure refl told.1 (slope_rejects j told.0 failure c.in_err-judged_slope-in-None.ensures.refused told.2) told.3))

pub returns-in_err-kernel-in-Some-clause-reports : goal.returns-in_err-kernel-in-Some-clause-reports
returns-in_err-kernel-in-Some-clause-reports g c =
    let j = job_value c.args.job.now in
    let listing = c.in-Some.text.now in
    let code = c.in_ok-code-in-Some.code in
    let failure = c.in_err-kernel-in-Some.field-0.0 in
    let told = c.in_err-kernel-in-Some.ensures.reports in
    rw c.in-Some.is (handed_on c.from_residual-in_err-kernel-in-Some.result _ _ _ c.from_residual-in_err-kernel-in-Some.ensures.1
    (energy_told c.args.progress (word_for counted.Slices) (λ all. all ≡ slices_of j) (λ done. RejectsChecked (Some listing) j done)
    (slices_of j) told.0 _ _ failure refl told.1
    (listing_rejects j listing code told.0 failure c.in_ok-code-in-Some.ensures.code c.in_err-kernel-in-Some.ensures.refused told.2) told.3))
