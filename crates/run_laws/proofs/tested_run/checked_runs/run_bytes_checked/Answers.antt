use Rattle.std.proofs.lemmas.Result.{err_from_is_err_and}
use Rattle.state.specs.StateViews.{state_view}
use Rattle.run_laws.specs.TestedStarts.{tested}
use Rattle.run_laws.proofs.PlainLaws.{plain_run}
use Rattle.run_laws.proofs.RunLaws.{only_run, run_back}
use Rattle.run_laws.proofs.StopLaws.{tested_lacks}
use Rattle.run_laws.proofs.tested_run.checked_runs.run_bytes_checked.Goals as goal

pub returns-in_err-after-clause-only : goal.returns-in_err-after-clause-only
returns-in_err-after-clause-only g c =
    let p = err_from_is_err_and c.from_residual.result c.from_residual.ensures.1 in
    λ text run. rw (p.1, p.2)
    (tested_lacks c.args.job.now c.args.state.now c.args.direction c.args.steps text c.in_err-after.field-0.0 run c.in_err-after.ensures.refused)

pub returns-clause-only : goal.returns-clause-only
returns-clause-only g c =
    λ text run. rw (only_run tested c.args.job.now c.args.state.now c.args.direction c.args.steps text (state_view c.in_ok-after.after) c.in_ok-after.ensures.value run) c.in_ok-write.ensures.writes

-- the law of return, at each exit
pub returns-in_err-after-clause-returns : goal.returns-in_err-after-clause-returns
returns-in_err-after-clause-returns g c = run_back tested c.args.job.now c.args.state.now c.args.direction c.args.steps

pub returns-in_err-write-clause-returns : goal.returns-in_err-write-clause-returns
returns-in_err-write-clause-returns g c = run_back tested c.args.job.now c.args.state.now c.args.direction c.args.steps

pub returns-clause-returns : goal.returns-clause-returns
returns-clause-returns g c = run_back tested c.args.job.now c.args.state.now c.args.direction c.args.steps

-- the plain slope, at each exit
pub returns-in_err-after-clause-same : goal.returns-in_err-after-clause-same
returns-in_err-after-clause-same g c = plain_run c.args.job.now c.args.state.now c.args.direction c.args.steps

pub returns-in_err-write-clause-same : goal.returns-in_err-write-clause-same
returns-in_err-write-clause-same g c = plain_run c.args.job.now c.args.state.now c.args.direction c.args.steps

pub returns-clause-same : goal.returns-clause-same
returns-clause-same g c = plain_run c.args.job.now c.args.state.now c.args.direction c.args.steps
