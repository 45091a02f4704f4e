use Rattle.run_laws.specs.TestedStarts.{faults_view, start_view}
use Rattle.run_laws.proofs.RefusalLaws.{stop_handed_on}
use Rattle.run_laws.proofs.tested_run.checked_runs.state_after.Goals as goal

pub returns-in-Err-run-clause-refused : goal.returns-in-Err-run-clause-refused
returns-in-Err-run-clause-refused g c =
    let prepared = c.in-Ok.prepared in
    rw c.of_kernel.ensures
    (stop_handed_on g.row.A.Denot c.args.job.now c.args.state.now c.args.direction c.args.steps (start_view prepared) (faults_view prepared) c.in-Err-run.failure c.in-Ok.ensures.found c.in-Ok.ensures.faults c.in-Err-run.ensures.stop)
