use Rattle.std.proofs.lemmas.Result.{IfErr-weaker, on_ok_weaker}
use Rattle.engine.proofs.SpecifiedRuns.{leads_back}
use Rattle.runs.proofs.RunLaws.{run_unwritten, run_wants, run_wrote}
use Rattle.runs.proofs.shown_runs.run_bytes.Goals as goal

pub returns-clause-writes_run_text : goal.returns-clause-writes_run_text
returns-clause-writes_run_text g c =
    on_ok_weaker c.run_shown.result (run_wrote c.args.job.now c.args.state.now c.args.direction c.args.steps _ _ _ (λ _. Unit {0}))
    (rw c.of_end.ensures at c.run_shown.ensures.shown)

pub returns-clause-refused : goal.returns-clause-refused
returns-clause-refused g c =
    IfErr-weaker c.run_shown.result _ _ (run_unwritten c.args.job.now c.args.state.now c.args.direction c.args.steps _ _ (λ _. Unit {0}))
    (rw c.of_end.ensures at c.run_shown.ensures.unshown)

pub returns-clause-only : goal.returns-clause-only
returns-clause-only g c = λ text r a.
    IfErr-weaker c.run_shown.result _ _ (run_wants c.args.job.now c.args.state.now c.args.direction c.args.steps text _ _ r a)
    (returns-clause-refused g c)

pub returns-clause-leads_back : goal.returns-clause-leads_back
returns-clause-leads_back g c = leads_back c.args.job.now c.args.state.now c.args.direction c.args.steps
