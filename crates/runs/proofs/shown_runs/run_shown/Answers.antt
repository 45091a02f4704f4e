use Rattle.runs.proofs.shown_runs.run_shown.Goals as goal

pub returns : goal.returns
returns g c = c.show_run.ensures c.args.texts.now.job.now c.args.texts.now.state.now c.in_ok-engine.ensures.opens
