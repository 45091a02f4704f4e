use Rattle.run_laws.proofs.tested_run.checked_runs.frames_after.Goals as goal

pub returns-in-Ok-clause-value : goal.returns-in-Ok-clause-value
returns-in-Ok-clause-value g c = rw (← c.in_ok-frames.ensures.value) c.in-Ok.ensures.value

pub returns-in-Err-clause-stops : goal.returns-in-Err-clause-stops
returns-in-Err-clause-stops g c = rw (← c.in_ok-frames.ensures.value) c.in-Err.ensures.fault
