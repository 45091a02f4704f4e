use Rattle.gro.specs.Frames.{frame_view}
use Rattle.state.proofs.StartLaws.{start_begins}
use Rattle.state.proofs.states.State.start.Goals as goal

pub returns-clause-begins : goal.returns-clause-begins
returns-clause-begins g c = start_begins c.args.job.now.frac c.args.job.now.time_step (frame_view c.args.frame.now) c.started.result c.started.ensures
