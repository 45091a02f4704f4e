use Rattle.state.proofs.FrameLaws.{frame_fits}
use Rattle.state.proofs.states.State.frame.Goals as goal

pub returns-clause-columns : goal.returns-clause-columns
returns-clause-columns g c = frame_fits _ (record { atoms = c.in_ok-atoms.ensures.rest; sides = c.sides-sides.ensures.sides })
