-- each name has the usage of its command
use Rattle.command_line.proofs.parsing.command_by.Goals as goal

pub returns-in-start : goal.returns-in-start
returns-in-start c = rw c.in-start.is c.start_of.ensures

pub returns-in-run : goal.returns-in-run
returns-in-run c = rw c.in-run.is c.run_by.ensures

pub returns-in-back : goal.returns-in-back
returns-in-back c = rw c.in-back.is c.run_by-in-back.ensures

pub returns-in-trajectory : goal.returns-in-trajectory
returns-in-trajectory c = rw c.in-trajectory.is c.trajectory_of.ensures

pub returns-in-states : goal.returns-in-states
returns-in-states c = rw c.in-states.is c.states_of.ensures

pub returns-in-replay : goal.returns-in-replay
returns-in-replay c = rw c.in-replay.is c.replay_of.ensures

pub returns-in-observe : goal.returns-in-observe
returns-in-observe c = rw c.in-observe.is c.observe_of.ensures

pub returns-in-frame : goal.returns-in-frame
returns-in-frame c = rw c.in-frame.is c.frame_of.ensures

pub returns-in-energy : goal.returns-in-energy
returns-in-energy c = rw c.in-energy.is c.quantity_of.ensures

pub returns-in-forces : goal.returns-in-forces
returns-in-forces c = rw c.in-forces.is c.quantity_of-in-forces.ensures

pub returns-in-velocities : goal.returns-in-velocities
returns-in-velocities c = rw c.in-velocities.is c.quantity_of-in-velocities.ensures

pub returns-in-check : goal.returns-in-check
returns-in-check c = rw c.in-check.is c.check_of.ensures

pub returns-in-code : goal.returns-in-code
returns-in-code c = rw c.in-code.is c.listing_of.ensures

pub returns-in-curve : goal.returns-in-curve
returns-in-curve c = rw c.in-curve.is c.curve_of.ensures

pub returns-in-explain : goal.returns-in-explain
returns-in-explain c = rw c.in-explain.is c.explain_of.ensures
