use Rattle.run_laws.proofs.AxisLaws.{forces_reordered, orders_are_undone, reordered_are_safe, runs_reordered, states_reordered, steps_reordered}
use Rattle.run_laws.proofs.symmetries.axes.Goals as goal

pub returns : goal.returns
returns c = record {
  forces = forces_reordered;
  steps = steps_reordered;
  states = states_reordered;
  runs = runs_reordered;
  safe = reordered_are_safe;
  undone = orders_are_undone;
}
