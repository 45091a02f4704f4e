use Rattle.std.proofs.Common.{◌≤◌, ◌-◌}
use Rattle.engine.specs.Engines.{Advanced}
use Rattle.runs.specs.Watching.{hundredths_behind, reports_at}
use Rattle.runs.proofs.stretches.advance.Given as goal

-- these steps are made, and the hundredths among them were reported
abbrev pub invariant-loop-made : goal.invariant-loop-made
invariant-loop-made g l = record {
  within : l.made ≤ l.stretch.steps;
  went : Advanced l.stretch.direction l.made l.fn.engine l.engine;
  told : g.W.Watch.told l.fn.watch l.watch (reports_at (g.O.Out.output l.out) l.stretch.all_steps (hundredths_behind l.stretch.all_steps l.stretch.before l.made));
}

abbrev pub decreases-loop-made : goal.decreases-loop-made
decreases-loop-made g l = l.stretch.steps - l.made
