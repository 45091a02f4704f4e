use Rattle.std.proofs.Common.{ℕ, ◌<◌, ◌≤◌, ◌-◌}
use Rattle.engine.specs.Engines.{Advanced}
use Rattle.runs.specs.Plans.{last_text, steps_to}
use Rattle.runs.specs.Readiness.{IsReady}
use Rattle.runs.specs.Shown.{HasShown}
use Rattle.runs.specs.Visits.{IsTextOnWay}
use Rattle.runs.proofs.visits.show_each.Given as goal

-- the texts before this number are written, and the engine is after the steps before the last of them
abbrev pub invariant-loop-done : goal.invariant-loop-done
invariant-loop-done g l = record {
  few : l.number ≤ last_text l.plan;
  within : l.before ≤ steps_to l.plan l.number;
  earlier : (i : ℕ) → i < l.number → steps_to l.plan i ≤ l.before;
  went : Advanced l.plan.direction l.before l.fn.engine l.engine;
  ready : IsReady (g.S.Show.shows l.show).observes l.observer l.engine;
  shown : HasShown (IsTextOnWay (g.S.Show.shows l.show) l.plan l.fn.engine) l.plan l.number l.before
      (g.O.Out.output l.fn.out) (g.O.Out.output l.out) (g.W.Watch.told l.fn.watch l.watch);
}

abbrev pub decreases-loop-done : goal.decreases-loop-done
decreases-loop-done g l = last_text l.plan - l.number
