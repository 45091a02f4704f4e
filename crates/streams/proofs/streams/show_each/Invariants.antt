use Rattle.std.proofs.Common.{◌≡◌, ◌<◌, ◌-◌, ◌^◌, List, ℕ}
use Rattle.job.specs.JobText.{IsJobText, limits}
use Rattle.runs.specs.Readiness.{IsReady}
use Rattle.state.specs.Sources.{with_text}
use Rattle.streams.specs.OnTheWay.{IsAt}
use Rattle.streams.proofs.StreamLaws.{Progress}
use Rattle.streams.specs.Streams.{shown_by}
use Rattle.streams.proofs.streams.show_each.Given as goal

-- these states were shown, and the engine is at the next one
abbrev pub invariant-loop-shown : goal.invariant-loop-shown
invariant-loop-shown g l = record {
  few : l.shown < 2 ^ 64 - 1;
  at : IsAt l.fn.engine.job l.text.items l.engine;
  ready : IsReady (g.S.Show.shows l.show).observes l.observer l.engine;
  failed : (g.O.Out.output l.out).failed ≡ (g.O.Out.output l.fn.out).failed;
  progress : (job : List ℕ) → IsJobText limits job l.fn.engine.job
      → Progress (shown_by (g.S.Show.shows l.show) job) (with_text l.fn.text.items (g.L.Lines.left l.fn.lines)) l.shown
      (with_text l.text.items (g.L.Lines.left l.lines)) (g.O.Out.output l.fn.out) (g.O.Out.output l.out);
}

abbrev pub decreases-loop-shown : goal.decreases-loop-shown
decreases-loop-shown g l = 2 ^ 64 - l.shown
