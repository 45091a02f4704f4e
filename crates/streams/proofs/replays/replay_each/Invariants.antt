use Rattle.std.proofs.Common.{◌≡◌, ◌<◌, ◌≤◌, ◌-◌, ◌^◌, List, ℕ}
use Rattle.job.specs.JobText.{IsJobText, limits}
use Rattle.state.specs.Sources.{with_text}
use Rattle.streams.specs.OnTheWay.{IsAt}
use Rattle.streams.specs.Plans.{replay_plan_view}
use Rattle.streams.proofs.WatchedLaws.{Watching}
use Rattle.streams.proofs.replays.replay_each.Given as goal

-- these segments were replayed and reported, and the engine is at the state behind them
abbrev pub invariant-loop-text : goal.invariant-loop-text
invariant-loop-text g l = record {
  few : l.number < 2 ^ 64 - 2;
  fewer : l.differing ≤ l.number;
  at : IsAt l.fn.engine.job l.text.items l.engine;
  failed : (g.O.Out.output l.out).failed ≡ (g.O.Out.output l.fn.out).failed;
  way : (job : List ℕ) → IsJobText limits job l.fn.engine.job
      → Watching (replay_plan_view l.fn.plan) job (with_text l.fn.text.items (g.L.Lines.left l.fn.lines)) l.number l.differing l.text.items
      (g.L.Lines.left l.lines) (g.O.Out.output l.fn.out) (g.O.Out.output l.out) (g.W.Watch.told l.fn.watch l.watch);
}

abbrev pub decreases-loop-text : goal.decreases-loop-text
decreases-loop-text g l = 2 ^ 64 - l.number
