use Rattle.std.proofs.Common.{rules}
use Rattle.command_line.specs.Views.{replay_view}
use Rattle.streams.proofs.WatchedLaws.{watched_told}
use Rattle.cli.specs.StreamTexts.{plan_of_replay}
use Rattle.cli.proofs.state_streams.replay_lines.Goals as goal

pub returns-clause-writes : goal.returns-clause-writes
returns-clause-writes g c = rw c.plan_of-plan.ensures at c.replay_states.ensures.writes

pub returns-clause-watched : goal.returns-clause-watched
returns-clause-watched g c =
    watched_told (plan_of_replay (replay_view c.args.replay.now)) c.args.job.now (g.L.Lines.left c.args.lines.now) (g.O.Out.output c.args.out.now) _ _ _
    (λ reports h. search rules) c.replay_states.result (rw c.plan_of-plan.ensures at c.replay_states.ensures.watched)
