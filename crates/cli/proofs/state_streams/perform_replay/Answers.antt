-- the states of the stream that is opened are compared with their runs
use Rattle.std.proofs.Common.{◌∙◌, ap, refl}
use Rattle.command_line.specs.Views.{replay_view}
use Rattle.streams.specs.Replays.{replayed_by}
use Rattle.command_line.specs.Commands as command
use Rattle.cli.specs.Actions.{Held, also_requested, work_of}
use Rattle.cli.specs.StreamTexts.{plan_of_replay}
use Rattle.cli.proofs.ProgressLaws.{unread_quiet}
use Rattle.cli.proofs.ReplayProgress.{replay_reports}
use Rattle.cli.proofs.StreamLaws.{stream_written}
use Rattle.cli.proofs.WorkLines.{unbegun_replay}
use Rattle.cli.proofs.state_streams.perform_replay.Goals as goal

pub returns-clause-performs : goal.returns-clause-performs
returns-clause-performs g c =
    let read = c.in_ok-job.ensures in
    let opens = c.in_ok-lines.ensures.opens in
    let replay = c.args.replay.now in
    stream_written c.replay_lines-replayed.result c.stream_result.result (g.F.Files.held c.args.files.now) (g.F.Files.requested c.args.files.now)
    (g.F.Files.requested c.open.new.files) (replayed_by (plan_of_replay (replay_view replay))) replay.job.now replay.states.now
    c.in_ok-job.job.items _ (g.O.Out.output c.args.out.now) (g.O.Out.output c.replay_lines-replayed.new.out) replay.states
    c.stream_result.ensures refl (opens.0 ∙ ap (λ requested. also_requested requested replay.states.now) read.reads.0) read.reads.1
    (opens.1 ∙ ap (λ (h : Held). h replay.states.now) read.still) (rw c.deref.ensures.value at c.replay_lines-replayed.ensures.writes)

pub returns-clause-reports : goal.returns-clause-reports
returns-clause-reports g c =
    let read = c.in_ok-job.ensures in
    let opens = c.in_ok-lines.ensures.opens in
    let replay = c.args.replay.now in
    replay_reports (g.F.Files.held c.args.files.now) (replay_view replay) c.in_ok-job.job.items read.reads.1 (g.O.Out.output c.args.out.now)
    (g.O.Out.output c.replay_lines-replayed.new.out) (g.E.Out.output c.args.err.now) (g.E.Out.output c.replay_lines-replayed.new.err) c.replay_lines-replayed.result c.stream_result.result _
    replay.states c.stream_result.ensures (opens.1 ∙ ap (λ (h : Held). h replay.states.now) read.still)
    (rw c.deref.ensures.value at c.replay_lines-replayed.ensures.watched)

-- a file wasn't read
pub returns-in_err-job-clause-reports : goal.returns-in_err-job-clause-reports
returns-in_err-job-clause-reports g c =
    unread_quiet c.from_residual.result _ (work_of (g.F.Files.held c.args.files.now) (g.O.Out.output c.args.out.now) (g.O.Out.output c.args.out.now)
    (command.Replay (replay_view c.args.replay.now)))
    (g.E.Out.output c.args.err.now) _ _ _ _
    (unbegun_replay (g.F.Files.held c.args.files.now) (g.O.Out.output c.args.out.now) (replay_view c.args.replay.now))
    c.from_residual.ensures.1 c.in_err-job.ensures.reads

pub returns-in_err-lines-clause-reports : goal.returns-in_err-lines-clause-reports
returns-in_err-lines-clause-reports g c =
    unread_quiet c.from_residual-in_err-lines.result _
    (work_of (g.F.Files.held c.args.files.now) (g.O.Out.output c.args.out.now) (g.O.Out.output c.args.out.now)
    (command.Replay (replay_view c.args.replay.now)))
    (g.E.Out.output c.args.err.now) _ _ _ _
    (unbegun_replay (g.F.Files.held c.args.files.now) (g.O.Out.output c.args.out.now) (replay_view c.args.replay.now))
    c.from_residual-in_err-lines.ensures.1 c.in_err-lines.ensures.opens
