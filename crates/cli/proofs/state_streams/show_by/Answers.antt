-- the states of the stream that is opened are shown
use Rattle.std.proofs.Common.{◌∙◌, ap, refl}
use Rattle.streams.specs.Streams.{shown_by}
use Rattle.cli.specs.Actions.{Held, also_requested}
use Rattle.cli.proofs.StreamLaws.{stream_written}
use Rattle.cli.proofs.state_streams.show_by.Goals as goal

pub returns : goal.returns
returns g c =
    let read = c.in_ok-job.ensures in
    let opens = c.in_ok-lines.ensures.opens in
    let each = c.args.each.now in
    stream_written c.show_states-shown.result c.stream_result.result (g.F.Files.held c.args.files.now) (g.F.Files.requested c.args.files.now)
    (g.F.Files.requested c.open.new.files) (shown_by (g.S.Show.shows c.args.show.now)) each.job.now each.states.now
    c.in_ok-job.job.items _ (g.O.Out.output c.args.out.now) (g.O.Out.output c.show_states-shown.new.out) each.states c.stream_result.ensures
    refl (opens.0 ∙ ap (λ requested. also_requested requested each.states.now) read.reads.0) read.reads.1
    (opens.1 ∙ ap (λ (h : Held). h each.states.now) read.still) (rw c.deref.ensures.value at c.show_states-shown.ensures)
