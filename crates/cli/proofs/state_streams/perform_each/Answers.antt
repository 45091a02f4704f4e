-- the texts of the stream are those of the command
use Rattle.std.proofs.Common.{subst}
use Rattle.command_line.specs.declared.commands.EachOutput.TheVariants as shown
use Rattle.runs.specs.Observations.{ShowsTable}
use Rattle.streams.specs.Streams.{shown_by}
use Rattle.streams.specs.Texts.{ShowsQuantity}
use Rattle.cli.specs.Actions.{stream_action}
use Rattle.cli.specs.Performed.{Performs}
use Rattle.cli.proofs.StreamLaws.{shows_each}
use Rattle.cli.proofs.state_streams.perform_each.Goals as goal

pub returns-in-Frame : goal.returns-in-Frame
returns-in-Frame g c =
    shows_each c.show_by.result (g.F.Files.held c.args.files.now) _ _ c.args.each.job.now c.args.each.states.now
    shown.Frame c.args.each.shown _ _ c.in-Frame.is c.show_by.ensures

pub returns-in-Row : goal.returns-in-Row
returns-in-Row g c =
    let e = c.args.each in
    let r = c.show_by-in-Row.result in
    let held = g.F.Files.held c.args.files.now in
    let requested = g.F.Files.requested c.args.files.now in
    let requested' = g.F.Files.requested c.show_by-in-Row.new.files in
    let out = g.O.Out.output c.args.out.now in
    let out' = g.O.Out.output c.show_by-in-Row.new.out in
    shows_each r held requested requested' e.job.now e.states.now (shown.Row c.in-Row.table) e.shown out out' c.in-Row.is
    (subst (λ k. Performs held requested requested' (stream_action (shown_by (ShowsTable k)) e.job.now e.states.now) out out' r)
    c.columns_of-columns.ensures c.show_by-in-Row.ensures)

pub returns-in-Measured : goal.returns-in-Measured
returns-in-Measured g c =
    let e = c.args.each in
    let r = c.show_by-in-Measured.result in
    let held = g.F.Files.held c.args.files.now in
    let requested = g.F.Files.requested c.args.files.now in
    let requested' = g.F.Files.requested c.show_by-in-Measured.new.files in
    let out = g.O.Out.output c.args.out.now in
    let out' = g.O.Out.output c.show_by-in-Measured.new.out in
    shows_each r held requested requested' e.job.now e.states.now (shown.Measured c.in-Measured.quantity) e.shown out out'
    c.in-Measured.is
    (subst (λ q. Performs held requested requested' (stream_action (shown_by (ShowsQuantity q)) e.job.now e.states.now) out out' r)
    c.shown_quantity-quantity.ensures c.show_by-in-Measured.ensures)
