-- the states that were shown are those of the arguments
use Rattle.command_line.specs.Views.{run_view}
use Rattle.cli.proofs.ShownLaws.{ends_run, reports_run}
use Rattle.cli.proofs.shown.perform_run.Goals as goal

pub returns : goal.returns
returns g c =
    let held = g.F.Files.held c.args.files.now in
    let requested = g.F.Files.requested in
    let output = g.O.Out.output in
    let error = g.E.Out.output in
    let now = c.args in
    let new = c.perform_shown.new in
    let run = run_view c.args.run.now in
    let shown = rw c.of_end-plan.ensures at c.perform_shown.ensures in
    record {
      performs = ends_run c.perform_shown.result held (requested now.files.now) (requested new.files) run
          (output now.out.now) (output new.out) (error now.err.now) (error new.err) shown;
      reports = reports_run c.perform_shown.result held (requested now.files.now) (requested new.files) run
          (output now.out.now) (output new.out) (error now.err.now) (error new.err) shown;
    }
