-- the states that were shown are those of the arguments
use Rattle.command_line.specs.Views.{visits_view}
use Rattle.cli.proofs.ShownLaws.{ends_visits, reports_visits}
use Rattle.cli.proofs.shown.perform_visits.Goals as goal

pub returns : goal.returns
returns g c =
    let held = g.F.Files.held c.args.files.now in
    let requested = g.F.Files.requested in
    let output = g.O.Out.output in
    let error = g.E.Out.output in
    let now = c.args in
    let new = c.perform_shown.new in
    let v = visits_view c.args.v.now in
    let shows = g.S.Show.shows c.args.show.now in
    let shown = rw c.of_visits-plan.ensures at c.perform_shown.ensures in
    record {
      performs = ends_visits c.perform_shown.result held (requested now.files.now) (requested new.files) shows v
          (output now.out.now) (output new.out) (error now.err.now) (error new.err) shown;
      reports = reports_visits c.perform_shown.result held (requested now.files.now) (requested new.files) shows v
          (output now.out.now) (output new.out) (error now.err.now) (error new.err) shown;
    }
