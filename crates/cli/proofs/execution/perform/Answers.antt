-- each command is performed by the call for this command
use Rattle.cli.proofs.PerformLaws.{performs_as, reports_as}
use Rattle.cli.proofs.ProgressLaws.{silent}
use Rattle.cli.proofs.execution.perform.Goals as goal

pub returns-in-Start : goal.returns-in-Start
returns-in-Start g c = record {
  performs = performs_as c.perform_start.result _ _ _ c.args.command _ _ _ c.in-Start.is c.perform_start.ensures;
  reports = reports_as c.perform_start.result _ _ _ c.args.command _ _ _
      c.in-Start.is (silent c.perform_start.result (g.E.Out.output c.args.err.now));
}

pub returns-in-Run : goal.returns-in-Run
returns-in-Run g c = record {
  performs = performs_as c.perform_run.result _ _ _ c.args.command _ _ _ c.in-Run.is c.perform_run.ensures.performs;
  reports = reports_as c.perform_run.result _ _ _ c.args.command _ _ _ c.in-Run.is c.perform_run.ensures.reports;
}

pub returns-in-Trajectory : goal.returns-in-Trajectory
returns-in-Trajectory g c = record {
  performs = performs_as c.perform_visits.result _ _ _ c.args.command _ _ _
      c.in-Trajectory.is c.perform_visits.ensures.performs;
  reports = reports_as c.perform_visits.result _ _ _ c.args.command _ _ _ c.in-Trajectory.is c.perform_visits.ensures.reports;
}

pub returns-in-States : goal.returns-in-States
returns-in-States g c = record {
  performs = performs_as c.perform_visits-in-States.result _ _ _ c.args.command _ _ _
      c.in-States.is c.perform_visits-in-States.ensures.performs;
  reports = reports_as c.perform_visits-in-States.result _ _ _ c.args.command _ _ _
      c.in-States.is c.perform_visits-in-States.ensures.reports;
}

pub returns-in-Replay : goal.returns-in-Replay
returns-in-Replay g c = record {
  performs = performs_as c.perform_replay.result _ _ _ c.args.command _ _ _ c.in-Replay.is c.perform_replay.ensures.performs;
  reports = reports_as c.perform_replay.result _ _ _ c.args.command _ _ _ c.in-Replay.is c.perform_replay.ensures.reports;
}

pub returns-in-Observe : goal.returns-in-Observe
returns-in-Observe g c =
    let shown = rw c.columns_of.ensures at c.perform_visits-in-Observe.ensures in
    record {
      performs = performs_as c.perform_visits-in-Observe.result _ _ _ c.args.command _ _ _ c.in-Observe.is shown.performs;
      reports = reports_as c.perform_visits-in-Observe.result _ _ _ c.args.command _ _ _ c.in-Observe.is shown.reports;
    }

pub returns-in-Frame : goal.returns-in-Frame
returns-in-Frame g c = record {
  performs = performs_as c.perform_frame.result _ _ _ c.args.command _ _ _ c.in-Frame.is c.perform_frame.ensures;
  reports = reports_as c.perform_frame.result _ _ _ c.args.command _ _ _
      c.in-Frame.is (silent c.perform_frame.result (g.E.Out.output c.args.err.now));
}

pub returns-in-Measure : goal.returns-in-Measure
returns-in-Measure g c = record {
  performs = performs_as c.perform_quantity.result _ _ _ c.args.command _ _ _ c.in-Measure.is c.perform_quantity.ensures;
  reports = reports_as c.perform_quantity.result _ _ _ c.args.command _ _ _
      c.in-Measure.is (silent c.perform_quantity.result (g.E.Out.output c.args.err.now));
}

pub returns-in-Each : goal.returns-in-Each
returns-in-Each g c = record {
  performs = performs_as c.perform_each.result _ _ _ c.args.command _ _ _ c.in-Each.is c.perform_each.ensures;
  reports = reports_as c.perform_each.result _ _ _ c.args.command _ _ _
      c.in-Each.is (silent c.perform_each.result (g.E.Out.output c.args.err.now));
}

pub returns-in-Check : goal.returns-in-Check
returns-in-Check g c = record {
  performs = performs_as c.perform_check.result _ _ _ c.args.command _ _ _ c.in-Check.is c.perform_check.ensures.performs;
  reports = reports_as c.perform_check.result _ _ _ c.args.command _ _ _ c.in-Check.is c.perform_check.ensures.reports;
}

pub returns-in-Code : goal.returns-in-Code
returns-in-Code g c = record {
  performs = performs_as c.perform_code.result _ _ _ c.args.command _ _ _ c.in-Code.is c.perform_code.ensures;
  reports = reports_as c.perform_code.result _ _ _ c.args.command _ _ _
      c.in-Code.is (silent c.perform_code.result (g.E.Out.output c.args.err.now));
}

pub returns-in-Curve : goal.returns-in-Curve
returns-in-Curve g c = record {
  performs = performs_as c.perform_curve.result _ _ _ c.args.command _ _ _ c.in-Curve.is c.perform_curve.ensures.performs;
  reports = reports_as c.perform_curve.result _ _ _ c.args.command _ _ _ c.in-Curve.is c.perform_curve.ensures.reports;
}

pub returns-in-Explain : goal.returns-in-Explain
returns-in-Explain g c = record {
  performs = performs_as c.perform_explain.result _ _ _ c.args.command _ _ _
      c.in-Explain.is (c.perform_explain.ensures (g.F.Files.held c.args.files.now) (g.F.Files.requested c.args.files.now));
  reports = reports_as c.perform_explain.result _ _ _ c.args.command _ _ _
      c.in-Explain.is (silent c.perform_explain.result (g.E.Out.output c.args.err.now));
}
