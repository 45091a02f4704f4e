-- The views of commands. A new command is a row of `command_view`.
use Rattle.std.specs.Prelude.{Option, option_map}
use Rattle.std.specs.Borrow.{Bor}
use Rattle.clap.specs.Words.{Text}
use Rattle.command_line.specs.Commands.{CommandView, CurveView, EachView, ReplayView, RunView, VisitsView}
use Rattle.command_line.specs.Commands as view
use Rattle.command_line.specs.declared.commands.Command.{Command}
use Rattle.command_line.specs.declared.commands.Command.TheVariants as command
use Rattle.command_line.specs.declared.commands.Curve.{Curve}
use Rattle.command_line.specs.declared.commands.Each.{Each}
use Rattle.command_line.specs.declared.commands.Replay.{Replay}
use Rattle.command_line.specs.declared.commands.Run.{Run}
use Rattle.command_line.specs.declared.commands.Visits.{Visits}

-- the bytes of a text that may be given
abbrev pub bytes_if : Option (Bor Text) → Option Text
bytes_if text = option_map (λ t. t.now) text

abbrev pub run_view : Run → RunView
run_view r = record {
  direction = r.direction;
  job = r.job.now;
  state = r.state.now;
  steps = r.steps;
  workers = r.workers;
  progress = r.progress;
}

abbrev pub visits_view : Visits → VisitsView
visits_view v = record { run = run_view v.run; every = v.every }

abbrev pub replay_view : Replay → ReplayView
replay_view r = record {
  job = r.job.now;
  states = r.states.now;
  workers = r.workers;
  from = r.from;
  to = r.to;
  part = r.part;
  parts = r.parts;
  progress = r.progress;
}

abbrev pub each_view : Each → EachView
each_view e = record { job = e.job.now; states = e.states.now; shown = e.shown }

-- the names of two types, if they are given
abbrev pub names_of : Option (Bor Text × Bor Text) → Option (Text × Text)
names_of names = option_map (λ two. (two.0.now, two.1.now)) names

abbrev pub curve_view : Curve → CurveView
curve_view c = record {
  job = c.job.now;
  points = c.points;
  energy = c.energy;
  slope = c.slope;
  grid = c.grid;
  types = names_of c.types;
  progress = c.progress;
}

abbrev pub command_view : Command → CommandView
command_view (command.Start s) = view.Start s.job.now s.gro.now s.frame
command_view (command.Run r) = view.Run (run_view r)
command_view (command.Trajectory v) = view.Trajectory (visits_view v)
command_view (command.States v) = view.States (visits_view v)
command_view (command.Replay r) = view.Replay (replay_view r)
command_view (command.Observe o) = view.Observe (visits_view o.visits) o.table
command_view (command.Frame f) = view.Frame f.state.now
command_view (command.Measure m) = view.Measure m.quantity m.job.now m.state.now
command_view (command.Each e) = view.Each (each_view e)
command_view (command.Check c) = view.Check c.job.now (bytes_if c.listing) c.progress
command_view (command.Code l) = view.Code l.job.now l.energy
command_view (command.Curve c) = view.Curve (curve_view c)
command_view (command.Explain e) = view.Explain (bytes_if e.code)
