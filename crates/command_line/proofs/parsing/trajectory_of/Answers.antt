use Rattle.std.proofs.Common.{refl}
use Rattle.clap.specs.Words.{found_of, rows_of}
use Rattle.command_line.specs.CommandLine.{Gives, visits_usage}
use Rattle.command_line.specs.Commands.{Trajectory}
use Rattle.command_line.proofs.OneCommand.{meant_then, none_then}
use Rattle.command_line.proofs.parsing.trajectory_of.Goals as goal

pub returns-in_err-visits : goal.returns-in_err-visits
returns-in_err-visits c = rw c.from_residual.ensures (none_then (rows_of (found_of c.args.matches.now)) visits_usage (λ visits. Gives (Trajectory visits)) c.in_err-visits.ensures)

pub returns : goal.returns
returns c = meant_then (rows_of (found_of c.args.matches.now)) visits_usage (λ visits. Gives (Trajectory visits)) _ _ c.in_ok-visits.ensures refl
