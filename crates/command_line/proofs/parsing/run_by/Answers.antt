use Rattle.std.proofs.Common.{refl}
use Rattle.clap.specs.Words.{found_of, rows_of}
use Rattle.command_line.specs.CommandLine.{Gives, run_usage}
use Rattle.command_line.specs.Commands.{Run}
use Rattle.command_line.proofs.OneCommand.{meant_then, none_then}
use Rattle.command_line.proofs.parsing.run_by.Goals as goal

pub returns-in_err-run : goal.returns-in_err-run
returns-in_err-run c = rw c.from_residual.ensures (none_then (rows_of (found_of c.args.matches.now)) (run_usage c.args.direction) (λ run. Gives (Run run)) c.in_err-run.ensures)

pub returns : goal.returns
returns c = meant_then (rows_of (found_of c.args.matches.now)) (run_usage c.args.direction) (λ run. Gives (Run run)) _ _ c.in_ok-run.ensures refl
