use Rattle.std.proofs.Common.{refl}
use Rattle.clap.specs.Words.{found_of, rows_of}
use Rattle.command_line.specs.CommandLine.{paths_usage, steps_usage}
use Rattle.command_line.proofs.OneCommand.{meant_then}
use Rattle.command_line.proofs.parsing.run_of.Goals as goal

pub returns-in_err-job : goal.returns-in_err-job
returns-in_err-job c = rw c.from_residual.ensures (λ v is. c.in_err-job.ensures _ (is.0, is.1, (is.2.0, is.2.1, refl)))

pub returns-in_err-steps : goal.returns-in_err-steps
returns-in_err-steps c = rw c.from_residual-in_err-steps.ensures (λ v is. c.in_err-steps.ensures _ is.2.2.1)

pub returns-in_err-workers : goal.returns-in_err-workers
returns-in_err-workers c = rw c.from_residual-in_err-workers.ensures (λ v is. c.in_err-workers.ensures _ is.2.2.2.1)

pub returns : goal.returns
returns c =
    meant_then (rows_of (found_of c.args.matches.now)) paths_usage (steps_usage c.args.direction) _ _ c.in_ok-job.ensures
    (_, c.in_ok-steps.ensures, (_, c.in_ok-workers.ensures, (_, c.is_given-progress.ensures, refl)))
