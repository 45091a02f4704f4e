use Rattle.std.proofs.Common.{refl}
use Rattle.clap.specs.Words.{found_of, rows_of}
use Rattle.command_line.specs.CommandLine.{Gives, each_state, paths_usage, rows_usage, table_usage}
use Rattle.command_line.specs.declared.commands.EachOutput.TheVariants as shown
use Rattle.command_line.proofs.OneCommand.{meant_then}
use Rattle.command_line.proofs.parsing.rows_of_each.Goals as goal

pub returns-in_err-steps_of : goal.returns-in_err-steps_of
returns-in_err-steps_of c = rw c.from_residual.ensures (λ v is. c.in_err-steps_of.ensures _ is.1)

pub returns-in_err-steps_of-2 : goal.returns-in_err-steps_of-2
returns-in_err-steps_of-2 c = rw c.from_residual-in_err-steps_of-2.ensures (λ v is. c.in_err-steps_of-2.ensures _ is.2.1)

pub returns-in_err-job : goal.returns-in_err-job
returns-in_err-job c = rw c.from_residual-in_err-job.ensures
    (λ v is. c.in_err-job.ensures _ (is.2.2.0, is.2.2.1, (is.2.2.2.0, is.2.2.2.1, refl)))

pub returns : goal.returns
returns c =
    let job = c.in_ok-job.job.now in
    let states = c.in_ok-job.states.now in (
      _,
      c.in_ok-steps_of.ensures,
      (
        _,
        c.in_ok-steps_of-2.ensures,
        meant_then (rows_of (found_of c.args.matches.now)) paths_usage (λ paths. rows_usage paths.0 paths.1) _ _ c.in_ok-job.ensures
            (meant_then (rows_of (found_of c.args.matches.now)) table_usage (λ table. Gives (each_state (shown.Row table) job states)) _ _ c.columns_of-table.ensures refl),
      ),
    )
