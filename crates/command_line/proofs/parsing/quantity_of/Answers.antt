use Rattle.std.proofs.Common.{codes, false, refl, true}
use Rattle.clap.specs.Words.{found_of, rows_of}
use Rattle.command_line.specs.CommandLine.{AFlag, Gives, Takes, paths_usage, quantity_of}
use Rattle.command_line.proofs.OneCommand.{meant_then}
use Rattle.command_line.proofs.parsing.quantity_of.Goals as goal

pub returns-in_err-job : goal.returns-in_err-job
returns-in_err-job c = rw c.from_residual.ensures (λ v is. c.in_err-job.ensures _ (is.0, is.1, (is.2.0, is.2.1, refl)))

pub returns-in-true : goal.returns-in-true
returns-in-true c =
    let q = c.args.quantity in
    meant_then (rows_of (found_of c.args.matches.now)) paths_usage (λ paths. Takes (codes "each") AFlag (λ each. Gives (quantity_of q each paths.0 paths.1))) _ _
    c.in_ok-job.ensures (true, c.in-true.ensures, refl)

pub returns-in-false : goal.returns-in-false
returns-in-false c =
    let q = c.args.quantity in
    meant_then (rows_of (found_of c.args.matches.now)) paths_usage (λ paths. Takes (codes "each") AFlag (λ each. Gives (quantity_of q each paths.0 paths.1))) _ _
    c.in_ok-job.ensures (false, c.in-false.ensures, refl)
