use Rattle.std.proofs.Common.{codes, refl, None}
use Rattle.clap.specs.Words.{found_of, rows_of}
use Rattle.command_line.specs.CommandLine.{AFlag, every_usage, followed_by, run_usage, turned}
use Rattle.command_line.specs.Views.{visits_view}
use Rattle.command_line.specs.declared.commands.Visits.{Visits}
use Rattle.command_line.proofs.OneCommand.{after, after_all, meant_then, none_then}
use Rattle.command_line.proofs.parsing.visits_of.Goals as goal

pub returns-in_err-run : goal.returns-in_err-run
returns-in_err-run c =
    let back = c.is_given-back.result in
    let rows = rows_of (found_of c.args.matches.now) in
    rw c.from_residual.ensures (after {R = Visits} (codes "back") rows AFlag (λ b. followed_by (run_usage (turned b)) every_usage) visits_view
    None back c.is_given-back.ensures (none_then rows (run_usage (turned back)) every_usage (rw c.turned.ensures at c.in_err-run.ensures)))

pub returns-in_err-every : goal.returns-in_err-every
returns-in_err-every c =
    let back = c.is_given-back.result in
    let rows = rows_of (found_of c.args.matches.now) in
    rw c.from_residual-in_err-every.ensures (after {R = Visits} (codes "back") rows AFlag (λ b. followed_by (run_usage (turned b)) every_usage)
    visits_view None back c.is_given-back.ensures (after_all {R = Visits} rows (run_usage (turned back)) every_usage visits_view None _
    (rw c.turned.ensures at c.in_ok-run.ensures) (λ v is. c.in_err-every.ensures _ is.1)))

pub returns : goal.returns
returns c =
    let rows = rows_of (found_of c.args.matches.now) in (
      c.is_given-back.result,
      c.is_given-back.ensures,
      meant_then rows (run_usage (turned c.is_given-back.result)) every_usage _ _ (rw c.turned.ensures at c.in_ok-run.ensures)
          (c.in_ok-every.every, c.in_ok-every.ensures, refl),
    )
