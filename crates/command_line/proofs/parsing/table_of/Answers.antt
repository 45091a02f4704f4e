use Rattle.std.proofs.Common.{refl}
use Rattle.clap.specs.Words.{found_of, rows_of}
use Rattle.command_line.specs.CommandLine.{Gives, Usage, table_usage, followed_by, visits_usage}
use Rattle.command_line.specs.Commands.{CommandView, Observe, VisitsView}
use Rattle.command_line.specs.Views.{visits_view}
use Rattle.command_line.proofs.OneCommand.{meant_then, none_then}
use Rattle.command_line.proofs.parsing.table_of.Goals as goal

abbrev table_after : VisitsView → Usage CommandView
table_after visits = followed_by table_usage (λ table. Gives (Observe visits table))

pub returns-in_err-visits : goal.returns-in_err-visits
returns-in_err-visits c = rw c.from_residual.ensures (none_then (rows_of (found_of c.args.matches.now)) visits_usage table_after c.in_err-visits.ensures)

pub returns : goal.returns
returns c =
    meant_then (rows_of (found_of c.args.matches.now)) visits_usage table_after _ _ c.in_ok-visits.ensures
    (meant_then (rows_of (found_of c.args.matches.now)) table_usage (λ table. Gives (Observe (visits_view c.in_ok-visits.visits) table)) _ _ c.columns_of-table.ensures refl)
