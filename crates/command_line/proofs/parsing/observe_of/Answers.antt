use Rattle.std.proofs.Common.{codes, false, true}
use Rattle.clap.specs.Words.{found_of, rows_of}
use Rattle.command_line.specs.CommandLine.{AFlag, observe_usage}
use Rattle.command_line.specs.Views.{command_view}
use Rattle.command_line.proofs.OneCommand.{after}
use Rattle.command_line.proofs.parsing.observe_of.Goals as goal

pub returns-in-true : goal.returns-in-true
returns-in-true c = after (codes "each") (rows_of (found_of c.args.matches.now)) AFlag observe_usage command_view _ true c.in-true.ensures c.rows_of_each.ensures

pub returns-in-false : goal.returns-in-false
returns-in-false c = after (codes "each") (rows_of (found_of c.args.matches.now)) AFlag observe_usage command_view _ false c.in-false.ensures c.table_of.ensures
