-- Without an answer the check closes the goal too, after a search of seconds.
use Rattle.std.proofs.Common.{arith}
use Rattle.std.proofs.lemmas.Grind.{common_steps, rows}
use Rattle.cell_tiles.proofs.grids.Grid.numbers.Goals as goal

pub returns-clause-cell : goal.returns-clause-cell
returns-clause-cell c = grind (arith, common_steps, rows)
