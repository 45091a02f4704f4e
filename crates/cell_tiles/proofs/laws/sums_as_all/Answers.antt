use Rattle.cell_tiles.proofs.SumLemmas.{sums_as_all}
use Rattle.cell_tiles.proofs.laws.sums_as_all.Goals as goal

pub returns : goal.returns
returns c bits frame g places = sums_as_all bits frame g places
