use Rattle.std.proofs.Common.{rules}
use Rattle.cell_tiles.proofs.VectorLemmas.{cleared_more}
use Rattle.cell_tiles.proofs.cells.clear_all.Goals as goal

pub loop-cell-preserved : goal.loop-cell-preserved
loop-cell-preserved g c = record {
  cleared = cleared_more (λ m. m.items) c.loop-cell.members.items c.loop-cell.cell c.clear.new.self c.clear.ensures.items (search rules) c.loop-cell.invariant.cleared;
  whole = search rules;
}
