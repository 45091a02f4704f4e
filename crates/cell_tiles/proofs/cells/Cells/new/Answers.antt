use Rattle.cell_tiles.proofs.VectorLemmas.{few_empty, length_empty}
use Rattle.cell_tiles.proofs.cells.Cells.new.Goals as goal

pub invariant_of-result : goal.invariant_of-result
invariant_of-result g c = (
  length_empty (λ m. m.items) c.in_ok-members.members.items _ c.in_ok-members.ensures,
  few_empty (λ m. m.items) c.in_ok-members.members.items _ 65536 c.in_ok-members.ensures,
  length_empty (λ b. b.items) c.in_ok-blocks.blocks.items _ c.in_ok-blocks.ensures,
)
