use Rattle.std.proofs.Common.{◌≡◌, [], map, replicate}
use Rattle.cell_tiles.proofs.cells.empty_cells.Given as goal

abbrev pub invariant-loop : goal.invariant-loop
invariant-loop g l = map (λ m. m.items) l.members.items ≡ replicate l.counter []
