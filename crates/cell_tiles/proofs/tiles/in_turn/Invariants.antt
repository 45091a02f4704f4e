use Rattle.std.proofs.Common.{◌≡◌, take}
use Rattle.cell_tiles.specs.Tiles.{in_turn}
use Rattle.cell_tiles.proofs.tiles.in_turn.Given as goal

abbrev pub invariant-loop-k : goal.invariant-loop-k
invariant-loop-k g l = l.tiles.items ≡ in_turn (take l.k l.first) (take l.k l.second)
