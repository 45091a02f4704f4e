use Rattle.cell_tiles.proofs.TurnLaws.{turn_none}
use Rattle.cell_tiles.proofs.tiles.in_turn.Goals as goal

pub loop-k-init : goal.loop-k-init
loop-k-init g c = turn_none c.args.first.now c.args.second.now _ c.new-tiles.ensures.items
