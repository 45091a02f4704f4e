use Rattle.std.proofs.Common.{◌≡◌, ◌-◌}
use Rattle.rounds.specs.Tiles.{tiles_of}
use Rattle.rounds.specs.Workers.{HasDrawn}
use Rattle.rounds.specs.Rule.{alone, first_of}
use Rattle.rounds.proofs.driving.drive.Given as goal

abbrev pub invariant-loop-tile : goal.invariant-loop-tile
invariant-loop-tile g l = (l.seat.table_id ≡ l.fn.seat.table_id) × (l.seat.me ≡ alone (first_of l.seat.me.0)) × ((first_of l.seat.me.0).number ≡ l.worker)
    × HasDrawn (tiles_of (g.W.Work.plan l.work)) (first_of l.seat.me.0) l.tile

abbrev pub decreases-loop-tile : goal.decreases-loop-tile
decreases-loop-tile g l = l.tiles - l.tile
