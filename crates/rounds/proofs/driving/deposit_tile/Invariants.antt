use Rattle.std.proofs.Common.{◌≡◌, ◌-◌, take}
use Rattle.rounds.specs.Tiles.{tile_of, pairs_at}
use Rattle.rounds.specs.Workers.{added}
use Rattle.rounds.specs.Rule.{alone, first_of}
use Rattle.rounds.proofs.driving.deposit_tile.Given as goal

abbrev pub decreases-loop-k : goal.decreases-loop-k
decreases-loop-k g l = l.pairs - l.k

abbrev pub invariant-loop-k : goal.invariant-loop-k
invariant-loop-k g l = (l.seat.table_id ≡ l.fn.seat.table_id)
    × (l.seat.me ≡ alone (added (first_of l.fn.seat.me.0) (tile_of (take l.k (pairs_at (g.W.Work.plan l.work) l.tile)))))
