use Rattle.std.proofs.Common.{◌≡◌, Some, take}
use Rattle.rounds.specs.Tiles.{additions_of}
use Rattle.rounds.specs.Workers.{added}
use Rattle.rounds.specs.Rule.{alone, first_of}
use Rattle.rounds.proofs.steps.deposit_pair.Given as goal

abbrev pub invariant-loop-part : goal.invariant-loop-part
invariant-loop-part g l = (l.seat.table_id ≡ l.fn.seat.table_id)
    × (l.seat.me ≡ alone (added (first_of l.fn.seat.me.0) (take l.part (additions_of (Some l.add)))))
