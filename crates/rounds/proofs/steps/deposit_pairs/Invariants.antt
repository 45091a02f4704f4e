use Rattle.std.proofs.Common.{◌≡◌, take}
use Rattle.rounds.specs.Tiles.{additions_of_all}
use Rattle.rounds.specs.Workers.{added}
use Rattle.rounds.specs.Rule.{alone, first_of}
use Rattle.rounds.proofs.steps.deposit_pairs.Given as goal

abbrev pub invariant-loop-k : goal.invariant-loop-k
invariant-loop-k g l = (l.seat.table_id ≡ l.fn.seat.table_id) × (l.seat.me ≡ alone (added (first_of l.fn.seat.me.0) (additions_of_all (take l.k (g.W.RowWork.held l.scratch)))))
