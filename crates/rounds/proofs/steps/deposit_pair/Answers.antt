use Rattle.std.proofs.Common.{Some, ◌++◌, suc, drop}
use Rattle.rounds.specs.Tiles.{additions_of, tiles_of}
use Rattle.rounds.proofs.OweLemmas.{part_owes}
use Rattle.rounds.proofs.steps.deposit_pair.Goals as goal

pub deposit-requires-clause-next : goal.deposit-requires-clause-next
deposit-requires-clause-next g c =
    let add = c.args.add.now in
    let k = c.loop-part.part in
    let rest = c.requires.next.0 in (
      drop (suc k) (additions_of (Some add)) ++ rest,
      part_owes add c.args.seat.now.me (tiles_of (g.W.Work.plan c.args.table.now.key.work.value)) c.loop-part.seat.me k c.addition-entry.result rest c.requires.next.1 c.addition-entry.ensures c.loop-part.invariant.1,
    )
