use Rattle.std.proofs.Common.{arith}
use Rattle.rounds.specs.Tiles.{tiles_of}
use Rattle.rounds.proofs.RunningLemmas.{deposits_as}
use Rattle.rounds.proofs.steps.deposit.Goals as goal

pub fetch_add-requires : goal.fetch_add-requires
fetch_add-requires g c =
    let key = c.args.table.now.key in (
      c.requires.table,
      omega (arith, c.requires.sized.width, c.requires.entry),
      deposits_as (tiles_of (g.W.Work.plan key.work.value)) key.atoms key.workers c.args.table.now.table_id.slots c.args.seat.now.id c.args.seat.now.me c.args.entry c.args.amount c.requires.next.0 c.requires.entry c.requires.alone c.requires.next.1,
    )
