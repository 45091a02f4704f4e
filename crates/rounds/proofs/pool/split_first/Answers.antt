use Rattle.std.proofs.Common.{arith}
use Rattle.rounds.specs.Tiles.{tiles_of}
use Rattle.rounds.proofs.RunningLemmas.{splits}
use Rattle.rounds.proofs.pool.split_first.Goals as goal

pub split_seat-requires : goal.split_seat-requires
split_seat-requires g c =
    let key = c.args.table.now.key in
    (c.requires.table, omega (arith, c.requires.sized.width), splits (tiles_of (g.W.Work.plan key.work.value)) key.atoms key.workers c.args.seat.now.id c.args.seat.now.me.0)
