use Rattle.std.proofs.Common.{arith}
use Rattle.rounds.specs.Tiles.{tiles_of}
use Rattle.rounds.proofs.RunningLemmas.{joins}
use Rattle.rounds.proofs.pool.join_last.Goals as goal

pub join_seat-requires : goal.join_seat-requires
join_seat-requires g c =
    let key = c.args.table.now.key in
    let mine = c.args.seat.now in
    let theirs = c.args.other in
    (c.requires.table, c.requires.other, c.requires.free, omega (arith, c.requires.sized.width), joins (tiles_of (g.W.Work.plan key.work.value)) key.atoms key.workers mine.id mine.me.0 theirs.id theirs.me.0)
