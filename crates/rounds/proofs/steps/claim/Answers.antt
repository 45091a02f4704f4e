use Rattle.std.proofs.Common.{arith}
use Rattle.std.proofs.lemmas.List.{length-map}
use Rattle.rounds.specs.Tiles.{tile_of, tiles_of}
use Rattle.rounds.proofs.RunningLemmas.{claims_as}
use Rattle.rounds.proofs.steps.claim.Goals as goal

pub fetch_add-requires : goal.fetch_add-requires
fetch_add-requires g c =
    let key = c.args.table.now.key in
    let plan = g.W.Work.plan key.work.value in
    let sized = c.requires.sized in (
      c.requires.table,
      omega (arith, sized.width),
      claims_as (tiles_of plan) key.atoms key.workers c.args.table.now.table_id.slots c.args.seat.now.id c.args.seat.now.me (omega (arith, sized.tickets, length-map plan tile_of)) c.requires.alone c.requires.ready,
    )
