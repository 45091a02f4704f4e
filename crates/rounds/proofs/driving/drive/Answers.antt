use Rattle.std.proofs.Common.{◌<◌, length, sym, subst, ◌∙◌, arith}
use Rattle.std.proofs.lemmas.List.{length-map}
use Rattle.rounds.specs.Tiles.{tiles_of, tile_of, pairs_at}
use Rattle.rounds.specs.Workers.{IsReady}
use Rattle.rounds.specs.Rule.{first_of}
use Rattle.rounds.proofs.OweLemmas.{is_alone, has_drawn, ready_after, rises, tile_added, keeps_number}
use Rattle.rounds.proofs.driving.drive.Goals as goal

pub claim-tile-requires-in-loop-tile-clause-ready : goal.claim-tile-requires-in-loop-tile-clause-ready
claim-tile-requires-in-loop-tile-clause-ready g c =
    let plan = g.W.Work.plan c.args.work.now in
    let t = c.loop-tile.tile in
    let me = c.loop-tile.seat.me in
    let next = c.deposit_tile.new.seat.me in
    let lt : t < length (tiles_of plan) = omega (arith, length-map plan tile_of, c.tiles-tiles.ensures) in
    subst (λ w. IsReady (tiles_of (g.W.Work.plan w)) (first_of next.0)) (sym c.requires.made.this) (ready_after (tiles_of plan) me next t c.loop-tile.invariant.3 lt (tile_added plan t me next c.deposit_tile.ensures.added))

pub loop-tile-smaller : goal.loop-tile-smaller
loop-tile-smaller g c =
    let plan = g.W.Work.plan c.args.work.now in
    let t = c.loop-tile.tile in
    let up : t < c.claim-tile-in-loop-tile.result = rises (tiles_of plan) c.loop-tile.seat.me c.deposit_tile.new.seat.me (tile_of (pairs_at plan t)) t c.claim-tile-in-loop-tile.result c.loop-tile.invariant.3 c.deposit_tile.ensures.added c.claim-tile-in-loop-tile.ensures.later in
    omega (arith, c.loop-tile-test.true)

pub loop-tile-preserved : goal.loop-tile-preserved
loop-tile-preserved g c =
    let plan = g.W.Work.plan c.args.work.now in
    let t = c.loop-tile.tile in
    let me = c.loop-tile.seat.me in
    let next = c.deposit_tile.new.seat.me in
    let last = c.claim-tile-in-loop-tile.new.seat.me in
    let lt : t < length (tiles_of plan) = omega (arith, length-map plan tile_of, c.tiles-tiles.ensures) in
    let ready = ready_after (tiles_of plan) me next t c.loop-tile.invariant.3 lt (tile_added plan t me next c.deposit_tile.ensures.added) in (
      c.claim-tile-in-loop-tile.ensures.table ∙ (c.deposit_tile.ensures.table ∙ c.loop-tile.invariant.0),
      is_alone last _ c.claim-tile-in-loop-tile.ensures.drew,
      keeps_number me next last _ c.claim-tile-in-loop-tile.result c.deposit_tile.ensures.added c.claim-tile-in-loop-tile.ensures.drew ∙ c.loop-tile.invariant.2,
      has_drawn (tiles_of plan) next last c.claim-tile-in-loop-tile.result ready c.claim-tile-in-loop-tile.ensures.drew,
    )
