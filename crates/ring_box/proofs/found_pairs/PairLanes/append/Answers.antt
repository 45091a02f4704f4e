use Rattle.std.proofs.Common.{◌<◌, length, arith, get_or, ltb, map, refl}
use Rattle.std.proofs.lemmas.List.{get_or-set_same, length-map, map-set}
use Rattle.ring_box.specs.Acting.{limit_of}
use Rattle.ring_box.specs.FoundPairs.{found_in, scaled, squared}
use Rattle.ring_box.specs.declared.found_pairs.GridPair.{GridPair}
use Rattle.ring_box.proofs.FoundLemmas.{appended_more, counted_held, counted_most, near_pair, no_grid_pair, no_pair}
use Rattle.ring_box.proofs.found_pairs.PairLanes.append.Goals as goal

pub reaches-requires-clause-square : goal.reaches-requires-clause-square
reaches-requires-clause-square c =
    let here = get_or c.args.near.now c.loop-k.k no_pair in
    let v : GridPair = record { low = here.low; high = here.high; grid = c.grid_separation-grid.result } in
    let floats = c.float_scaled-floats in
    let small : c.loop-k.l < 128 = omega (arith, c.loop-k.invariant.room, c.loop-k-test.true, c.requires.room) in
    let room : c.loop-k.l < length c.loop-k.pairs = omega (arith, small, c.loop-k.invariant.held.held.lanes, length-map c.loop-k.pairs (scaled c.args.ring.now)) in
    rw (get_or-set_same c.loop-k.pairs c.loop-k.l v no_grid_pair room)
    (near_pair c.args.ring.now v floats.result c.square-square.result floats.ensures.near floats.ensures.bound c.square-square.ensures).square

pub loop-k-preserved : goal.loop-k-preserved
loop-k-preserved c =
    let d = c.args.reach.now in
    let b = c.args.ring.now in
    let i = c.loop-k.invariant in
    let l = c.loop-k.l in
    let here = get_or c.args.near.now c.loop-k.k no_pair in
    let floats = c.float_scaled-floats in
    let e = c.grid_separation-grid.ensures in
    let v : GridPair = record { low = here.low; high = here.high; grid = c.grid_separation-grid.result } in
    let pairs = map (scaled b) c.loop-k.pairs in
    let near = ltb (squared (scaled b v)) (limit_of d.frac d.cutoff) in
    let small : l < 128 = omega (arith, c.loop-k.invariant.room, c.loop-k-test.true, c.requires.room) in
    let room : l < length pairs = omega (arith, small, i.held.held.lanes) in
    let stored : l < length c.loop-k.pairs = omega (arith, room, length-map c.loop-k.pairs (scaled b)) in
    let is = near_pair b v floats.result c.square-square.result floats.ensures.near floats.ensures.bound c.square-square.ensures in
    rw (c.from-l.ensures, c.reaches.ensures, get_or-set_same c.loop-k.pairs l v no_grid_pair stored, map-set (scaled b) c.loop-k.pairs l v)
    (record {
      room = omega (arith, counted_most l near, i.room);
      held = counted_held d l pairs c.loop-k.x c.loop-k.y c.loop-k.z c.loop-k.squares (scaled b v) _ _ _ _ near refl small is i.held;
      found =
          appended_more d b c.args.frame.now c.args.near.now c.loop-k.k l pairs (scaled b v) near (found_in d b c.args.count c.args.self.now) c.requires.reach.reach refl
          here refl (omega (arith, c.loop-k-test.true)) room refl refl (rw e.x refl) (rw e.y refl) (rw e.z refl) i.found;
    })
