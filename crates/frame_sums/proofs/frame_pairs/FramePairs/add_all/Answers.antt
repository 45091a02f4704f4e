use Rattle.std.proofs.Common.{◌<◌, length, take, arith}
use Rattle.pair_lists.specs.PairLists.{lists_of}
use Rattle.frame_sums.proofs.FoundLaws.{few_with_next}
use Rattle.frame_sums.proofs.FrameSumLaws.{few_found}
use Rattle.frame_sums.proofs.TileLaws.{prepared_lists, plan_length}
use Rattle.frame_sums.specs.Rows.{pairs_found}
use Rattle.frame_sums.proofs.frame_pairs.FramePairs.add_all.Goals as goal

pub add_tile-requires-clause-room : goal.add_tile-requires-clause-room
add_tile-requires-clause-room g c =
    let w = c.args.self.now in
    let y = w.system.now in
    let s = y.system in
    let frame = w.frame.now in
    let lists = lists_of y.lists in
    let t = c.loop-tile.tile in
    let lt : t < length lists = omega (arith, plan_length s frame lists, c.loop-tile-test.true, c.tiles-tile-end.ensures) in
    let few = few_found s y.accepted frame lists (prepared_lists s frame y.lists y.ring y.reach w.prepared) w.atoms in
    (pairs_found s frame (take t lists), c.loop-tile.invariant, omega (arith, few, few_with_next s frame lists t lt))
