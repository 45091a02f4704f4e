use Rattle.std.proofs.Common.{◌≡◌, ◌++◌, List, map, take, arith, subst, take_all}
use Rattle.pair_lists.specs.PairLists.{list_at, lists_of}
use Rattle.ring_box.specs.declared.found_pairs.FoundPair.{FoundPair}
use Rattle.rounds.specs.Tiles.{acting}
use Rattle.frame_sums.proofs.FoundLaws.{row_fits, row_follows}
use Rattle.frame_sums.proofs.TileLaws.{tile_length}
use Rattle.frame_sums.specs.Rows.{found_of}
use Rattle.frame_sums.proofs.frame_pairs.FramePairs.add_tile.Goals as goal

pub add_batch-requires-clause-room : goal.add_batch-requires-clause-room
add_batch-requires-clause-room g c =
    let w = c.args.self.now in
    let s = w.system.now.system in
    let frame = w.frame.now in
    let pairs = list_at w.system.now.lists c.args.tile in
    let room = c.requires.room in (
      room.0 ++ acting (map (found_of s frame) (take c.loop-k.k pairs)),
      c.loop-k.invariant.sum room.0 room.1,
      row_fits s frame room.0 pairs c.loop-k.k c.find_row-k.result c.find_row-k.new.scratch.found.pairs c.find_row-k.ensures.sieved room.2,
    )

pub loop-k-preserved : goal.loop-k-preserved
loop-k-preserved g c =
    let w = c.args.self.now in
    let s = w.system.now.system in
    let frame = w.frame.now in
    let pairs = list_at w.system.now.lists c.args.tile in
    let sieved = c.find_row-k.ensures.sieved in
    record {
      within = sieved.within;
      sum = λ (done : List FoundPair) is.
          subst (λ (xs : List FoundPair). g.T.SumOverPairs.is_sum c.args.rule.now s xs c.add_batch.new.sum)
          (row_follows s frame done pairs c.loop-k.k c.find_row-k.result c.find_row-k.new.scratch.found.pairs sieved)
          (c.add_batch.ensures.sum (done ++ acting (map (found_of s frame) (take c.loop-k.k pairs))) (c.loop-k.invariant.sum done is));
    }

pub returns : goal.returns
returns g c =
    λ (done : List FoundPair) is.
    let w = c.args.self.now in
    let s = w.system.now.system in
    let frame = w.frame.now in
    let pairs = list_at w.system.now.lists c.args.tile in
    let all : take c.loop-k.k pairs ≡ pairs = take_all c.loop-k.k pairs (omega (arith, tile_length s frame (lists_of w.system.now.lists) c.args.tile c.requires.tile, c.pairs-pairs.ensures, c.loop-k-test.false)) in
    subst (λ (ps : List _). g.T.SumOverPairs.is_sum c.args.rule.now s (done ++ acting (map (found_of s frame) ps)) c.loop-k.sum) all (c.loop-k.invariant.sum done is)
