use Rattle.std.proofs.Common.{◌-◌, arith, length}
use Rattle.cell_tiles.specs.Near.{IsPairOf}
use Rattle.cell_tiles.proofs.ListLemmas.{part_all, part_in_blocks}
use Rattle.cell_tiles.proofs.lists.PairList.add_row.Goals as goal

pub add_blocks-requires-clause-beside : goal.add_blocks-requires-clause-beside
add_blocks-requires-clause-beside c =
    let is = c.min-end.ensures in
    part_in_blocks c.args.frame.now.places.now c.args.blocks.now c.args.first c.loop-seen.seen (c.min-end.result - c.loop-seen.seen) _ c.args.others.now (omega (arith, is, c.loop-seen-test.true)) (omega (arith, is, c.loop-seen-test.true)) c.requires.beside

pub add_blocks-requires-clause-pairs : goal.add_blocks-requires-clause-pairs
add_blocks-requires-clause-pairs c = part_all (IsPairOf (length c.args.frame.now.places.now)) c.args.atom c.loop-seen.seen (c.min-end.result - c.loop-seen.seen) c.args.others.now c.requires.pairs
