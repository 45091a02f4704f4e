use Rattle.std.proofs.Common.{ℕ, ◌+◌, ◌%◌, map, length, ap, arith}
use Rattle.std.proofs.lemmas.List.{length-append, length-map}
use Rattle.cell_tiles.specs.Near.{lanes_of, mark}
use Rattle.cell_tiles.proofs.MarkLemmas.{block_long, block_more}
use Rattle.cell_tiles.proofs.marks.Marks.mark_block.Goals as goal

pub mark_byte-requires-2-clause-room : goal.mark_byte-requires-2-clause-room
mark_byte-requires-2-clause-room c =
    let low = lanes_of (c.args.bits % 256) in
    let f = λ (j : ℕ). mark c.args.atom (c.args.first + j) in
    omega (arith, c.requires.room, block_long c.args.bits c.requires.bits, ap length c.mark_byte.ensures, length-append c.args.self.now (map f low), length-map low f)

pub returns : goal.returns
returns c = block_more c.args.atom c.args.first c.args.bits c.args.self.now _ _ c.requires.bits c.mark_byte.ensures c.mark_byte-2.ensures
