use Rattle.std.proofs.Common.{rules}
use Rattle.ring_box.specs.declared.vectors.CellBits.{CellBits}
use Rattle.ring_box.proofs.CellLemmas.{near_are_neighbours}
use Rattle.ring_box.proofs.boxes.RingBox.cell_bits.Goals as goal

pub returns-clause-neighbours : goal.returns-clause-neighbours
returns-clause-neighbours c =
    let bits : CellBits = record { x = c.axis_bits.result; y = c.axis_bits-2.result; z = c.axis_bits-3.result } in
    near_are_neighbours c.args.frac c.args.self.now c.args.cutoff bits c.requires.positive (search rules)
