use Rattle.std.proofs.Common.{arith}
use Rattle.cell_tiles.proofs.NumberLemmas.{among_few, among_row}
use Rattle.cell_tiles.proofs.pairs.pair_among.Goals as goal

pub indices_of_pair-i-requires : goal.indices_of_pair-i-requires
indices_of_pair-i-requires c = among_few c.args.atoms.now c.args.k c.requires.few (omega (arith, c.requires.pair))

pub bounds-atoms-j : goal.bounds-atoms-j
bounds-atoms-j c = among_row c.args.atoms.now _ _ c.args.k c.indices_of_pair-i.ensures.order c.indices_of_pair-i.ensures.number c.requires.pair

pub bounds-atoms-i : goal.bounds-atoms-i
bounds-atoms-i c =
    omega (arith, c.indices_of_pair-i.ensures.order, among_row c.args.atoms.now _ _ c.args.k c.indices_of_pair-i.ensures.order c.indices_of_pair-i.ensures.number c.requires.pair)
