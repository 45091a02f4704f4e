use Rattle.cell_tiles.proofs.NumberLemmas.{among_few}
use Rattle.cell_tiles.proofs.walks.walk_among.Goals as goal

pub indices_of_pair-column-requires : goal.indices_of_pair-column-requires
indices_of_pair-column-requires c = among_few c.args.atoms.now c.args.k c.requires.few c.requires.within
