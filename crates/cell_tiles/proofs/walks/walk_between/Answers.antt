use Rattle.std.proofs.Common.{arith}
use Rattle.cell_tiles.proofs.WalkLemmas.{between_nothing, between_start}
use Rattle.cell_tiles.proofs.walks.walk_between.Goals as goal
use Rattle.cell_tiles.proofs.walks.walk_between.Goals.{then-width-eq0, else-width-eq0}

pub invariant_of-result : goal.invariant_of-result
invariant_of-result c =
    let xs = c.args.atoms.now in
    let ys = c.args.others.now in
    elim c.if-width-eq0.branch [
      | then-width-eq0 w ↦ rw (w.row-is, c.count_between.ensures) (between_nothing xs ys c.args.k c.requires.atoms (omega arith) c.requires.within)
      | else-width-eq0 w ↦ rw (w.row-is, c.count_between.ensures) (between_start xs ys c.args.k c.requires.atoms (omega arith) c.requires.within)
    ]
