use Rattle.curves.proofs.TableLaws.{part_most}
use Rattle.curves.proofs.rows.part_of.Goals as goal

pub returns-clause-most : goal.returns-clause-most
returns-clause-most c =
    rw c.from.ensures (rw c.from-2.ensures (rw c.from-3.ensures (part_most c.args.length c.args.points c.args.i c.requires.within)))
