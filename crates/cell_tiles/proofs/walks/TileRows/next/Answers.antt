use Rattle.std.proofs.Common.{arith, ◌-◌, drop, length-drop, length-take-le}
use Rattle.cell_tiles.proofs.WalkLemmas.{walk_columns, walk_on, walk_pairs}
use Rattle.cell_tiles.proofs.walks.TileRows.next.Goals as goal

pub invariant_of-self : goal.invariant_of-self
invariant_of-self c =
    let next = c.next_row-self-inside.ensures in
    walk_on c.next_row-self-inside.result.row c.next_row-self-inside.result.column c.next_row-self-inside.result.width c.self.invariant (omega arith) next.row next.column (next.width c.self.inside.others.now c.self.invariant.width_is)

pub returns-clause-some : goal.returns-clause-some
returns-clause-some c = rw (← c.self.view_is) (walk_pairs c.self.invariant (omega arith))

pub returns-clause-there : goal.returns-clause-there
returns-clause-there c =
    let cursor = c.self.inside.cursor in
    let columns = walk_columns c.self.invariant (omega arith) in
    let others = c.self.inside.others.now in
    (omega (arith, columns.0, columns.1, length-drop cursor.column others, length-take-le (cursor.width - cursor.column) (drop cursor.column others) (omega (arith, length-drop cursor.column others, columns.1))))

pub returns-clause-within : goal.returns-clause-within
returns-clause-within c =
    let cursor = c.self.inside.cursor in
    let others = c.self.inside.others.now in
    let columns = walk_columns c.self.invariant (omega arith) in
    rw (← c.self.view_is) (omega (arith, columns.0, columns.1, length-take-le (cursor.width - cursor.column) (drop cursor.column others) (omega (arith, length-drop cursor.column others, columns.1))))
