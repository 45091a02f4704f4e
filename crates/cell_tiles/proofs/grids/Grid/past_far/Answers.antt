use Rattle.std.proofs.Common.{sym, ◌∙◌}
use Rattle.cell_tiles.proofs.FarLemmas.{one_far, row_passed, slab_passed}
use Rattle.cell_tiles.proofs.grids.Grid.past_far.Goals as goal

pub returns-then-not-are_near_cells : goal.returns-then-not-are_near_cells
returns-then-not-are_near_cells c =
    let past =
    slab_passed c.args.self.now.bits c.args.c c.args.d _ _ _ _
    c.numbers-here.ensures.value c.numbers-other.ensures.value c.along-rows.ensures.value c.along-columns.ensures.value
    c.along-rows.ensures.positive c.along-columns.ensures.positive c.requires.order (sym c.are_near_cells.ensures ∙ c.if-not-are_near_cells.true) in
    record { after = past.0; order = past.1; far = past.2 }

pub returns-then-not-are_near_cells-2 : goal.returns-then-not-are_near_cells-2
returns-then-not-are_near_cells-2 c =
    let past =
    row_passed c.args.self.now.bits c.args.c c.args.d _ _ _
    c.numbers-here.ensures.value c.numbers-other.ensures.value c.along-columns.ensures.value c.along-columns.ensures.positive
    c.requires.order (sym c.are_near_cells-else-not-are_near_cells.ensures ∙ c.if-not-are_near_cells-2.true) in
    record { after = past.0; order = past.1; far = past.2 }

pub returns-else-not-are_near_cells-2-clause-far : goal.returns-else-not-are_near_cells-2-clause-far
returns-else-not-are_near_cells-2-clause-far c = one_far c.args.self.now.bits c.args.c c.args.d c.requires.far
