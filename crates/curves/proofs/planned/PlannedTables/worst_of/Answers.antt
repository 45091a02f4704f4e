use Rattle.std.proofs.Common.{◌∙◌}
use Rattle.energy_program.specs.Programs.{trees_of}
use Rattle.curves.proofs.planned.PlannedTables.worst_of.Goals as goal

pub returns : goal.returns
returns g c =
    let formula = c.formula_of-formula.ensures in
    rw (formula.frac, formula.others, c.distances_at-distances.ensures) at
    (c.bounds_over.ensures (trees_of c.args.self.now.potential.now.slope.energy) (formula.formula ∙ c.requires.is.formula))
