use Rattle.std.proofs.Common.{◌∙◌, sym}
use Rattle.energy_program.specs.Programs.{trees_of}
use Rattle.job.specs.Views.{job_value}
use Rattle.curves.proofs.GridLaws.{grid_is}
use Rattle.curves.proofs.planned.PlannedTables.grid_of.Goals as goal

pub returns-then-has_grid : goal.returns-then-has_grid
returns-then-has_grid g c =
    let derived = c.formula_of-derived.ensures in
    grid_is c.grid_at.result (job_value c.args.self.now.job.now) (trees_of c.args.self.now.potential.now.slope.energy)
    c.args.self.now.plan.now.columns c.args.pair.now.others.items c.args.distance c.args.self.now.potential.now.derived
    c.requires.is.derived (sym c.has_grid.ensures ∙ c.if-has_grid.true)
    (rw (derived.formula, derived.frac, derived.others) at c.grid_at.ensures)
