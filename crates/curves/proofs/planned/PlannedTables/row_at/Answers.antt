use Rattle.std.proofs.Common.{◌∙◌, ap}
use Rattle.std.proofs.lemmas.Result.{err_from_is_err_and}
use Rattle.energy_program.specs.Programs.{trees_of}
use Rattle.interval_domain.specs.Views.{span_range}
use Rattle.job.specs.Views.{job_value}
use Rattle.curves.specs.Slices.{ColumnFlagsView, bounds_view}
use Rattle.curves.proofs.TableLaws.{is_row}
use Rattle.curves.proofs.planned.PlannedTables.row_at.Goals as goal

pub returns-in_err-slope_grid : goal.returns-in_err-slope_grid
returns-in_err-slope_grid g c =
    let p = err_from_is_err_and c.from_residual-in_err-slope_grid.result c.from_residual-in_err-slope_grid.ensures.1 in
    rw p.1 tt

pub returns : goal.returns
returns g c =
    let j = job_value c.args.self.now.job.now in
    let program = trees_of c.args.self.now.potential.now.slope.energy in
    let pair = c.args.pair.now in
    let worst = c.in_ok-worst.worst in
    is_row j program c.args.self.now.plan.now c.args.i (bounds_view worst.energy.bound worst.slope.bound) pair.a pair.b c.query_of-query.result
    c.distance_at-distance.result c.energy_at-energy.result c.slope_at-slope.result _ _ _ pair.others.items (span_range worst.energy.range)
    (span_range worst.slope.range) c.query_of-query.ensures.value c.distance_at-distance.ensures.value c.energy_at-energy.ensures
    c.slope_at-slope.ensures c.requires.others c.in_ok-worst.ensures (ap (λ (f : ColumnFlagsView). f.energy) c.jumps.view_is ∙ c.in_ok-jumps.ensures.energy) (ap (λ (f : ColumnFlagsView). f.slope) c.jumps.view_is ∙ c.in_ok-jumps.ensures.slope)
    c.in_ok-slope_grid.ensures
