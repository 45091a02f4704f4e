-- The program of a job's slope, and the change of the slope over the grid's spacing.
use Rattle.std.proofs.Common.{◌≡◌, ◌∙◌, ℕ, ℤ, true, List, Option, Result, Ok, IfOk, sym}
use Rattle.std.proofs.lemmas.Result.{IfOk-weaker}
use Rattle.curve_lines.specs.Rows.{has_grid}
use Rattle.curve_lines.specs.declared.columns.CurveColumns.{CurveColumns}
use Rattle.derivative.specs.Derive.{slope_program}
use Rattle.energy_program.specs.Programs.{Trees}
use Rattle.fixed.specs.Fractions.{bits_of}
use Rattle.fixed.specs.declared.constants.Constant.{Constant}
use Rattle.formula_bounds.specs.Nodes.{FormulaView, formula_of}
use Rattle.job.specs.Values.{JobValue}
use Rattle.line_text.proofs.StepLaws.{bind_ok}
use Rattle.potential.specs.Energies.{energy_from, job_program}
use Rattle.potential.specs.Verdicts.{IsSlopeKernel}
use Rattle.potential.proofs.EnergyLaws.{energy_by}
use Rattle.verifier.specs.Kernels.{Kernel}
use Rattle.curves.specs.Grids.{grid_at}
use Rattle.curves.specs.Potentials.{IsDerived}
use Rattle.curves.specs.Tables.{IsGridOf}

-- if the code of a job's slope is accepted, the slope has a program
pub slope_made : (j : JobValue) (program : Trees) (k : Kernel) → job_program j ≡ Ok program → IsSlopeKernel j k
    → (slope : Trees) × (slope_program (bits_of j.frac) program ≡ Ok slope)
unfolding energy_from
slope_made j program k its is =
    let made = bind_ok (slope_program (bits_of j.frac) program) _ is.energy (sym (energy_by j program its) ∙ is.made) in
    (made.0, made.1)

-- the change of the slope, if the columns have the grid
pub grid_is : {E : Type 0} (r : Result (Option ℕ) E) (j : JobValue) (program : Trees) (columns : CurveColumns) (others : List Constant)
    (distance : ℤ) (f : FormulaView) → IsDerived (bits_of j.frac) program f → has_grid columns ≡ true
    → ((slope : Trees) → f ≡ formula_of slope → IfOk r (λ g. g ≡ grid_at (bits_of j.frac) slope others distance))
    → IfOk r (IsGridOf j program columns others distance)
grid_is r j program columns others distance f (slope, made, is) there at =
    IfOk-weaker r _ _ (λ g h. (slope, made, rw there h)) (at slope is)
