-- A job's potential: its accepted codes, its formula, and the formula of its slope.
use Rattle.std.specs.Prelude.{◌≡◌, ℕ, Ok}
use Rattle.derivative.specs.Derive.{slope_program}
use Rattle.energy_program.specs.Programs.{Trees, program_tree, trees_of}
use Rattle.fixed.specs.Fractions.{bits_of}
use Rattle.formula_bounds.specs.Nodes.{FormulaView, formula_of}
use Rattle.job.specs.Values.{JobValue}
use Rattle.potential.specs.Energies.{job_program}
use Rattle.potential.specs.EnergyKernels.{GivesEnergy, IsEnergyKernel}
use Rattle.potential.specs.Verdicts.{IsSlopeKernel, IsUnder}
use Rattle.curves.specs.declared.potentials.Potential.{Potential}

-- the formula of the derivative of a program
abbrev pub IsDerived : (bits : ℕ) → Trees → FormulaView → Type 0
IsDerived bits program f = (slope : Trees) × (slope_program bits program ≡ Ok slope) × (f ≡ formula_of slope)

-- The potential is the job's: the code of its slope and of its energy are accepted, and the formulas are those of its
-- program and of its derivative.
pub record IsPotentialOf {A : Type 0} (j : JobValue) (p : Potential A) : Type 0 where
  pub program : job_program j ≡ Ok (trees_of p.slope.energy)
  pub slope : IsSlopeKernel j p.slope.verified
  pub energy : IsEnergyKernel j p.energy
  pub slope_under : IsUnder j p.slope.verified
  pub energy_under : IsUnder j p.energy
  pub gives : GivesEnergy (program_tree p.slope.energy) p.energy
  pub formula : p.formula ≡ formula_of (trees_of p.slope.energy)
  pub derived : IsDerived (bits_of j.frac) (trees_of p.slope.energy) p.derived
