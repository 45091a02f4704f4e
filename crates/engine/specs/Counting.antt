-- Facts about frames and counters that courses keep or need.
use Rattle.std.specs.Prelude.{◌≡◌, ◌≤◌, ℕ, ℤ, is_none, false}
use Rattle.integrator.specs.Frames.{Frame}
use Rattle.integrator.specs.States.{counter_after}
use Rattle.integrator.specs.declared.direction.Direction.{Direction}
use Rattle.integrator.specs.declared.direction.Direction.TheVariants.{Back, Forward}
use Rattle.integrator.specs.declared.systems.System.{System}
use Rattle.energy_program.specs.Programs.{program_tree}
use Rattle.potential.specs.EnergyKernels.{GivesEnergy, HasEnergies}
use Rattle.potential.specs.declared.slope_kernels.SlopeKernel.{SlopeKernel}
use Rattle.verifier.specs.Kernels.{Kernel}

-- of the previous and the current frame, the one whose forces a step in a direction needs
abbrev pub middle_of : Direction → Frame → Frame → Frame
middle_of Forward previous current = current
middle_of Back previous current = previous

-- the counter fits 64 bits after each of n steps
abbrev pub AllFit : Direction → ℤ → ℕ → Type 0
AllFit direction step n = (k : ℕ) → k ≤ n → is_none (counter_after direction step k) ≡ false

-- accepted code of the energy whose derivative moves the system's atoms, for their types and distances
pub record IsCodeOf {A : Type 0} (s : System (SlopeKernel A) A) (k : Kernel) : Type 0 where
  pub table : k.table ≡ s.kernel.verified.table
  pub core : k.core ≡ s.core
  pub cutoff : k.cutoff ≡ s.cutoff
  pub gives : GivesEnergy (program_tree s.kernel.energy) k
  pub has : HasEnergies (program_tree s.kernel.energy) k
