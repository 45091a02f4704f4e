-- The parts of a curve that are reported to a watcher before a failure.
use Rattle.std.specs.Prelude.{◌≡◌, ℕ, ◌+◌, ◌≤◌, ◌⊎◌}
use Rattle.fallible.specs.declared.failure.Failure.{Failure}
use Rattle.fallible.specs.declared.failure.Failure.TheVariants.{Refused, Memory}
use Rattle.job.specs.Values.{JobValue}
use Rattle.potential.specs.Energies.{energy_code_of, slope_code_of}
use Rattle.potential.specs.EnergyKernels.{HasNoEnergyKernel}
use Rattle.potential.specs.Progress.{IsPassedBefore, slices_of}
use Rattle.potential.specs.Verdicts.{HasNoSlopeKernel, IsSlopeKernel}
use Rattle.potential.specs.declared.faults.EnergyFault.{EnergyFault}
use Rattle.verifier.specs.Kernels.{Kernel}

-- the error of the energy itself, after all slices of the slope and those of the energy before the error
pub record FollowsSlope {A : Type 0} (j : JobValue) (f : EnergyFault A) (n : ℕ) : Type 0 where
  pub slope : Kernel
  pub is_slope : IsSlopeKernel j slope
  pub why : HasNoEnergyKernel j f
  pub more : ℕ
  pub after : IsPassedBefore j (energy_code_of j) (Refused f) more
  pub count : n ≡ slices_of j + more

-- the number n of parts that are reported before an error of the slope, or else of the energy itself
abbrev pub IsRefusedAfter : {A : Type 0} → JobValue → EnergyFault A → (n : ℕ) → Type 0
IsRefusedAfter j f n = (HasNoSlopeKernel j f × IsPassedBefore j (slope_code_of j) (Refused f) n) ⊎ FollowsSlope j f n

-- the number n of parts that are reported before a failure; if memory ran out, at most this many
abbrev pub IsStoppedAfter : {A : Type 0} → JobValue → (most : ℕ) → Failure (EnergyFault A) → (n : ℕ) → Type 0
IsStoppedAfter j most (Refused f) n = IsRefusedAfter j f n
IsStoppedAfter j most Memory n = n ≤ most
