-- The energy of the current frame of an engine.
use Rattle.std.specs.Prelude.{◌≡◌, ℕ, ℤ, List, Option, Some}
use Rattle.fixed.specs.Fractions.{bits_of}
use Rattle.energy_program.specs.Value.{value_of}
use Rattle.potential.specs.Energies.{job_tree}
use Rattle.potential.specs.EnergyKernels.{HasNoEnergyKernel, IsEnergyKernel}
use Rattle.potential.specs.declared.faults.EnergyFault.{EnergyFault}
use Rattle.verifier.specs.Kernels.{Kernel}
use Rattle.integrator.specs.Starts.{pair_inputs}
use Rattle.integrator.specs.States.{current_frame}
use Rattle.frame_sums.specs.PairEnergies.{energy_of}
use Rattle.engine.specs.Engines.{EngineView, engine_dynamics, IsEngineOfTexts}

-- the energy of two of the engine's atoms at a distance
abbrev pub engine_value : EngineView → ℕ × ℕ → ℤ → Option ℤ
engine_value e p r = value_of (bits_of e.job.frac) (pair_inputs e.job e.types p r) (job_tree e.job)

-- the energy of the engine's current frame, in 2^-bits kJ/mol
abbrev pub IsEnergyOfEngine : EngineView → ℤ → Type 0
IsEnergyOfEngine e z = energy_of (engine_dynamics e) (engine_value e) (current_frame e.state.atoms) ≡ Some z

-- the code compiled of the energy is accepted under the engine's job, its slices included
abbrev pub HasAcceptedEnergy : EngineView → Type 0
HasAcceptedEnergy e = (k : Kernel) × IsEnergyKernel e.job k

-- why the engine has no energy: the code would be too large, or the verifier rejects it
abbrev pub HasNoEnergy : {A : Type 0} → EngineView → EnergyFault A → Type 0
HasNoEnergy e f = HasNoEnergyKernel e.job f

-- ---- from bytes

-- why the engine of these texts has no energy
pub record HasNoEnergyOfTexts {A : Type 0} (job state : List ℕ) (f : EnergyFault A) : Type 0 where
  pub engine : EngineView
  pub opens : IsEngineOfTexts job state engine
  pub why : HasNoEnergy engine f
