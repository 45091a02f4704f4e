-- Observers of an engine: accepted code of its energy, which is kept from one observation to the next, and the frame
-- after the current one.
use Rattle.std.specs.Prelude.{◌≡◌, ℕ, Some}
use Rattle.verifier.specs.Kernels.{Kernel}
use Rattle.integrator.specs.Frames.{Frame, next_frame}
use Rattle.integrator.specs.States.{current_frame, previous_frame}
use Rattle.integrator.specs.declared.direction.Direction.{Direction}
use Rattle.potential.specs.Energies.{job_tree}
use Rattle.potential.specs.EnergyKernels.{GivesEnergy, HasEnergies, IsEnergyKernel}
use Rattle.potential.specs.Verdicts.{IsUnder}
use Rattle.engine.specs.Engines.{EngineView, Advanced, engine_dynamics}

-- ---- observers

-- the code compiled of the energy of the engine's job, accepted under the job, its slices included
pub record IsObserverOf (e : EngineView) (k : Kernel) : Type 0 where
  pub kernel : IsEnergyKernel e.job k
  pub under : IsUnder e.job k
  pub gives : GivesEnergy (job_tree e.job) k
  pub has : HasEnergies (job_tree e.job) k

-- an observer of an engine is one after any steps of the engine
abbrev pub ObserversGoOn : Type 0
ObserversGoOn = (direction : Direction) (n : ℕ) (before after : EngineView) (k : Kernel)
    → Advanced direction n before after → IsObserverOf before k → IsObserverOf after k

-- ---- the next frame

-- the frame after the engine's current one
abbrev pub IsNextFrameOfEngine : EngineView → Frame → Type 0
IsNextFrameOfEngine e frame =
    next_frame (engine_dynamics e) (previous_frame e.state.atoms) (current_frame e.state.atoms) ≡ Some frame
