-- The forces on the atoms of an engine, which determine its next step.
use Rattle.std.specs.Prelude.{◌≡◌, ℤ, List, Some}
use Rattle.ring_box.specs.declared.vectors.Vector.{Vector}
use Rattle.integrator.specs.Frames.{frame_forces}
use Rattle.integrator.specs.States.{current_frame}
use Rattle.engine.specs.Engines.{EngineView, engine_dynamics}

-- the force on each atom of the engine's current frame, in 2^-bits kJ/mol/nm
abbrev pub AreForcesOfEngine : EngineView → List (Vector ℤ) → Type 0
AreForcesOfEngine e forces = frame_forces (engine_dynamics e) (current_frame e.state.atoms) ≡ Some forces
