-- Quantities of a state as texts: its energy, the forces on its atoms, or their velocities. A text of a stream has them
-- behind a line with the state's step.
use Rattle.std.specs.Prelude.{◌≡◌, ◌⊎◌, ℕ, ℤ, List, [], ◌∷◌, ◌++◌, codes}
use Rattle.std.specs.Fmt.{signed_decimal}
use Rattle.engine.specs.EngineEnergies.{HasNoEnergy, HasNoEnergyOfTexts, IsEnergyOfEngine}
use Rattle.engine.specs.EngineForces.{AreForcesOfEngine}
use Rattle.engine.specs.Engines.{EngineView, HasNoEngineOfTexts, IsEngineOfTexts, IsOfEnergy, IsTyped}
use Rattle.engine.specs.declared.faults.InputFault.{InputFault}
use Rattle.job.specs.Values.{JobValue}
use Rattle.line_text.specs.Parts.{ended}
use Rattle.potential.specs.declared.faults.EnergyFault.{EnergyFault}
use Rattle.ring_box.specs.declared.vectors.Vector.{Vector}
use Rattle.runs.specs.Visits.{Showing}
use Rattle.state.specs.ForceLines.{force_lines}
use Rattle.state.specs.StateText.{StateView, step_line}
use Rattle.state.specs.VelocityLines.{velocity_lines}
use Rattle.streams.specs.declared.quantities.Quantity.{Quantity}
use Rattle.streams.specs.declared.quantities.Quantity.TheVariants.{Energy, Forces, Velocities}

-- the line of an energy, in units of 2^-bits kJ/mol
abbrev pub energy_line : ℤ → List ℕ
energy_line energy = codes "energy " ++ signed_decimal energy ++ 10 ∷ []

-- The lines of a quantity of an engine's state: the line of its energy; or a line for each of its atoms, with the force on
-- the atom, which determines the next step, or with its velocity in the last time step of the job.
abbrev pub IsQuantity : Quantity → EngineView → (lines : List ℕ) → Type 0
IsQuantity Energy e lines = (energy : ℤ) × IsEnergyOfEngine e energy × (lines ≡ energy_line energy)
IsQuantity Forces e lines = (forces : List (Vector ℤ)) × AreForcesOfEngine e forces × (lines ≡ force_lines e.state.atoms forces)
IsQuantity Velocities e lines = lines ≡ velocity_lines e.job.time_step e.state.sides e.state.atoms

-- ---- the text of one state

-- why an engine has no such quantity: only its energy can be missing
abbrev pub LacksQuantity : {A : Type 0} → Quantity → EngineView → EnergyFault A → Type 0
LacksQuantity q e f = (q ≡ Energy) × HasNoEnergy e f

-- the text of a quantity of a state under a job was written
pub record IsQuantityText (q : Quantity) (job state : List ℕ) (Wrote : List ℕ → Type 0) : Type 0 where
  pub engine : EngineView
  pub opens : IsEngineOfTexts job state engine
  pub text : List ℕ
  pub is : IsQuantity q engine text
  pub written : Wrote text

-- why a state under a job has no such text: both have no engine, or the quantity is the energy, and the energy itself has
-- no accepted code
abbrev pub LacksQuantityText : {A : Type 0} → Quantity → (job state : List ℕ) → InputFault A → Type 0
LacksQuantityText q job state f =
    HasNoEngineOfTexts job state f ⊎ IsOfEnergy (λ g. (q ≡ Energy) × HasNoEnergyOfTexts job state g) f

-- ---- the text of a state of a stream

-- the lines have energies
abbrev pub HasEnergies : Quantity → Type 0
HasEnergies Energy = Unit {0}
HasEnergies Forces = ⊥
HasEnergies Velocities = ⊥

-- the engine of a state under a job, whose atoms have these types
abbrev pub engine_at : JobValue → StateView → (types : List ℕ) → EngineView
engine_at j s types = record { job = j; types = types; state = s }

-- the step of a state, and the lines of its quantity
pub record IsStepAndQuantity (q : Quantity) (j : JobValue) (number : ℕ) (s : StateView) (text : List ℕ) : Type 0 where
  pub types : List ℕ
  pub typed : IsTyped (engine_at j s types)
  pub lines : List ℕ
  pub are : IsQuantity q (engine_at j s types) lines
  pub text' : text ≡ ended (step_line s.step) ++ lines

-- each state is shown by its step and a quantity, which needs memory, and for energies accepted code of the energy itself
abbrev pub ShowsQuantity : Quantity → Showing
ShowsQuantity q = record { texts = IsStepAndQuantity q; allocates = Unit {0}; observes = HasEnergies q }
