-- Observations: the observed values of a state under a job, and their text in a table. The next frame is the one that
-- follows in time, also if the run goes back.
use Rattle.std.specs.Prelude.{◌≡◌, ℕ, zero, suc, List, length, ◌++◌}
use Rattle.job.specs.Values.{JobValue}
use Rattle.state.specs.StateText.{StateView}
use Rattle.integrator.specs.Frames.{Frame}
use Rattle.integrator.specs.Starts.{ring_of}
use Rattle.integrator.specs.States.{current_frame, previous_frame}
use Rattle.engine.specs.Engines.{EngineView, IsTyped, engine_dynamics}
use Rattle.frame_sums.specs.FrameSums.{ArePairTotals}
use Rattle.engine.specs.Observers.{IsNextFrameOfEngine, IsObserverOf}
use Rattle.engine.specs.EngineEnergies.{engine_value}
use Rattle.verifier.specs.Kernels.{Kernel}
use Rattle.observables.specs.Columns.{head_by, row_by}
use Rattle.observables.specs.Sums.{moments_between, products_about, squares_about}
use Rattle.observables.specs.declared.columns.Columns.{Columns}
use Rattle.observables.specs.declared.observations.Observation.{Observation}
use Rattle.observables.specs.declared.scales.Scales.{Scales}
use Rattle.runs.specs.Visits.{Showing}

-- ---- of an engine

-- the units of the observed integers: fraction bits, time step, box and number of atoms
pub record AreScalesOf (e : EngineView) (s : Scales) : Type 0 where
  pub frac : s.frac ≡ e.job.frac
  pub time_step : s.time_step ≡ e.job.time_step
  pub ring : s.ring ≡ ring_of e.state.sides
  pub atoms : s.atoms ≡ length e.state.atoms

-- The observed values of an engine's state: the totals over the pairs of the current frame, with the forces of the next
-- step; the squares and products of displacements from the previous frame to the current one, and from there to the next
-- frame of the model; and the momentum from the previous frame to the current one.
pub record IsObservationOf (e : EngineView) (o : Observation) : Type 0 where
  pub step : o.step ≡ e.state.step
  pub pairs : ArePairTotals (engine_dynamics e) (engine_value e) (current_frame e.state.atoms) o.pairs
  pub next : Frame
  pub follows : IsNextFrameOfEngine e next
  pub squares : o.squares ≡ squares_about (engine_dynamics e).masses (previous_frame e.state.atoms) (current_frame e.state.atoms) next
  pub products : o.products ≡ products_about (engine_dynamics e).masses (previous_frame e.state.atoms) (current_frame e.state.atoms) next
  pub momentum : o.momentum ≡ moments_between (engine_dynamics e).masses (previous_frame e.state.atoms) (current_frame e.state.atoms)

-- an engine has an observer: the code of the energy itself is accepted, and any two types have an energy at each
-- distance at which atoms interact
abbrev pub HasEnergy : EngineView → Type 0
HasEnergy e = (kernel : Kernel) × IsObserverOf e kernel

-- ---- of a state under a job

-- the observed values of a state under a job, with their units
pub record AreObserved (j : JobValue) (s : StateView) (scales : Scales) (o : Observation) : Type 0 where
  pub types : List ℕ
  pub typed : IsTyped (record { job = j; types = types; state = s })
  pub counts : AreScalesOf (record { job = j; types = types; state = s }) scales
  pub observed : IsObservationOf (record { job = j; types = types; state = s }) o

-- ---- a table

-- the first table row has the head line before it
abbrev pub headed : ℕ → (head row : List ℕ) → List ℕ
headed zero head row = head ++ row
headed (suc number) head row = row

-- the text of a state in the table
pub record IsTableText (columns : Columns) (j : JobValue) (number : ℕ) (s : StateView) (text : List ℕ) : Type 0 where
  pub scales : Scales
  pub observation : Observation
  pub are : AreObserved j s scales observation
  pub is : text ≡ headed number (head_by columns) (row_by columns scales observation)

-- a state is shown by its text in the table, which needs memory and accepted code of the energy itself
abbrev pub ShowsTable : Columns → Showing
ShowsTable columns = record { texts = IsTableText columns; allocates = Unit {0}; observes = Unit {0} }
