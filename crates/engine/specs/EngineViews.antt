-- An engine of the program as contracts see it.
use Rattle.std.specs.Prelude.{◌≡◌, ℕ, ◌-◌, ◌*◌, ◌^◌, ◌<◌, length, map, Ok}
use Rattle.std.specs.List.{All}
use Rattle.energy_program.specs.Programs.{program_tree, trees_of}
use Rattle.job.specs.Views.{job_value, type_value}
use Rattle.ring_box.specs.declared.boxes.RingBox.{RingBox}
use Rattle.job.specs.declared.jobs.Job.{Job}
use Rattle.state.specs.StateViews.{sides_view, state_view}
use Rattle.state.specs.declared.states.State.{State}
use Rattle.potential.specs.Energies.{job_program, job_tree}
use Rattle.engine.specs.Courses.{frames_in}
use Rattle.engine.specs.declared.courses.Course.{Course}
use Rattle.engine.specs.Engines.{EngineView, IsTyped}
use Rattle.frame_sums.specs.SafeSystems.{safe_dynamics}
use Rattle.integrator.specs.Starts.{as_written, mass_of, types_of}
use Rattle.integrator.specs.States.{frames_of}
use Rattle.potential.specs.Tables.{table_of}
use Rattle.potential.specs.Verdicts.{IsSlopeKernel}
use Rattle.potential.specs.declared.slope_kernels.SlopeKernel.{SlopeKernel}
use Rattle.integrator.specs.declared.atoms.TypedAtoms.{TypedAtoms}
use Rattle.integrator.specs.declared.systems.System.{System}
use Rattle.verifier.specs.Kernels.{Kernel}

-- the view of an engine with this job, state and system
abbrev pub engine_view : {A : Type 0} → Job A → State A → System (SlopeKernel A) A → EngineView
engine_view j s y = record { job = job_value j; types = y.types.items; state = state_view s }

-- the system is the job's, for this number of atoms in this box
pub record IsSystemFor {A : Type 0} (j : Job A) (ring : RingBox) (count : ℕ) (y : System (SlopeKernel A) A) : Type 0 where
  pub dynamics : safe_dynamics y ≡ as_written (job_value j) (sides_view ring) (job_tree (job_value j)) y.types.items
  pub energy : program_tree y.kernel.energy ≡ job_tree (job_value j)
  pub program : job_program (job_value j) ≡ Ok (trees_of y.kernel.energy)
  pub atoms : count ≡ length y.masses.items
  pub table : y.kernel.verified.table ≡ table_of (job_value j)
  pub parameters : y.kernel.energy.parameters ≡ length j.parameters.items
  pub globals : y.kernel.energy.globals ≡ length j.globals.items
  pub core : y.core ≡ j.core
  pub cutoff : y.cutoff ≡ j.cutoff
  pub slope : IsSlopeKernel (job_value j) y.kernel.verified

-- the system is the job's, for the atoms and the box of the state
abbrev pub IsSystemOf : {A : Type 0} → Job A → State A → System (SlopeKernel A) A → Type 0
IsSystemOf j s y = IsSystemFor j s.ring (length s.atoms.items) y

-- the types and masses of the state's atoms under the job; its accepted code is safe for them, in the state's box
pub record AreAtomsOf {A : Type 0} (j : Job A) (s : State A) (k : Kernel) (t : TypedAtoms A) : Type 0 where
  pub types' : types_of (job_value j) (state_view s) ≡ Ok t.types.items
  pub known : All (λ n. n < length j.types.items) t.types.items
  pub masses' : t.masses.items ≡ map (mass_of (map type_value j.types.items)) t.types.items
  pub count : length t.types.items ≡ length s.atoms.items
  pub fits : k.bound * (length s.atoms.items - 1) < 2 ^ 63

-- the course is one of the job's system, with the types of the state's atoms, and is at the frames and the counter of
-- the state
pub record IsEngine {A : Type 0} (j : Job A) (s : State A) (c : Course A) : Type 0 where
  pub system : IsSystemOf j s c.system.system
  pub typed : IsTyped (engine_view j s c.system.system)
  pub frames' : frames_in c ≡ frames_of (state_view s)
  pub step : c.step ≡ s.step
