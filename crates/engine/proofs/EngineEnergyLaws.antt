-- The energy of an engine is its system's energy.
use Rattle.std.proofs.Common.{◌≡◌, ℕ, ℤ, Some, ap, sym, ◌∙◌, slice_index}
use Rattle.fixed.specs.Fractions.{bits_of}
use Rattle.energy_program.specs.Programs.{program_tree}
use Rattle.energy_program.specs.Tree as trees
use Rattle.energy_program.specs.Value.{value_of}
use Rattle.job.specs.Views.{job_value}
use Rattle.job.specs.declared.jobs.Job.{Job}
use Rattle.kernel_code.specs.Tables.{Table, inputs_of}
use Rattle.state.specs.declared.states.State.{State}
use Rattle.engine.specs.Engines.{engine_dynamics}
use Rattle.engine.specs.EngineViews.{IsSystemOf, engine_view}
use Rattle.integrator.specs.Frames.{Frame}
use Rattle.frame_sums.specs.PairEnergies.{energy_of}
use Rattle.engine.specs.EngineEnergies.{engine_value}
use Rattle.frame_sums.specs.SafeEnergies.{safe_value}
use Rattle.frame_sums.specs.SafeSystems.{safe_dynamics}
use Rattle.potential.specs.Tables.{table_of}
use Rattle.potential.specs.declared.slope_kernels.SlopeKernel.{SlopeKernel}
use Rattle.integrator.specs.declared.systems.System.{System}

-- a sum of the system's is the engine's
pub engine_energy : {A : Type 0} (j : Job A) (s : State A) (y : System (SlopeKernel A) A) (frame : Frame) (z : ℤ) → IsSystemOf j s y
    → energy_of (safe_dynamics y) (safe_value y) frame ≡ Some z
    → energy_of (engine_dynamics (engine_view j s y)) (engine_value (engine_view j s y)) frame ≡ Some z
engine_energy j s y frame z h e =
    let worth = λ (t : Table) (tree : trees.Tree) (p : ℕ × ℕ) (r : ℤ). value_of (bits_of t.frac) (inputs_of t (slice_index y.types.items p.0) (slice_index y.types.items p.1) r) tree in
    let value : safe_value y ≡ engine_value (engine_view j s y) = ap (λ t. worth t (program_tree y.kernel.energy)) h.table ∙ ap (worth (table_of (job_value j))) h.energy in
    sym (ap (λ d. energy_of d (engine_value (engine_view j s y)) frame) h.dynamics)
    ∙ sym (ap (λ v. energy_of (safe_dynamics y) v frame) value)
    ∙ e
