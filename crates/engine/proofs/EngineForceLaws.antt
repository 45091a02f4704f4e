-- The totals and the forces of a course's current frame are the engine's, and the forces give the engine's next frame.
use Rattle.std.proofs.Common.{◌≡◌, ℤ, List, length, Some, ap, sym, ◌∙◌, option_map}
use Rattle.job.specs.declared.jobs.Job.{Job}
use Rattle.state.specs.StateViews.{state_view}
use Rattle.state.specs.declared.states.State.{State}
use Rattle.ring_box.specs.declared.vectors.Vector.{Vector}
use Rattle.integrator.specs.Frames.{Dynamics, Frame, Frames, frame_forces, moved_frame, next_frame}
use Rattle.integrator.specs.States.{current_frame, previous_frame}
use Rattle.integrator.specs.declared.systems.System.{System}
use Rattle.potential.specs.declared.slope_kernels.SlopeKernel.{SlopeKernel}
use Rattle.engine.specs.declared.courses.Course.{Course}
use Rattle.engine.specs.EngineEnergies.{IsEnergyOfEngine, engine_value}
use Rattle.engine.specs.EngineForces.{AreForcesOfEngine}
use Rattle.engine.specs.EngineViews.{IsEngine, engine_view}
use Rattle.engine.specs.Engines.{engine_dynamics}
use Rattle.engine.specs.Observers.{IsNextFrameOfEngine}
use Rattle.engine.proofs.EngineEnergyLaws.{engine_energy}
use Rattle.frame_sums.specs.FrameSums.{ArePairTotals, pair_sums_of}
use Rattle.frame_sums.specs.PairEnergies.{energy_of}
use Rattle.frame_sums.specs.Rounds.{AreForces, AreForcesOn, forces_from}
use Rattle.frame_sums.specs.SafeEnergies.{IsEnergyOf, safe_value}
use Rattle.frame_sums.specs.SafeSystems.{safe_dynamics}
use Rattle.observables.specs.declared.observations.PairTotals.{PairTotals}

module _ {A : Type 0} (j : Job A) (s : State A) (c : Course A) (h : IsEngine j s c) where
  current_is : c.frames.current.items ≡ current_frame (state_view s).atoms
  current_is = ap (λ (f : Frames). f.current) h.frames'

  previous_is : c.frames.previous.items ≡ previous_frame (state_view s).atoms
  previous_is = ap (λ (f : Frames). f.previous) h.frames'

  -- a part of the dynamics at the current frame
  at_current : {X : Type 0} (f : Dynamics → Frame → X) → f (safe_dynamics c.system.system) c.frames.current.items ≡ f (engine_dynamics (engine_view j s c.system.system)) (current_frame (state_view s).atoms)
  at_current f = ap (λ (d : Dynamics). f d c.frames.current.items) h.system.dynamics ∙ ap (f (engine_dynamics (engine_view j s c.system.system))) current_is

  pub seen_energy : (z : ℤ) → IsEnergyOf c.system.system c.frames.current.items z → IsEnergyOfEngine (engine_view j s c.system.system) z
  seen_energy z is =
      let e = engine_view j s c.system.system in
      sym (ap (energy_of (engine_dynamics e) (engine_value e)) current_is)
      ∙ engine_energy j s c.system.system c.frames.current.items z h.system is

  pub seen_totals : (totals : PairTotals)
      → ArePairTotals (safe_dynamics c.system.system) (safe_value c.system.system) c.frames.current.items totals
      → ArePairTotals (engine_dynamics (engine_view j s c.system.system)) (engine_value (engine_view j s c.system.system)) (current_frame (state_view s).atoms) totals
  seen_totals totals are = record {
    energy = seen_energy totals.energy are.energy;
    sums = are.sums ∙ at_current pair_sums_of;
  }

  pub seen_forces : (forces : List (Vector ℤ)) → AreForcesOn c.system.system c.frames.current.items forces → AreForcesOfEngine (engine_view j s c.system.system) forces
  seen_forces forces are = sym (at_current frame_forces) ∙ are

  pub seen_next : (next : Frame) → next_frame (safe_dynamics c.system.system) c.frames.previous.items c.frames.current.items ≡ Some next → IsNextFrameOfEngine (engine_view j s c.system.system) next
  seen_next next is = sym (ap (λ (p : Frame). next_frame (safe_dynamics c.system.system) p c.frames.current.items) previous_is ∙ at_current (λ d f. next_frame d (previous_frame (state_view s).atoms) f)) ∙ is

-- a frame moved by forces that are known is the next
pub next_by : {A : Type 0} (s : System (SlopeKernel A) A) (before middle next : Frame) (sums : List ℤ) → AreForces s middle sums
    → next ≡ moved_frame (safe_dynamics s) before middle (forces_from sums (length middle)) → next_frame (safe_dynamics s) before middle ≡ Some next
next_by s before middle next sums are made = ap (option_map (moved_frame (safe_dynamics s) before middle)) are.1 ∙ ap Some (sym made)

-- wherever system and frames are kept
pub next_moved : {A : Type 0} (y z : System (SlopeKernel A) A) (p q c d next : Frame) (sums : List ℤ) → z ≡ y → q ≡ p → d ≡ c → AreForces y c sums
    → next ≡ moved_frame (safe_dynamics z) q d (forces_from sums (length d)) → next_frame (safe_dynamics y) p c ≡ Some next
next_moved y z p q c d next sums same_system same_before same_middle are made =
    next_by y p c next sums are (rw (same_system, same_before, same_middle) at made)
