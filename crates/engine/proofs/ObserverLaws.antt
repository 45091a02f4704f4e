-- Observers of an engine: accepted code of its energy is accepted code of its system, also after any steps and
-- for any other state under the job.
use Rattle.std.proofs.Common.{◌≡◌, subst, sym, ◌∙◌}
use Rattle.energy_program.specs.Programs.{program_tree}
use Rattle.job.specs.Views.{job_value}
use Rattle.job.specs.declared.jobs.Job.{Job}
use Rattle.state.specs.declared.states.State.{State}
use Rattle.verifier.specs.Kernels.{Kernel}
use Rattle.integrator.specs.States.{moved_state}
use Rattle.integrator.specs.declared.systems.System.{System}
use Rattle.potential.specs.EnergyKernels.{GivesEnergy, HasEnergies, IsEnergyKernel}
use Rattle.potential.specs.Verdicts.{IsUnder}
use Rattle.potential.specs.declared.slope_kernels.SlopeKernel.{SlopeKernel}
use Rattle.engine.specs.Counting.{IsCodeOf}
use Rattle.engine.specs.EngineViews.{IsSystemOf, engine_view}
use Rattle.engine.specs.Engines.{EngineView}
use Rattle.engine.specs.Observers.{IsObserverOf, ObserversGoOn}

module _ {A : Type 0} (j : Job A) (s : State A) (y : System (SlopeKernel A) A) (h : IsSystemOf j s y) (k : Kernel) where
  -- An observer's code is code of the system.
  pub code_of_observer : IsObserverOf (engine_view j s y) k → IsCodeOf y k
  code_of_observer is = record {
    table = is.under.table ∙ sym h.table;
    core = is.under.core ∙ sym h.core;
    cutoff = is.under.cutoff ∙ sym h.cutoff;
    gives = rw h.energy is.gives;
    has = rw h.energy is.has;
  }

  -- accepted code of the system's energy is an observer of the engine
  pub observer_made : IsEnergyKernel (job_value j) k → IsUnder (job_value j) k → GivesEnergy (program_tree y.kernel.energy) k
      → HasEnergies (program_tree y.kernel.energy) k → IsObserverOf (engine_view j s y) k
  observer_made kernel under gives has = record {
    kernel = kernel;
    under = under;
    gives = rw h.energy at gives;
    has = rw h.energy at has;
  }

-- an observer of an engine is one wherever the engine's steps lead
pub observer_goes_on : ObserversGoOn
observer_goes_on w n before after k went is =
    let there = record before { state = moved_state before.state went.frames' went.counter } in
    let stays : IsObserverOf there k = record { kernel = is.kernel; under = is.under; gives = is.gives; has = is.has } in
    subst (λ (e : EngineView). IsObserverOf e k) (sym went.moved) stays

-- an observer of an engine is one for any other state under the same job
pub observer_goes_to : (e f : EngineView) (k : Kernel) → f.job ≡ e.job → IsObserverOf e k → IsObserverOf f k
observer_goes_to e f k same is = record {
  kernel = rw same is.kernel;
  under = rw same is.under;
  gives = rw same is.gives;
  has = rw same is.has;
}
