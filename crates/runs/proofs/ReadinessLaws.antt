-- Kept observers, which stay ready for an engine after any of its steps, and for other states under its job.
use Rattle.std.proofs.Common.{◌≡◌, ℕ, Option, Some, is_some, true, refl, sym, subst, ◌∙◌}
use Rattle.std.proofs.lemmas.Option.{same_Some}
use Rattle.integrator.specs.declared.direction.Direction.{Direction}
use Rattle.engine.proofs.ObserverLaws.{observer_goes_on, observer_goes_to}
use Rattle.engine.specs.Engines.{EngineView, Advanced}
use Rattle.engine.specs.Observers.{IsObserverOf}
use Rattle.verifier.specs.Kernels.{Kernel}
use Rattle.runs.specs.Observations.{HasEnergy}
use Rattle.runs.specs.Readiness.{IsReady}

module _ (observes : Type 0) (kept : Option Kernel) where
  -- if the texts have energies, there is an observer
  pub ready_some : (e : EngineView) → IsReady observes kept e → observes → is_some kept ≡ true
  ready_some e ready has = rw (ready.keeps has).is refl

  -- which belongs to the engine
  pub ready_observes : (e : EngineView) (o : Kernel) → IsReady observes kept e → observes → kept ≡ Some o → IsObserverOf e o
  ready_observes e o ready has is =
      let keeps = ready.keeps has in
      subst (IsObserverOf e) (same_Some keeps.observer o (sym keeps.is ∙ is)) keeps.observes

  -- so the engine has an energy
  pub ready_energy : (e : EngineView) → IsReady observes kept e → observes → HasEnergy e
  ready_energy e ready has = let keeps = ready.keeps has in (keeps.observer, keeps.observes)

  -- the states after more steps can be shown
  pub ready_on : (direction : Direction) (steps : ℕ) (e f : EngineView) → Advanced direction steps e f → IsReady observes kept e
      → IsReady observes kept f
  ready_on direction steps e f went ready = record {
    keeps = λ has.
        let keeps = ready.keeps has in
        record { observer = keeps.observer; is = keeps.is; observes = observer_goes_on direction steps e f keeps.observer went keeps.observes };
  }

  -- any other state under the same job can be shown
  pub ready_to : (e f : EngineView) → f.job ≡ e.job → IsReady observes kept e → IsReady observes kept f
  ready_to e f same ready = record {
    keeps = λ has.
        let keeps = ready.keeps has in
        record { observer = keeps.observer; is = keeps.is; observes = observer_goes_to e f keeps.observer same keeps.observes };
  }
