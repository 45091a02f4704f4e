-- Observers that are kept for an engine, if the texts of its states have energies.
use Rattle.std.specs.Prelude.{◌≡◌, Option, Some}
use Rattle.engine.specs.Engines.{EngineView}
use Rattle.engine.specs.Observers.{IsObserverOf}
use Rattle.verifier.specs.Kernels.{Kernel}

-- an observer is kept that belongs to the engine
pub record IsKept (kept : Option Kernel) (e : EngineView) : Type 0 where
  pub observer : Kernel
  pub is : kept ≡ Some observer
  pub observes : IsObserverOf e observer

-- the states of an engine can be shown: an observer is kept if the texts have energies (`observes`)
pub record IsReady (observes : Type 0) (kept : Option Kernel) (e : EngineView) : Type 0 where
  pub keeps : observes → IsKept kept e
