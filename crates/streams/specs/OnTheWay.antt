-- Streams on their way: an engine at the state of a text, and a text that gives no engine.
use Rattle.std.specs.Prelude.{◌≡◌, ℕ, List, Err}
use Rattle.engine.specs.Engines.{EngineView, HasNoEngine, IsEngineOf, IsOfState}
use Rattle.engine.specs.RunSpecification.{IsTextOf}
use Rattle.engine.specs.declared.faults.InputFault.{InputFault}
use Rattle.engine.specs.declared.faults.InputFault.TheVariants as input
use Rattle.job.specs.Values.{JobValue}
use Rattle.state.specs.StateFaults.{ReadsAs}
use Rattle.state.specs.StateText.{StateView}
use Rattle.streams.specs.declared.faults.StreamFault.{StreamFault}
use Rattle.streams.specs.declared.faults.StreamFault.TheVariants as stream

-- an engine of a job and of the state of this text
pub record IsAt (j : JobValue) (text : List ℕ) (e : EngineView) : Type 0 where
  pub s : StateView
  pub state_text' : IsTextOf text s
  pub is : IsEngineOf j s e

-- a statement about the state of a text
pub record OfState (text : List ℕ) (holds : StateView → Type 0) : Type 0 where
  pub s : StateView
  pub state_text' : IsTextOf text s
  pub it : holds s

-- why the text with this number, from 1, has no engine under the job: it is no state's, or its state can't be run
abbrev pub HasNoState : {A : Type 0} → JobValue → (text : List ℕ) → (number : ℕ) → StreamFault (InputFault A) → Type 0
HasNoState j text number (stream.State n (input.State f)) = (n ≡ number) × ReadsAs text (Err f)
HasNoState j text number (stream.State n f) = (n ≡ number) × IsOfState f × OfState text (λ s. HasNoEngine j s f)
HasNoState j text number stream.Memory = Unit {0}
HasNoState j text number _ = ⊥
