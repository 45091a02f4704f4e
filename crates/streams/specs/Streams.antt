-- Streams of states: texts of states, one after another, each shown by a text. A stream is shown as its states are,
-- each for itself, in their order.
use Rattle.std.specs.Prelude.{◌≡◌, ◌≢◌, ◌⊎◌, ◌≤◌, ◌<◌, ◌-◌, ◌^◌, ℕ, zero, suc, List, [], ◌++◌, None, IfSome, Err, Result, OnOk, IfErr}
use Rattle.engine.specs.Engines.{AreSafe, HasNoEngine, IsOfEnergy, IsOfState, OfTexts}
use Rattle.engine.specs.EngineEnergies.{HasNoEnergyOfTexts}
use Rattle.engine.specs.RunSpecification.{IsTextOf}
use Rattle.engine.specs.declared.faults.InputFault.{InputFault}
use Rattle.engine.specs.declared.faults.InputFault.TheVariants as input
use Rattle.fallible.specs.Out.{Appends, Output}
use Rattle.job.specs.JobFaults.{JobReadsAs}
use Rattle.job.specs.JobText.{IsJobText, limits}
use Rattle.job.specs.Values.{JobValue}
use Rattle.job.specs.Views as jobs
use Rattle.runs.specs.Visits.{BeganText, Showing}
use Rattle.state.specs.Sources.{Left}
use Rattle.state.specs.StateFaults.{ReadsAs}
use Rattle.state.specs.StateText.{StateView}
use Rattle.state.specs.declared.faults.StateFault.TheVariants.{Trailing}
use Rattle.streams.specs.declared.faults.StreamFault.{StreamFault}
use Rattle.streams.specs.declared.faults.StreamFault.TheVariants as stream

-- ---- states that were shown

-- The text with this number, from 0, shows the state of this text under the job. The verifier accepts the job's slope
-- code, and the force on each atom of the state fits 64 bits.
pub record IsShownOfText (Shows : Showing) (job state : List ℕ) (number : ℕ) (text : List ℕ) : Type 0 where
  pub said : JobValue
  pub job_text : IsJobText limits job said
  pub view : StateView
  pub state_text' : IsTextOf state view
  pub safe : AreSafe job state
  pub shown : Shows.texts said number view text

-- `front` is the texts of n states, one after another, and `text` is the texts that show them, in the same order.
abbrev pub AreShown : Showing → (job : List ℕ) → (n : ℕ) → (front text : List ℕ) → Type 0
AreShown Shows job zero front text = (front ≡ []) × (text ≡ [])
AreShown Shows job (suc n) front text = (earlier : List ℕ) × (state : List ℕ) × (before : List ℕ) × (last : List ℕ)
    × AreShown Shows job n earlier before × IsShownOfText Shows job state n last
    × (front ≡ earlier ++ state) × (text ≡ before ++ last)

-- ---- states that are accepted

-- the bytes are the texts of n states, one after another, and the job's slope code is accepted for each of them
abbrev pub AreAccepted : (job : List ℕ) → (n : ℕ) → (bytes : List ℕ) → Type 0
AreAccepted job zero bytes = bytes ≡ []
AreAccepted job (suc n) bytes = (state : List ℕ) × (rest : List ℕ) × (bytes ≡ state ++ rest)
    × AreSafe job state × AreAccepted job n rest

-- ---- the first state that wasn't shown

-- these bytes start with a state's text, of which the statement holds
abbrev pub OfFirst : List ℕ → (List ℕ → Type 0) → Type 0
OfFirst rest Holds = (state : List ℕ) × (more : List ℕ) × (rest ≡ state ++ more) × Holds state

-- Why the job and the first state of these bytes have no engine: the job's text is rejected; or the bytes start with no
-- state's text, and this is their first fault; or both have no engine.
abbrev pub HasNoEngineOfFirst : {A : Type 0} → (job rest : List ℕ) → InputFault A → Type 0
HasNoEngineOfFirst job rest (input.Job f) = JobReadsAs limits job (Err (jobs.refusal_of f))
HasNoEngineOfFirst job rest (input.State f) = (j : JobValue) × IsJobText limits job j × ReadsAs rest (Err f) × (f ≢ Trailing)
HasNoEngineOfFirst job rest f = OfFirst rest (λ state. OfTexts job state (λ j s. HasNoEngine j s f))

-- Why no state of these bytes can be shown: the job's text is rejected, or its slope code for the first state; or the
-- texts of the states have energies (`observes`), and the energy itself has no accepted code.
abbrev pub RejectsJob : {A : Type 0} → (observes : Type 0) → (job rest : List ℕ) → InputFault A → Type 0
RejectsJob observes job rest f = ((IsOfState f → ⊥) × HasNoEngineOfFirst job rest f)
    ⊎ IsOfEnergy (λ g. observes × OfFirst rest (λ state. HasNoEnergyOfTexts job state g)) f

-- ---- the contract

-- What an output has of a stream. The texts of its first `count` states, one after another, are `front`.
pub record StreamOutput : Type 1 where
  -- `text` was written of these states, and `differing` of them were found to differ from the run of the state before
  pub has : (count differing : ℕ) → (front text : List ℕ) → Type 0
  -- `text` is to be written of the next state, which can be run under the job
  pub next : (count : ℕ) → (front state text : List ℕ) → Type 0
  -- the texts have energies, which need accepted code of the energy itself
  pub observes : Type 0

-- what an output has of a stream whose states are shown, each for itself
abbrev pub shown_by : Showing → (job : List ℕ) → StreamOutput
shown_by Shows job = record {
  has = λ count differing front text. (differing ≡ 0) × AreShown Shows job count front text;
  next = λ count front state text. IsShownOfText Shows job state count text;
  observes = Shows.observes;
}

-- The stream is the texts of one or more states, none of which differs, and the output has what it should of them.
abbrev pub WritesStates : StreamOutput → (bytes : List ℕ) → (before after : Output) → Type 0
WritesStates o bytes before after = (n : ℕ) × (text : List ℕ) × o.has (suc n) 0 bytes text × Appends before after text

-- Why an output has no more than `between`, and its content: it has what it should of the first `count` states of a
-- stream, whose texts are `front`, and `differing` of them differ. The other bytes of the stream are `rest`. Only the
-- first state can be missing. `Differ` comes after the last state.
module _ {A : Type 0} (o : StreamOutput) (job : List ℕ) (left : Left) (count differing : ℕ) (front rest : List ℕ)
    (between after : Output) where
  abbrev pub Stops : StreamFault (InputFault A) → Type 0
  Stops (stream.Rejected f) = (count ≡ 0) × RejectsJob o.observes job rest f × (after ≡ between)
  Stops (stream.State number f) =
      (number ≡ suc count) × ((count ≡ 0) ⊎ (rest ≢ [])) × IsOfState f × HasNoEngineOfFirst job rest f × (after ≡ between)
  Stops (stream.Differ number) = (number ≡ differing) × (0 < number) × (0 < count) × (rest ≡ []) × (after ≡ between)
  Stops stream.CannotRead = ((left ≡ None) ⊎ (2 ^ 64 - 1 ≤ count)) × (after ≡ between)
  Stops (stream.Out f) = OfFirst rest (λ state. BeganText (o.next count front state) between after)
  Stops stream.Memory = after ≡ between

-- The bytes start with the texts of some states, of which the output has what it should, and this fault explains why it
-- has no more.
pub record Breaks {A : Type 0} (o : StreamOutput) (job : List ℕ) (left : Left) (bytes : List ℕ) (before after : Output)
    (f : StreamFault (InputFault A)) : Type 0 where
  pub count : ℕ
  pub differing : ℕ
  pub front : List ℕ
  pub rest : List ℕ
  pub text : List ℕ
  pub between : Output
  pub split : bytes ≡ front ++ rest
  pub has : o.has count differing front text
  pub appends : Appends before between text
  pub stops : Stops o job left count differing front rest between after f

-- a statement about the bytes that a source has left; about some bytes if they are unknown
abbrev pub OfLeft : Left → (List ℕ → Type 0) → Type 0
OfLeft left Holds = (bytes : List ℕ) × IfSome left (λ told. bytes ≡ told) × Holds bytes

-- The contract of writing what an output should have of a stream: of all its states, or of those before a fault.
pub record WritesStream {X A : Type 0} (o : StreamOutput) (job : List ℕ) (left : Left) (before after : Output)
    (result : Result X (StreamFault (InputFault A))) : Type 0 where
  pub written : OnOk result (OfLeft left (λ bytes. WritesStates o bytes before after))
  pub stopped : IfErr result (λ f. OfLeft left (λ bytes. Breaks o job left bytes before after f))
