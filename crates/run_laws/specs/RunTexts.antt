-- Runs from texts to texts: their invariants, their reversal, and the remaining errors.
use Rattle.std.specs.Prelude.{◌≡◌, ℕ, List, Ok}
use Rattle.fallible.specs.Out.{Output}
use Rattle.job.specs.JobText.{IsJobText, limits}
use Rattle.job.specs.Values.{JobValue}
use Rattle.potential.specs.Energies.{Energy, energy_of}
use Rattle.integrator.specs.Frames.{opposite}
use Rattle.integrator.specs.declared.direction.Direction.{Direction}
use Rattle.engine.specs.Engines.{AreSafe}
use Rattle.engine.specs.RunSpecification.{IsLevesqueVerletRun}
use Rattle.engine.specs.declared.faults.InputFault.{InputFault}
use Rattle.runs.specs.Unwritten.{IsRunUnwritten, IsResourceFault}
use Rattle.runs.specs.declared.faults.RunFault.{RunFault}
use Rattle.run_laws.specs.Runs.{IsRun}
use Rattle.run_laws.specs.Starts.{plain}

-- The state that a run writes is safe under its job if the starting state is: the code is certified for further steps
-- in both directions.
abbrev pub RunsStaySafe : Type 0
RunsStaySafe = (job state : List ℕ) (direction : Direction) (n : ℕ) (text : List ℕ)
    → IsLevesqueVerletRun job state direction n text → AreSafe job state → AreSafe job text

-- The run specification holds for the text that a run of the model writes, and for no other text, whether or not the
-- verifier accepts the code.
abbrev pub RunsAreTold : Type 0
RunsAreTold = (job state : List ℕ) (direction : Direction) (n : ℕ) (text : List ℕ) → IsRun plain job state direction n text
    → IsLevesqueVerletRun job state direction n text × ((other : List ℕ) → IsLevesqueVerletRun job state direction n other → other ≡ text)

-- A run of the model writes every text for which the run specification holds, if the derivative of the job's energy has
-- a program and code. A derivative that is too large has none.
abbrev pub ToldAreRun : Type 0
ToldAreRun = (job state : List ℕ) (direction : Direction) (n : ℕ) (text : List ℕ) (j : JobValue) (energy : Energy)
    → IsJobText limits job j → energy_of j ≡ Ok energy
    → IsLevesqueVerletRun job state direction n text → IsRun plain job state direction n text

-- The run specification is reversible: if n steps lead to a text, n steps in the other direction from that text lead to
-- the starting text.
abbrev pub ToldReturn : Type 0
ToldReturn = (job state : List ℕ) (direction : Direction) (n : ℕ) (text : List ℕ)
    → IsLevesqueVerletRun job state direction n text → IsLevesqueVerletRun job text (opposite direction) n state

-- The model is reversible in the same sense.
abbrev pub RunsReturn : Type 0
RunsReturn = (job state : List ℕ) (direction : Direction) (n : ℕ) (text : List ℕ)
    → IsRun plain job state direction n text → IsRun plain job text (opposite direction) n state

-- If accepted texts (`AreSafe`) have a run, a run that isn't written ran out of memory, or its output failed.
abbrev pub ToldAreAccepted : Type 0 → Type 0
ToldAreAccepted A =
    (job state : List ℕ) (direction : Direction) (n : ℕ) (text : List ℕ) (before after : Output)
    → IsLevesqueVerletRun job state direction n text → AreSafe job state
    → (fault : RunFault (InputFault A)) → IsRunUnwritten job state direction n before after fault → IsResourceFault fault

-- The reverse run from the written text also fails only if memory ran out or its output failed.
abbrev pub WaysBackAreAccepted : Type 0 → Type 0
WaysBackAreAccepted A =
    (job state : List ℕ) (direction : Direction) (n : ℕ) (text : List ℕ) (before after : Output)
    → IsLevesqueVerletRun job state direction n text → AreSafe job state
    → (fault : RunFault (InputFault A)) → IsRunUnwritten job text (opposite direction) n before after fault → IsResourceFault fault
