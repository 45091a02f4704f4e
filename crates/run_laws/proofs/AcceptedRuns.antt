-- If texts have a run and their code is accepted, the run is written unless memory runs out or the output fails.
use Rattle.std.proofs.Common.{ℕ, List}
use Rattle.fallible.specs.Out.{Output}
use Rattle.integrator.specs.Frames.{opposite}
use Rattle.integrator.specs.declared.direction.Direction.{Direction}
use Rattle.engine.specs.Engines.{AreSafe}
use Rattle.engine.specs.RunSpecification.{IsLevesqueVerletRun}
use Rattle.engine.proofs.SpecifiedRuns.{leads_back}
use Rattle.engine.proofs.SafeRuns.{runs_stay_safe}
use Rattle.engine.specs.declared.faults.InputFault.{InputFault}
use Rattle.runs.specs.Unwritten.{IsRunUnwritten, IsResourceFault}
use Rattle.runs.specs.declared.faults.RunFault.{RunFault}
use Rattle.runs.proofs.RunLaws.{run_wants}

-- if a run's code is accepted, the reverse run of its text is written unless memory runs out or the output fails
pub ways_back_are_accepted : {A : Type 0} (job state : List ℕ) (w : Direction) (n : ℕ) (text : List ℕ) (before after : Output) → IsLevesqueVerletRun job state w n text → AreSafe job state
    → (fault : RunFault (InputFault A)) → IsRunUnwritten job text (opposite w) n before after fault → IsResourceFault fault
ways_back_are_accepted job state w n text before after r safe =
    run_wants job text (opposite w) n state before after (leads_back job state w n text r) (runs_stay_safe job state w n text r safe)
