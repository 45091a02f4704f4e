-- The texts of a job and a state have a start or a refusal.
use Rattle.std.proofs.Common.{ℕ, List, Result, Ok, Err, refl}
use Rattle.job.specs.Faults as job
use Rattle.job.specs.JobFaults.{JobReadsAs}
use Rattle.job.specs.JobText.{IsJobText, limits}
use Rattle.job.specs.Values.{JobValue}
use Rattle.job.proofs.SomeResult.{job_reads_always}
use Rattle.state.specs.StateFaults.{ReadsAs}
use Rattle.state.specs.StateText.{StateView}
use Rattle.state.specs.declared.faults.StateFault.{StateFault}
use Rattle.state.proofs.SomeResult.{reads_always}
use Rattle.integrator.specs.declared.direction.Direction.{Direction}
use Rattle.run_laws.specs.Starts.{Law, Start, StartRefusal, StartsAlways, StartsAs, job_refused, start_with, state_refused}
use Rattle.run_laws.proofs.RunLaws.{are_read, no_job, no_state}

module _ (law : Law) (text state : List ℕ) (direction : Direction) (steps : ℕ) where
  with_state : (j : JobValue) → IsJobText limits text j → (r : Result StateView StateFault) × ReadsAs state r → (r : Result Start StartRefusal) × StartsAs law text state direction steps r
  with_state j is (Ok s, h) = (start_with law direction steps j s, are_read law text state direction steps j s (start_with law direction steps j s) is h refl)
  with_state j is (Err f, h) = (Err (state_refused f), no_state law text state direction steps j f is h)

  with_job : (r : Result JobValue job.Refusal) × JobReadsAs limits text r → (r : Result Start StartRefusal) × StartsAs law text state direction steps r
  with_job (Ok j, h) = with_state j h (reads_always state)
  with_job (Err f, h) = (Err (job_refused f), no_job law text state direction steps f h)

-- each pair of texts has a start or a refusal
pub starts_always : StartsAlways
starts_always law text state direction steps = with_job law text state direction steps (job_reads_always limits text)
