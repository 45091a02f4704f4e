use Rattle.std.proofs.Common.{◌≡◌, ℕ, List, Result, Ok, Err, IfErr, IfOk}
use Rattle.fallible.specs.Failures.{Gives, IfRefused, refused_as}
use Rattle.fallible.specs.declared.failure.Failure.{Failure}
use Rattle.fallible.specs.declared.failure.Failure.TheVariants.{Memory, Refused}
use Rattle.integrator.specs.declared.direction.Direction.{Direction}
use Rattle.job.specs.JobFaults.{JobReadsAs}
use Rattle.job.specs.JobText.{IsJobText, limits}
use Rattle.job.specs.Values.{JobValue}
use Rattle.job.specs.Views as jobs
use Rattle.job.specs.declared.faults.JobFault.{JobFault}
use Rattle.state.specs.StateFaults.{ReadsAs}
use Rattle.state.specs.StateText.{StateView}
use Rattle.state.specs.StateViews.{state_view}
use Rattle.state.specs.declared.faults.StateFault.{StateFault}
use Rattle.run_laws.specs.Refusals.{start_refusal}
use Rattle.run_laws.specs.Starts.{StartsAs, start_with}
use Rattle.run_laws.specs.TestedStarts.{start_view, tested}
use Rattle.run_laws.specs.declared.tested_run.faults.StartFault.{StartFault}
use Rattle.run_laws.specs.declared.tested_run.faults.StartFault.TheVariants as start
use Rattle.run_laws.specs.declared.tested_run.prepared.Prepared.{Prepared}
use Rattle.run_laws.proofs.RunLaws.{are_read, no_job, no_state}
use Rattle.run_laws.proofs.tested_run.starts.start.Goals as goal

module _ (A : Type 0) (job state : List ℕ) (w : Direction) (n : ℕ) where
  -- the texts are refused for this failure
  abbrev AreRefused : Failure (StartFault A) → Type 0
  AreRefused failure = IfRefused failure (λ f. StartsAs tested job state w n (Err (start_refusal f)))

  job_handed_on : (failure : Failure (JobFault A)) → IfRefused failure (λ f. JobReadsAs limits job (Err (jobs.refusal_of f))) → AreRefused (refused_as start.Job failure)
  job_handed_on (Refused f) h = no_job tested job state w n (jobs.refusal_of f) h
  job_handed_on Memory h = tt

  module _ (j : JobValue) (read : IsJobText limits job j) where
    state_handed_on : (failure : Failure StateFault) → IfRefused failure (λ f. ReadsAs state (Err f)) → AreRefused (refused_as start.State failure)
    state_handed_on (Refused f) h = no_state tested job state w n j f read h
    state_handed_on Memory h = tt

    module _ (s : StateView) (known : ReadsAs state (Ok s)) where
      started_found : (r : Result (Prepared A) (Failure (StartFault A))) → Gives start_view start_refusal r (start_with tested w n j s) → IfOk r (λ p. StartsAs tested job state w n (Ok (start_view p)))
      started_found (Ok p) h = are_read tested job state w n j s _ read known h
      started_found (Err e) h = tt

      started_refused : (r : Result (Prepared A) (Failure (StartFault A))) → Gives start_view start_refusal r (start_with tested w n j s) → IfErr r AreRefused
      started_refused (Ok p) h = tt
      started_refused (Err (Refused f)) h = are_read tested job state w n j s _ read known h
      started_refused (Err Memory) h = tt

pub returns-in-Err-clause-refused : goal.returns-in-Err-clause-refused
returns-in-Err-clause-refused g c = rw c.of_job.ensures (job_handed_on g.row.A.Denot c.args.job.now c.args.state.now c.args.direction c.args.steps c.in-Err.failure c.in-Err.ensures.fault)

pub returns-in-Err-read-clause-refused : goal.returns-in-Err-read-clause-refused
returns-in-Err-read-clause-refused g c =
    rw c.of_state.ensures (state_handed_on g.row.A.Denot c.args.job.now c.args.state.now c.args.direction c.args.steps (jobs.job_value c.in-Ok.job) c.in-Ok.ensures.job c.in-Err-read.failure c.in-Err-read.ensures.fault)

pub returns-clause-found : goal.returns-clause-found
returns-clause-found g c =
    started_found g.row.A.Denot c.args.job.now c.args.state.now c.args.direction c.args.steps (jobs.job_value c.in-Ok.job) c.in-Ok.ensures.job (state_view c.in-Ok-read.state) c.in-Ok-read.ensures.found c.started.result c.started.ensures.value

pub returns-clause-refused : goal.returns-clause-refused
returns-clause-refused g c =
    started_refused g.row.A.Denot c.args.job.now c.args.state.now c.args.direction c.args.steps (jobs.job_value c.in-Ok.job) c.in-Ok.ensures.job (state_view c.in-Ok-read.state) c.in-Ok-read.ensures.found c.started.result c.started.ensures.value
