-- Faults of commands from failed calls: if a call rejects its input, the command rejects the text.
use Rattle.std.proofs.Common.{◌≡◌, ℕ, List, Err, inl, inr, refl}
use Rattle.engine.specs.declared.faults.InputFault.{InputFault}
use Rattle.engine.specs.declared.faults.InputFault.TheVariants as input
use Rattle.fallible.specs.Failures.{IfRefused}
use Rattle.fallible.specs.declared.failure.Failure.{Failure}
use Rattle.fallible.specs.declared.failure.Failure.TheVariants.{Refused, Memory}
use Rattle.job.specs.JobFaults.{JobReadsAs}
use Rattle.job.specs.JobText.{limits}
use Rattle.job.specs.Values.{JobValue}
use Rattle.job.specs.Views as jobs
use Rattle.job.specs.declared.faults.JobFault.{JobFault}
use Rattle.cli.specs.Failures.{command_fault}
use Rattle.cli.specs.Refusals.{RefusesQuantity, RefusesUnder}
use Rattle.cli.specs.StreamTexts.{shown_quantity}
use Rattle.cli.specs.declared.faults.CommandFault.{CommandFault}
use Rattle.cli.specs.declared.faults.CommandFault.TheVariants as fault
use Rattle.command_line.specs.declared.commands.Quantity.{Quantity}
use Rattle.command_line.specs.declared.commands.Quantity.TheVariants as quantity
use Rattle.streams.specs.Texts.{LacksQuantityText}
use Rattle.streams.specs.declared.quantities.Quantity.TheVariants.{Energy}

-- ---- jobs

-- If a job isn't read, its text is rejected, whatever the command requires of a job.
pub job_refused : {A : Type 0} (job : List ℕ) (Refuses' : JobValue → CommandFault A → Type 0) (failure : Failure (JobFault A))
    → IfRefused failure (λ f. JobReadsAs limits job (Err (jobs.refusal_of f))) → RefusesUnder job Refuses' (command_fault (λ f. fault.Rejected (input.Job f)) failure)
job_refused job Refuses' (Refused f) h = inl h
job_refused job Refuses' Memory h = inl tt

-- ---- quantities

-- only of the energy is an energy shown
shows_energy : (q : Quantity) → shown_quantity q ≡ Energy → q ≡ quantity.Energy
shows_energy quantity.Energy is = refl
shows_energy quantity.Forces is = cc
shows_energy quantity.Velocities is = cc

-- If texts have no such quantity, they are rejected.
pub quantity_refused : {A : Type 0} (q : Quantity) (job state : List ℕ) (failure : Failure (InputFault A))
    → IfRefused failure (LacksQuantityText (shown_quantity q) job state) → RefusesQuantity q job state (command_fault fault.Rejected failure)
quantity_refused q job state (Refused f) (inl h) = inl h
quantity_refused q job state (Refused (input.Energy f)) (inr h) = inr (shows_energy q h.0, h.1)
quantity_refused q job state (Refused (input.Job f)) (inr h) = absurd h
quantity_refused q job state (Refused (input.State f)) (inr h) = absurd h
quantity_refused q job state (Refused (input.System f)) (inr h) = absurd h
quantity_refused q job state (Refused input.ForceRange) (inr h) = absurd h
quantity_refused q job state Memory h = tt
