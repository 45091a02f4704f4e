-- Laws of the lines of accepted code, and of energies.
use Rattle.std.proofs.Common.{◌≡◌, ℕ, List, Ok, Option, Some, None}
use Rattle.fallible.specs.Failures.{IfRefused}
use Rattle.fallible.specs.declared.failure.Failure.{Failure}
use Rattle.fallible.specs.declared.failure.Failure.TheVariants.{Refused, Memory}
use Rattle.engine.specs.declared.faults.InputFault.TheVariants as input
use Rattle.kernel_code.specs.declared.instructions.Instr.{Instr}
use Rattle.potential.specs.Verdicts.{HasNoKernel, IsAccepted}
use Rattle.potential.specs.declared.faults.EnergyFault.{EnergyFault}
use Rattle.job.specs.JobText.{IsJobText, limits}
use Rattle.job.specs.Values.{JobValue}
use Rattle.kernel_code.specs.Listing.{ParsesAs}
use Rattle.kernel_code.proofs.ListingLaws.{one_listing}
use Rattle.verifier.specs.Kernels.{Kernel}
use Rattle.cli.specs.Failures.{command_fault}
use Rattle.cli.specs.Refusals.{RefusesVerdict}
use Rattle.cli.specs.Verdicts.{IsJudged, IsListingVerdict, IsVerdict, verdict_line}
use Rattle.cli.specs.declared.faults.CommandFault.TheVariants as fault

-- If a listing's code is accepted under a job, the line with the steps and the bound of its kernel is the verdict on
-- the listing.
listing_verdict : (job listing : List ℕ) (said : JobValue) (code : List Instr) (k : Kernel) → IsJobText limits job said → ParsesAs listing (Ok code) → IsAccepted said code k
    → (steps bound : ℕ) → steps ≡ k.steps → bound ≡ k.bound → (Wrote : List ℕ → Type 0) → Wrote (verdict_line steps bound) → IsListingVerdict job listing Wrote
listing_verdict job listing said code k read listed accepted steps bound s b Wrote written =
    let is = (one_listing listing code).0 listed in
    record { said = said; code = code; kernel = k; job_text = read; listed = is.0; listing_text = is.1; accepted = accepted; written = rw (← s, ← b) written }

-- the line with the steps and the bound of an accepted kernel is the verdict
pub verdict : (job : List ℕ) (listing : Option (List ℕ)) (said : JobValue) (k : Kernel) → IsJobText limits job said → IsJudged said listing k
    → (steps bound : ℕ) → steps ≡ k.steps → bound ≡ k.bound → (Wrote : List ℕ → Type 0) → Wrote (verdict_line steps bound) → IsVerdict job listing Wrote
verdict job None said k read is steps bound s b Wrote written =
    record { said = said; kernel = k; job_text = read; slope = is; written = rw (← s, ← b) written }
verdict job (Some listing) said k read is steps bound s b Wrote written =
    listing_verdict job listing said is.0 k read is.1 is.2 steps bound s b Wrote written

-- the verifier rejects the code of a listing, or an allocation is refused for it
pub code_refused : (A : Type 0) (job : JobValue) (listing : List ℕ) (code : List Instr) (failure : Failure (EnergyFault A)) → ParsesAs listing (Ok code) → IfRefused failure (HasNoKernel job code)
    → RefusesVerdict {A = A} (Some listing) job (command_fault (λ f. fault.Rejected (input.Energy f)) failure)
code_refused A job listing code (Refused f) reads why = (code, reads, why)
code_refused A job listing code Memory reads why = tt
