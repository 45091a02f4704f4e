-- The line that `check` prints, from the bytes read to the bytes printed. `Wrote` is the property that the
-- output has for the printed text.
use Rattle.std.specs.Prelude.{◌≡◌, ℕ, List, ◌++◌, [], ◌∷◌, Ok, Option, Some, None, codes, decimal}
use Rattle.kernel_code.specs.declared.instructions.Instr.{Instr}
use Rattle.potential.specs.EnergyKernels.{OfEnergy}
use Rattle.potential.specs.Verdicts.{IsAccepted, IsSlopeKernel}
use Rattle.job.specs.JobText.{IsJobText, limits}
use Rattle.job.specs.Values.{JobValue}
use Rattle.kernel_code.specs.Listing.{IsListed, listing_of, ParsesAs}
use Rattle.verifier.specs.Kernels.{Kernel}

-- the line for accepted code: the instructions on its longest path, and the verifier's bound of its values
unfoldable pub verdict_line : (steps bound : ℕ) → List ℕ
verdict_line steps bound = codes "accepted: steps " ++ (decimal steps ++ (codes ", bound " ++ (decimal bound ++ 10 ∷ [])))

-- The job's slope code is accepted, and its verdict line was written. The bound is the verifier's only bound for the
-- code.
pub record IsSlopeVerdict (job : List ℕ) (Wrote : List ℕ → Type 0) : Type 0 where
  pub said : JobValue
  pub kernel : Kernel
  pub job_text : IsJobText limits job said
  pub slope : IsSlopeKernel said kernel
  pub written : Wrote (verdict_line kernel.steps kernel.bound)

-- the code of a listing is accepted under the job, and its verdict line was written
pub record IsListingVerdict (job listing : List ℕ) (Wrote : List ℕ → Type 0) : Type 0 where
  pub said : JobValue
  pub code : List Instr
  pub kernel : Kernel
  pub job_text : IsJobText limits job said
  pub listed : IsListed code
  pub listing_text : listing ≡ listing_of code
  pub accepted : IsAccepted said code kernel
  pub written : Wrote (verdict_line kernel.steps kernel.bound)

-- ---- either verdict

-- the accepted kernel that `check` reports under a job: of the listing if one is given, otherwise of the job's slope code
abbrev pub IsJudged : JobValue → (listing : Option (List ℕ)) → Kernel → Type 0
IsJudged j None k = IsSlopeKernel j k
IsJudged j (Some listing) k = (code : List Instr) × ParsesAs listing (Ok code) × IsAccepted j code k

-- the verdict line of accepted code was written: of the listing if one is given, otherwise of the job's slope code
abbrev pub IsVerdict : (job : List ℕ) → (listing : Option (List ℕ)) → (Wrote : List ℕ → Type 0) → Type 0
IsVerdict job None Wrote = IsSlopeVerdict job Wrote
IsVerdict job (Some listing) Wrote = IsListingVerdict job listing Wrote

-- The code of the job's energy itself, not of its derivative, is accepted.
pub record HasEnergyCode (job : List ℕ) : Type 0 where
  pub said : JobValue
  pub code : List Instr
  pub kernel : Kernel
  pub job_text : IsJobText limits job said
  pub compiled : OfEnergy said (λ answer. answer ≡ Ok code)
  pub accepted : IsAccepted said code kernel
