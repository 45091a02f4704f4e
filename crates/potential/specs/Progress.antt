-- The slices of a job's code that the verifier reports to a watcher.
use Rattle.std.specs.Prelude.{◌≡◌, ℕ, ◌*◌, ◌≤◌, List, length, Result, Ok}
use Rattle.energy_program.specs.Faults.{Refusal}
use Rattle.fallible.specs.declared.failure.Failure.{Failure}
use Rattle.fallible.specs.declared.failure.Failure.TheVariants.{Refused, Memory}
use Rattle.job.specs.Values.{JobValue}
use Rattle.kernel_code.specs.declared.instructions.Instr.{Instr}
use Rattle.potential.specs.Tables.{table_of}
use Rattle.potential.specs.declared.faults.EnergyFault.{EnergyFault}
use Rattle.potential.specs.declared.faults.EnergyFault.TheVariants as energy
use Rattle.verifier.specs.Progress.{PassedBefore}
use Rattle.verifier.specs.Verdicts.{range}
use Rattle.verifier.specs.declared.faults.VerifyFault.{VerifyFault}

-- the number of slices of a job: the slices of all ordered pairs of types
abbrev pub slices_of : JobValue → ℕ
slices_of j = length j.types * length j.types * j.slices

-- The number n of slices that are reported before the verifier rejects this code under the job with this fault: exactly
-- the slices before the rejected one, or none before an error of paths.
abbrev pub IsPassedUnder : JobValue → List Instr → VerifyFault → (n : ℕ) → Type 0
IsPassedUnder j code f n = PassedBefore code (table_of j) (range j.core j.cutoff j.slices 24) n (Refused f)

-- The number n of slices that are reported before a failure. `made` is the job's code that is verified, or the reason why
-- there is none. Without code nothing is verified. If memory ran out, some of the job's slices were reported.
abbrev pub IsPassedBefore : {A : Type 0} → JobValue → (made : Result (List Instr) Refusal) → Failure (EnergyFault A) → (n : ℕ) → Type 0
IsPassedBefore j made (Refused (energy.Energy f)) n = n ≡ 0
IsPassedBefore j made (Refused (energy.Kernel f types)) n = (code : List Instr) × (made ≡ Ok code) × IsPassedUnder j code f n
IsPassedBefore j made Memory n = n ≤ slices_of j
