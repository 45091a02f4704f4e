-- The slices that are reported before a failure.
use Rattle.std.proofs.Common.{◌≡◌, ◌∙◌, ℕ, ◌*◌, ◌≤◌, List, Result, Ok, IfErr, ap, arith, refl, subst, sym}
use Rattle.std.proofs.lemmas.List.{length-map}
use Rattle.energy_program.specs.Faults.{Refusal}
use Rattle.energy_program.specs.declared.faults.ExprFault.{ExprFault}
use Rattle.fallible.specs.Failures.{refused_as}
use Rattle.fallible.specs.declared.failure.Failure.{Failure}
use Rattle.fallible.specs.declared.failure.Failure.TheVariants.{Memory, Refused}
use Rattle.job.specs.Values.{JobValue}
use Rattle.kernel_code.specs.declared.instructions.Instr.{Instr}
use Rattle.kernel_code.specs.Tables.{Table}
use Rattle.verifier.proofs.Reports.{passed_few}
use Rattle.verifier.specs.Progress.{PassedBefore, slice_count}
use Rattle.verifier.specs.Verdicts.{range}
use Rattle.verifier.specs.declared.faults.VerifyFault.{VerifyFault}
use Rattle.potential.specs.Energies.{Energy, energy_of, slope_code_of}
use Rattle.potential.specs.Progress.{IsPassedBefore, IsPassedUnder, slices_of}
use Rattle.potential.specs.Tables.{numbers_of, table_of}
use Rattle.potential.specs.declared.faults.EnergyFault.{EnergyFault}
use Rattle.potential.specs.declared.faults.EnergyFault.TheVariants as energy

-- before the error of an energy without code no slice is reported
pub none_passed : {A : Type 0} (j : JobValue) (made : Result (List Instr) Refusal) (failure : Failure (ExprFault A))
    → IsPassedBefore j made (refused_as energy.Energy failure) 0
none_passed j made (Refused f) = refl
none_passed j made Memory = omega arith

-- the slices of the job's table are the job's slices
pub same_count : (j : JobValue) (t : Table) → t ≡ table_of j → slice_count t j.slices ≡ slices_of j
same_count j t is = ap (λ t. slice_count t j.slices) is ∙ ap (λ n. n * n * j.slices) (length-map j.types (λ t. numbers_of t.values))

-- the slices that are reported before code is rejected under the table of a job
pub passed_under : (j : JobValue) (code : List Instr) (t : Table) (n : ℕ) (f : VerifyFault) → t ≡ table_of j
    → PassedBefore code t (range j.core j.cutoff j.slices 24) n (Refused f) → IsPassedUnder j code f n
passed_under j code t n f is h = subst (λ t. PassedBefore code t (range j.core j.cutoff j.slices 24) n (Refused f)) is h

-- the slices that are reported before a failure are at most those of the job
pub few : {A : Type 0} (j : JobValue) (made : Result (List Instr) Refusal) (n : ℕ) (failure : Failure (EnergyFault A))
    → IsPassedBefore j made failure n → n ≤ slices_of j
few j made n (Refused (energy.Energy f)) h = omega (arith, h)
few j made n (Refused (energy.Kernel f types)) (code, is, passed) =
    let most = passed_few code (table_of j) (range j.core j.cutoff j.slices 24) n (Refused f) passed in
    omega (arith, most, same_count j (table_of j) refl)
few j made n Memory h = h

-- the slices that are reported before a failure of code are those before a failure of the code that the job has
pub passed_of : {A X : Type 0} (j : JobValue) (code made : Result (List Instr) Refusal) (r : Result X (Failure (EnergyFault A)))
    (Passed : ℕ → Type 0) → made ≡ code
    → IfErr r (λ failure. (n : ℕ) × IsPassedBefore j code failure n × Passed n)
    → IfErr r (λ failure. (n : ℕ) × IsPassedBefore j made failure n × Passed n)
passed_of j code made r Passed is h =
    subst (λ c. IfErr r (λ failure. (n : ℕ) × IsPassedBefore j c failure n × Passed n)) (sym is) h

-- the slices that are reported before a failure of the code of a job's slope
pub slope_passed : {A : Type 0} (j : JobValue) (e : Energy) (n : ℕ) (failure : Failure (EnergyFault A)) → energy_of j ≡ Ok e
    → IsPassedBefore j (Ok e.code) failure n → IsPassedBefore j (slope_code_of j) failure n
slope_passed j e n failure made h = rw made h
