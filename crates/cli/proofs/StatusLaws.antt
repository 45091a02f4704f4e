-- Laws of the numbers of statuses: each status has its own, and all are at most 5.
use Rattle.std.proofs.Common.{◌≡◌, ◌∙◌, ◌≤◌, ℕ, zero, suc, ap, arith, refl, sym}
use Rattle.cli.specs.Statuses.{status_number}
use Rattle.cli.specs.declared.faults.Status.{Status}
use Rattle.cli.specs.declared.faults.Status.TheVariants as status

-- statuses are at most 5
pub number_most : (s : Status) → status_number s ≤ 5
number_most status.Done = omega arith
number_most _ = omega arith

-- the status with this number
abbrev status_at : ℕ → Status
status_at zero = status.Done
status_at (suc zero) = status.RefusedData
status_at (suc (suc zero)) = status.CommandLine
status_at (suc (suc (suc zero))) = status.RefusedKernel
status_at (suc (suc (suc (suc zero)))) = status.Memory
status_at (suc (suc (suc (suc (suc n))))) = status.File

at_number : (s : Status) → status_at (status_number s) ≡ s
at_number status.Done = refl
at_number _ = refl

-- statuses with the same number are the same
pub one_number : (s t : Status) → status_number s ≡ status_number t → s ≡ t
one_number s t same = sym (at_number s) ∙ (ap status_at same ∙ at_number t)
