-- The range of forces: whether the force on an atom fits 64 bits, given the verifier's bound on the derivative.
use Rattle.std.specs.Prelude.{Ok, ℕ, ◌-◌, ◌*◌, ◌^◌, ◌<◌, ◌≤◌, List}
use Rattle.job.specs.Values.{JobValue}
use Rattle.kernel_code.specs.declared.instructions.Instr.{Instr}
use Rattle.potential.specs.Tables.{table_of}
use Rattle.potential.specs.Verdicts.{IsVerdictUnder}
use Rattle.verifier.specs.Safety.{IsCertified}

-- the code is accepted, and with the verifier's bound the force on each of `atoms` atoms fits 64 bits
pub record IsSafeFor (j : JobValue) (code : List Instr) (atoms : ℕ) : Type 0 where
  pub steps : ℕ
  pub bound : ℕ
  pub certified : IsCertified code (table_of j) j.core j.cutoff steps bound
  pub judged : IsVerdictUnder j code (Ok bound)
  pub fits : bound * (atoms - 1) < 2 ^ 63

-- the code is accepted, but with the verifier's bound, which is unique, a force might not fit 64 bits
pub record PassesRange (j : JobValue) (code : List Instr) (atoms : ℕ) : Type 0 where
  pub steps : ℕ
  pub bound : ℕ
  pub certified : IsCertified code (table_of j) j.core j.cutoff steps bound
  pub judged : IsVerdictUnder j code (Ok bound)
  pub far : 2 ^ 63 ≤ bound * (atoms - 1)
