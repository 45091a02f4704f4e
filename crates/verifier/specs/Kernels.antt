-- Accepted code, as contracts see it.
use Rattle.std.specs.Prelude.{ℕ, List, ℤ}
use Rattle.kernel_code.specs.declared.instructions.Instr.{Instr}
use Rattle.kernel_code.specs.Tables.{Table}
use Rattle.verifier.specs.Safety.{IsCertified}

-- the code, the table and distances that it was verified for, its longest path and the bound of its values
pub record Kernel : Type 0 where
  pub code : List Instr
  pub table : Table
  pub core : ℤ
  pub cutoff : ℤ
  pub steps : ℕ
  pub bound : ℕ

-- the record satisfies the verifier's certificate
abbrev pub IsKernel : Kernel → Type 0
IsKernel k = IsCertified k.code k.table k.core k.cutoff k.steps k.bound
