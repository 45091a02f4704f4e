-- The range and the precondition of searches for faults, and types that need no search of their own.
use Rattle.std.specs.Prelude.{◌≡◌, ℕ, ◌<◌, List}
use Rattle.kernel_code.specs.declared.instructions.Instr.{Instr}
use Rattle.kernel_code.specs.Code.{IsCode}
use Rattle.kernel_code.specs.Tables.{Table, IsTable, row_of}
use Rattle.verifier.specs.Misfits.{IsWellFormed}
use Rattle.verifier.specs.Safety.{input_count}
use Rattle.verifier.specs.Verdicts.{Range, range}
use Rattle.verifier.specs.declared.searches.Search.{Search}

-- the distances that are searched, their slices, and the depth to which a slice is bisected
abbrev pub range_of : {A B : Type 0} → Search A B → Range
range_of search = range search.core search.cutoff search.slices search.depth

-- all paths of the code are well-formed, with the number of inputs that it has under the table
pub record IsWellUnder (code : List Instr) (t : Table) : Type 0 where
  pub is_code : IsCode code
  pub is_table : IsTable t
  pub well : (steps : ℕ) × IsWellFormed code (input_count t) steps

-- an earlier type has the values of this type
pub record IsRepeated (t : Table) (a : ℕ) : Type 0 where
  pub earlier : ℕ
  pub before : earlier < a
  pub same : row_of t earlier ≡ row_of t a
