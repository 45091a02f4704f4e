-- The energy of a job, the code of its derivative, and the code of the energy itself.
use Rattle.std.specs.Prelude.{◌≡◌, ℕ, ◌≤◌, ℤ, pos, List, length, map, Result, Ok, Err}
use Rattle.fixed.specs.Constants.{exactly}
use Rattle.fixed.specs.Fractions.{bits_of}
use Rattle.derivative.specs.Derive.{slope_program}
use Rattle.line_text.specs.Steps.{◌>>=◌}
use Rattle.energy_program.specs.Faults.{Refusal}
use Rattle.energy_program.specs.Names.{names_from}
use Rattle.energy_program.specs.Programs.{Trees}
use Rattle.energy_program.specs.Tree.{Number, Tree, variable_count, substituted}
use Rattle.expr.specs.Energy.{trees_in}
use Rattle.job.specs.Values.{GlobalValue, JobValue}
use Rattle.kernel_code.specs.declared.instructions.Instr.{Instr}
use Rattle.kernel_compiler.specs.Code.{compiled}
use Rattle.potential.specs.CodeSlopes.{ComputesSlope}

-- the energy with all definitions substituted, the program of its derivative, and the code of that program
pub record Energy : Type 0 where
  pub tree : Tree
  pub slope : Trees
  pub code : List Instr

abbrev pub global_names : List GlobalValue → List (List ℕ)
global_names globals = map (λ g. g.name) globals

-- the derivative of a program at `bits` fraction bits, and the derivative's code
unfoldable pub energy_from : ℕ → Trees → Result Energy Refusal
energy_from bits program = do
  slope ← slope_program bits program
  code ← compiled bits slope.0 slope.1
  Ok (record { tree = substituted program.0 program.1; slope = slope; code = code })

-- The program of a job's energy text. Names are checked before the text.
unfoldable pub job_program : JobValue → Result Trees Refusal
job_program j = do
  variables ← names_from j.parameters (global_names j.globals)
  trees_in (bits_of j.frac) variables j.energy

-- The energy of a job, or the first error: of its program, then of the size of the derivative's program, then of the
-- size of the code.
unfoldable pub energy_of : JobValue → Result Energy Refusal
energy_of j = do
  program ← job_program j
  energy_from (bits_of j.frac) program

-- the tree of an energy, or 0 in place of an error
abbrev pub tree_or_zero : Result Energy Refusal → Tree
tree_or_zero (Ok energy) = energy.tree
tree_or_zero (Err refusal) = Number (exactly (pos 0))

-- the job's energy with all definitions substituted; 0 if the job has no energy
unfoldable pub job_tree : JobValue → Tree
job_tree j = tree_or_zero (energy_of j)

-- the code computes the derivative on every input list that is long enough
abbrev pub IsCompiled : ℕ → (parameters globals : ℕ) → Energy → Type 0
IsCompiled bits parameters globals energy =
    (inputs : List ℤ) → variable_count parameters globals ≤ length inputs → ComputesSlope bits energy.tree energy.slope energy.code inputs

-- ---- the code

-- the code of the derivative of a job's energy, or the error
abbrev pub slope_code_of : JobValue → Result (List Instr) Refusal
slope_code_of j = energy_of j >>= λ e. Ok e.code

-- The code of a job's energy itself, not of its derivative, or the first error: of its program, then of the size of the
-- code.
unfoldable pub energy_code_of : JobValue → Result (List Instr) Refusal
energy_code_of j = do
  program ← job_program j
  compiled (bits_of j.frac) program.0 program.1

-- the code is the job's slope code and computes the derivative on every input list that is long enough
pub record IsSlopeCode (j : JobValue) (code : List Instr) : Type 0 where
  pub energy' : Energy
  pub says : energy_of j ≡ Ok energy'
  pub its : code ≡ energy'.code
  pub compiled : IsCompiled (bits_of j.frac) (length j.parameters) (length j.globals) energy'
