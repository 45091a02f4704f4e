-- The result of the path analysis: the longest path, or the first instruction at which some path is malformed,
-- regardless of values. Different stack heights are an error where the paths join; a theorem shows that some path then
-- lacks an operand or ends with other than one value. At one instruction a 65th value is the last error.
use Rattle.std.specs.Prelude.{◌≡◌, ◌≢◌, ℕ, ◌<◌, ◌⊎◌, List, length, Some, Bool, Result, Ok, Err, slice_get}
use Rattle.kernel_code.specs.declared.instructions.Instr.{Instr}
use Rattle.kernel_code.specs.Paths.{IsSupplied, HasRoom, IsPath, MissesNothing, IsLongest}
use Rattle.verifier.specs.declared.faults.VerifyFault.{VerifyFault}
use Rattle.verifier.specs.declared.faults.VerifyFault.TheVariants.{Malformed, DepthOver64}

-- ---- an instruction without errors

-- all paths to this index have the same stack height
abbrev pub IsLevel : List Instr → ℕ → Type 0
IsLevel code pc =
    (n m height height' : ℕ) (set set' : List Bool) → IsPath code n pc height set → IsPath code m pc height' set' → height ≡ height'

-- on each path the instruction here has the property, with the path's stack height and set locals
abbrev pub HoldsOnPaths : (Instr → ℕ → List Bool → Type 0) → List Instr → (pc : ℕ) → Type 0
HoldsOnPaths P code pc =
    (n height : ℕ) (set : List Bool) (i : Instr) → IsPath code n pc height set → slice_get code pc ≡ Some i → P i height set

-- on each path the instruction here has its operands, its input or its local
abbrev pub AreSupplied : List Instr → (inputs pc : ℕ) → Type 0
AreSupplied code inputs pc = HoldsOnPaths (λ i height set. IsSupplied i inputs height set) code pc

-- on each path the stack has room for the value that the instruction here pushes
abbrev pub HaveRoom : List Instr → (pc : ℕ) → Type 0
HaveRoom code pc = HoldsOnPaths (λ i height set. HasRoom i height) code pc

-- no path has an error at this index
pub record Fits (code : List Instr) (inputs pc : ℕ) : Type 0 where
  pub level : IsLevel code pc
  pub supplied : AreSupplied code inputs pc
  pub room : HaveRoom code pc

-- ---- an instruction with an error

-- on some path the instruction here lacks the property
pub record FailsOnPath (P : Instr → ℕ → List Bool → Type 0) (code : List Instr) (pc : ℕ) : Type 0 where
  pub n : ℕ
  pub height : ℕ
  pub set : List Bool
  pub path : IsPath code n pc height set
  pub instr : Instr
  pub there : slice_get code pc ≡ Some instr
  pub fails : P instr height set → ⊥

-- on some path the instruction here lacks an operand, its input or its local
abbrev pub Lacks : List Instr → (inputs pc : ℕ) → Type 0
Lacks code inputs pc = FailsOnPath (λ i height set. IsSupplied i inputs height set) code pc

-- on some path the stack has no room for the value that the instruction here pushes
abbrev pub Overfills : List Instr → (pc : ℕ) → Type 0
Overfills code pc = FailsOnPath (λ i height set. HasRoom i height) code pc

-- this index is the code's end, and some path ends with other than one value
pub record EndsBadly (code : List Instr) (pc : ℕ) : Type 0 where
  pub last : pc ≡ length code
  pub n : ℕ
  pub height : ℕ
  pub set : List Bool
  pub path : IsPath code n pc height set
  pub other : height ≢ 1

-- a set of paths, each given by its number of instructions, its stack height and its set locals
abbrev pub Paths : Type 1
Paths = (n height : ℕ) → List Bool → Type 0

-- two of these paths have different stack heights
pub record AreUneven (paths : Paths) : Type 0 where
  pub n : ℕ
  pub height : ℕ
  pub set : List Bool
  pub one : paths n height set
  pub n' : ℕ
  pub height' : ℕ
  pub set' : List Bool
  pub other : paths n' height' set'
  pub different : height ≢ height'

-- two paths join here with different stack heights
abbrev pub MeetUnevenly : List Instr → (pc : ℕ) → Type 0
MeetUnevenly code pc = AreUneven (λ n height set. IsPath code n pc height set)

-- ---- the result

-- every path is well-formed, paths that join have the same stack height, and the longest has `steps` instructions
pub record IsWellFormed (code : List Instr) (inputs steps : ℕ) : Type 0 where
  pub misses : MissesNothing code inputs
  pub level : (pc : ℕ) → IsLevel code pc
  pub longest : IsLongest code steps

-- at this index an operand, a local or an input is missing, heights differ, or the code ends with other than one value
abbrev pub IsMalformedAt : List Instr → (inputs pc : ℕ) → Type 0
IsMalformedAt code inputs pc = Lacks code inputs pc ⊎ (MeetUnevenly code pc ⊎ EndsBadly code pc)

-- no errors before this index, and the code is malformed at it
pub record IsFirstMalformed (code : List Instr) (inputs pc : ℕ) : Type 0 where
  pub below : (k : ℕ) → k < pc → Fits code inputs k
  pub wrong : IsMalformedAt code inputs pc

-- no errors before this index, and here only the room on the stack is missing
pub record IsFirstOverfull (code : List Instr) (inputs pc : ℕ) : Type 0 where
  pub below : (k : ℕ) → k < pc → Fits code inputs k
  pub level : IsLevel code pc
  pub supplied : AreSupplied code inputs pc
  pub overfills : Overfills code pc

-- the lowest index with an error, and the error there
abbrev pub IsFirst : List Instr → ℕ → VerifyFault → Type 0
IsFirst code inputs (Malformed pc) = IsFirstMalformed code inputs pc
IsFirst code inputs (DepthOver64 pc) = IsFirstOverfull code inputs pc
IsFirst code inputs _ = ⊥

-- the result of the analysis
abbrev pub IsPathResult : List Instr → ℕ → Result ℕ VerifyFault → Type 0
IsPathResult code inputs (Ok steps) = IsWellFormed code inputs steps
IsPathResult code inputs (Err fault) = IsFirst code inputs fault

-- ---- meaning of an error

-- some path lacks an operand, a local or an input, or ends with other than one value
abbrev pub GoesWrong : List Instr → ℕ → Type 0
GoesWrong code inputs = ((pc : ℕ) × Lacks code inputs pc) ⊎ EndsBadly code (length code)

-- the error's meaning: the code is malformed at this index and some path goes wrong, or there is a 65th value at this
-- index
abbrev pub GoesWrongSo : List Instr → ℕ → VerifyFault → Type 0
GoesWrongSo code inputs (Malformed pc) = IsMalformedAt code inputs pc × GoesWrong code inputs
GoesWrongSo code inputs (DepthOver64 pc) = Overfills code pc
GoesWrongSo code inputs _ = ⊥
