-- The causes of faults, from the texts of states, without an order of reading.
use Rattle.std.specs.Prelude.{◌≡◌, ◌≢◌, ℕ, suc, List, [], ◌++◌, true, Err}
use Rattle.line_text.specs.Parts.{ended, lacks}
use Rattle.state.specs.StateFaults.{ReadsAs}
use Rattle.state.specs.StateText.{IsState, StateView, state_text}
use Rattle.state.specs.TakenLines.{AreLines}
use Rattle.state.specs.declared.faults.StateFault.{StateFault}
use Rattle.state.specs.declared.faults.StateFault.TheVariants.{BadLine, Truncated, Trailing}

-- some state's text starts with `front`, and is longer
pub record BeginsState (front : List ℕ) : Type 0 where
  pub state : StateView
  pub more : List ℕ
  pub is : IsState state
  pub some : more ≢ []
  pub text : state_text state ≡ front ++ more

-- no state's text starts with `front`
abbrev pub BeginsNone : List ℕ → Type 0
BeginsNone front = (s : StateView) (more : List ℕ) → IsState s → state_text s ≡ front ++ more → ⊥

-- some state's text starts with the lines before this one, and no state's text starts with these lines and this one
pub record IsBadLine (bytes : List ℕ) (number : ℕ) : Type 0 where
  pub front : List ℕ
  pub line : List ℕ
  pub rest : List ℕ
  pub before : ℕ
  pub text : bytes ≡ front ++ (ended line ++ rest)
  pub number' : number ≡ suc before
  pub lines : AreLines before front
  pub whole : lacks 10 line ≡ true
  pub begun : BeginsState front
  pub none : BeginsNone (front ++ ended line)

-- some state's text starts with the lines that have an LF, and is longer
pub record IsTruncated (bytes : List ℕ) : Type 0 where
  pub front : List ℕ
  pub rest : List ℕ
  pub count : ℕ
  pub text : bytes ≡ front ++ rest
  pub lines : AreLines count front
  pub part : lacks 10 rest ≡ true
  pub begun : BeginsState front

-- the bytes are a state's text, and then at least one byte
pub record IsTrailing (bytes : List ℕ) : Type 0 where
  pub state : StateView
  pub rest : List ℕ
  pub is : IsState state
  pub some : rest ≢ []
  pub text : bytes ≡ state_text state ++ rest

-- the cause of a fault of the bytes
abbrev pub IsCause : List ℕ → StateFault → Type 0
IsCause bytes (BadLine number) = IsBadLine bytes number
IsCause bytes Truncated = IsTruncated bytes
IsCause bytes Trailing = IsTrailing bytes

-- each fault has its cause
abbrev pub FaultsHaveCauses : Type 0
FaultsHaveCauses = (bytes : List ℕ) (f : StateFault) → ReadsAs bytes (Err f) → IsCause bytes f

-- each cause is that of a fault
abbrev pub CausesAreFaults : Type 0
CausesAreFaults = (bytes : List ℕ) (f : StateFault) → IsCause bytes f → ReadsAs bytes (Err f)
