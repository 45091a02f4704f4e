-- The abstract states of the data-flow analysis, after all instructions below some index were visited.
use Rattle.std.specs.Prelude.{◌≡◌, ◌≢◌, ℕ, suc, ◌+◌, ◌<◌, ◌≤◌, max, List, length, Some, Bool, true, false, ◌&&◌, Result, Ok, Err, slice_get, slice_index_or, replicate}
use Rattle.kernel_code.specs.declared.instructions.Instr.{Instr}
use Rattle.kernel_code.specs.declared.instructions.Instr.TheVariants.{JumpIfZero, Jump}
use Rattle.kernel_code.specs.Paths.{IsSupplied, HasRoom, CanAct, MayGo, IsPath, height_after, set_after}
use Rattle.verifier.specs.declared.faults.VerifyFault.{VerifyFault}
use Rattle.verifier.specs.declared.faults.VerifyFault.TheVariants.{Malformed, DepthOver64}
use Rattle.verifier.specs.declared.meetings.Shape.{Shape}
use Rattle.verifier.specs.declared.meetings.Meeting.{Meeting}
use Rattle.verifier.specs.declared.meetings.Meeting.TheVariants.{Nothing, Level, Uneven}
use Rattle.verifier.specs.Misfits.{AreUneven, Fits, Paths}

-- ---- one instruction

-- the instruction is supplied, but the stack has no room for the value that it pushes
pub record IsOverfull (i : Instr) (inputs height : ℕ) (set : List Bool) : Type 0 where
  pub supplied : IsSupplied i inputs height set
  pub full : HasRoom i height → ⊥

-- an operand, the input or the local that the instruction needs is missing
pub record LacksSomething (i : Instr) (inputs height : ℕ) (set : List Bool) : Type 0 where
  pub lacks : IsSupplied i inputs height set → ⊥

-- the result of checking the instruction at index pc
abbrev pub IsFit : Instr → (pc inputs height : ℕ) → List Bool → Result (Unit {0}) VerifyFault → Type 0
IsFit i pc inputs height set (Ok u) = CanAct i inputs height set
IsFit i pc inputs height set (Err (Malformed at)) = (at ≡ pc) × LacksSomething i inputs height set
IsFit i pc inputs height set (Err (DepthOver64 at)) = (at ≡ pc) × IsOverfull i inputs height set
IsFit i pc inputs height set (Err _) = ⊥

-- ---- joins

-- c are the locals that are set in both a and b
pub record AreBoth (a b c : List Bool) : Type 0 where
  pub long : length c ≡ length b
  pub members : (k : ℕ) → slice_index_or c k false ≡ (slice_index_or a k false && slice_index_or b k false)

-- c is the join of two abstract states with the same stack height
pub record IsBoth (a b c : Shape) : Type 0 where
  pub height : a.height ≡ b.height
  pub height' : c.height ≡ b.height
  pub set : AreBoth a.set b.set c.set
  pub steps : c.steps ≡ max a.steps b.steps

-- the new state is the join of the old state with an abstract state
abbrev pub IsJoin : Meeting → Shape → Meeting → Type 0
IsJoin Nothing s (Level b) = IsBoth s s b
IsJoin (Level a) s (Level b) = IsBoth a s b
IsJoin (Level a) s Uneven = a.height ≢ s.height
IsJoin Uneven s new = new ≡ Uneven
IsJoin _ s _ = ⊥

-- the state at an index
abbrev pub meeting_at : List Meeting → ℕ → Meeting
meeting_at meetings at = slice_index_or meetings at Nothing

-- the state at one index is joined, all others stay
pub record IsJoinAt (old : List Meeting) (to : ℕ) (s : Shape) (new : List Meeting) : Type 0 where
  pub long : length new ≡ length old
  pub there : IsJoin (meeting_at old to) s (meeting_at new to)
  pub others : (at : ℕ) → at ≢ to → meeting_at new at ≡ meeting_at old at

-- the state is joined at each successor of the instruction
abbrev pub IsLedOn : Instr → (here : ℕ) → Shape → (old new : List Meeting) → Type 0
IsLedOn (JumpIfZero target) here s old new =
    (between : List Meeting) × IsJoinAt old (here + 1) s between × IsJoinAt between target s new
IsLedOn (Jump target) here s old new = IsJoinAt old target s new
IsLedOn _ here s old new = IsJoinAt old (here + 1) s new

-- the result for the state at the end, index len
abbrev pub IsEnd : Meeting → ℕ → Result ℕ VerifyFault → Type 0
IsEnd (Level s) len (Ok steps) = (s.height ≡ 1) × (steps ≡ s.steps)
IsEnd (Level s) len (Err (Malformed at)) = (s.height ≢ 1) × (at ≡ len)
IsEnd Uneven len (Err (Malformed at)) = at ≡ len
IsEnd _ len _ = ⊥

-- ---- paths

-- a path that reaches this index from an instruction below another, or begins here
pub data Arrives (code : List Instr) (below : ℕ) : (n pc height : ℕ) → List Bool → Type 0 where
  first : Arrives code below 0 0 0 (replicate 256 false)
  later : {n from height : ℕ} {set : List Bool} {i : Instr} {to : ℕ}
      → IsPath code n from height set → slice_get code from ≡ Some i → MayGo i from to → from < below
      → Arrives code below (suc n) to (height_after i height) (set_after i set)

-- the paths that reach an index so
abbrev pub arrivals : List Instr → (below at : ℕ) → Paths
arrivals code below at n height set = Arrives code below n at height set

-- the abstract state that describes these paths: common height, locals set on all, length of the longest
pub record IsSummary (paths : Paths) (s : Shape) : Type 0 where
  pub long : length s.set ≡ 256
  pub level : (n height : ℕ) (set : List Bool) → paths n height set → height ≡ s.height
  pub most : (n height : ℕ) (set : List Bool) → paths n height set → n ≤ s.steps
  pub taken : (height : ℕ) × (set : List Bool) × paths s.steps height set
  pub all_set : (k : ℕ) → slice_index_or s.set k false ≡ true → (n height : ℕ) (set : List Bool) → paths n height set
      → slice_index_or set k false ≡ true
  pub some_unset : (k : ℕ) → slice_index_or s.set k false ≡ false
      → (n : ℕ) × (height : ℕ) × (set : List Bool) × paths n height set × (slice_index_or set k false ≡ false)

-- the state describes these paths
abbrev pub Describes : Paths → Meeting → Type 0
Describes paths Nothing = (n height : ℕ) (set : List Bool) → paths n height set → ⊥
Describes paths (Level s) = IsSummary paths s
Describes paths Uneven = AreUneven paths

-- all instructions below this one were visited without an error; each other index has the state of the paths that reach
-- it from them
pub record HasFollowed (code : List Instr) (inputs here : ℕ) (meetings : List Meeting) : Type 0 where
  pub long : length meetings ≡ length code + 1
  pub fits : (k : ℕ) → k < here → Fits code inputs k
  pub held : (at : ℕ) → here ≤ at → at ≤ length code → Describes (arrivals code here at) (meeting_at meetings at)
