-- Abstract interpretation, declaratively: the abstract state at an instruction is the smallest that contains all states
-- that lower instructions lead there. So each instruction has one state, and no order of iteration is fixed.
use Rattle.std.specs.Prelude.{◌≡◌, ◌≢◌, ℕ, zero, suc, ◌+◌, ◌<◌, ◌⊎◌, List, [], ◌∷◌, length, ℤ, pos, Option, Some, None, slice_get}
use Rattle.fixed.specs.declared.faults.Fault.{Fault}
use Rattle.interval_domain.specs.declared.span.Span.{Span}
use Rattle.interval_domain.specs.Spans.{IsCause, IsMember, IsOutcome, IsOutcomeOfTwo}
use Rattle.kernel_code.specs.declared.instructions.Instr.{Instr}
use Rattle.kernel_code.specs.declared.instructions.Instr.TheVariants.{Push, Input, Keep, Get, Binary, Unary, JumpIfZero, Jump}
use Rattle.fixed.specs.declared.operations.Operator.{Operator}
use Rattle.fixed.specs.declared.operations.UnaryOperator.{UnaryOperator}
use Rattle.fixed.specs.Operations.{operator_value, unary_value}
use Rattle.verifier.specs.Frames.{SpanFrameView, Pushes, Pops, Sets, AppliesBinary, AppliesUnary, IsPlain, IsStart, IsFrameWithin, local_of}

-- ---- transfer functions

-- the interval of this number only
pub record IsOne (v : ℤ) (s : Span) : Type 0 where
  pub lo' : s.lo ≡ v
  pub hi' : s.hi ≡ v

pub record PushesNumber (v : ℤ) (old new : SpanFrameView) : Type 0 where
  pub span : Span
  pub one : IsOne v span
  pub pushes : Pushes span old new

pub record PushesInput (k : ℕ) (inputs : List Span) (old new : SpanFrameView) : Type 0 where
  pub span : Span
  pub there : slice_get inputs k ≡ Some span
  pub pushes : Pushes span old new

pub record PushesLocal (k : ℕ) (old new : SpanFrameView) : Type 0 where
  pub span : Span
  pub there : local_of old k ≡ Some span
  pub pushes : Pushes span old new

-- there are 256 locals
pub record KeepsTop (k : ℕ) (old new : SpanFrameView) : Type 0 where
  pub few : k < 256
  pub span : Span
  pub between : SpanFrameView
  pub pops : Pops span old between
  pub sets : Sets k span between new

-- the interval on top is removed
pub record PopsTop (old new : SpanFrameView) : Type 0 where
  pub span : Span
  pub pops : Pops span old new

-- the transfer function of an instruction; an operation's interval is the smallest that contains its values on all
-- members of its operands
abbrev pub IsBehind : ℕ → Instr → List Span → (old new : SpanFrameView) → Type 0
IsBehind bits (Push v) inputs old new = PushesNumber v old new
IsBehind bits (Input k) inputs old new = PushesInput k inputs old new
IsBehind bits (Keep k) inputs old new = KeepsTop k old new
IsBehind bits (Get k) inputs old new = PushesLocal k old new
IsBehind bits (Binary op) inputs old new = AppliesBinary bits op old new
IsBehind bits (Unary op) inputs old new = AppliesUnary bits op old new
IsBehind bits (JumpIfZero to) inputs old new = PopsTop old new
IsBehind bits (Jump to) inputs old new = new ≡ old

-- ---- successors

-- some member isn't 0
pub record HasOther (s : Span) : Type 0 where
  pub number : ℤ
  pub member : IsMember number s
  pub other : number ≢ pos 0

-- 0 is a member
abbrev pub HasZero : Span → Type 0
HasZero s = IsMember (pos 0) s

-- the interval on top has the property
pub record HasTop (P : Span → Type 0) (frame : SpanFrameView) : Type 0 where
  pub span : Span
  pub rest : List Span
  pub top : frame.stack ≡ span ∷ rest
  pub it : P span

-- The instruction may lead to this index from the abstract state. A conditional jump may take each branch that some
-- member of the interval on top selects.
pub data MayCome : Instr → (from to : ℕ) → SpanFrameView → Type 0 where
  goes_next : {i : Instr} {from to : ℕ} {frame : SpanFrameView} → IsPlain i → to ≡ from + 1 → MayCome i from to frame
  falls_through : {target from to : ℕ} {frame : SpanFrameView} → to ≡ from + 1 → HasTop HasOther frame
      → MayCome (JumpIfZero target) from to frame
  jumps_at_zero : {target from to : ℕ} {frame : SpanFrameView} → to ≡ target → HasTop HasZero frame
      → MayCome (JumpIfZero target) from to frame
  jumps_always : {target from to : ℕ} {frame : SpanFrameView} → to ≡ target → MayCome (Jump target) from to frame

-- ---- possible faults

-- a binary operation may fault on the two intervals on top
pub record StopsOnTwo (bits : ℕ) (op : Operator) (frame : SpanFrameView) (fault : Fault) : Type 0 where
  pub a : Span
  pub b : Span
  pub rest : List Span
  pub taken : frame.stack ≡ b ∷ (a ∷ rest)
  pub cause : IsCause (IsOutcomeOfTwo (operator_value bits op) a b) fault

-- a unary operation may fault on the interval on top
pub record StopsOnOne (bits : ℕ) (op : UnaryOperator) (frame : SpanFrameView) (fault : Fault) : Type 0 where
  pub a : Span
  pub rest : List Span
  pub taken : frame.stack ≡ a ∷ rest
  pub cause : IsCause (IsOutcome (unary_value bits op) a) fault

-- the operation faults on some members of its operands
pub data Stops (bits : ℕ) : Instr → SpanFrameView → Fault → Type 0 where
  on_two : {op : Operator} {frame : SpanFrameView} {fault : Fault} → StopsOnTwo bits op frame fault
      → Stops bits (Binary op) frame fault
  on_one : {op : UnaryOperator} {frame : SpanFrameView} {fault : Fault} → StopsOnOne bits op frame fault
      → Stops bits (Unary op) frame fault

-- ---- states at an instruction

-- the smallest abstract state that contains all these; a local is unset only if it is unset in one of them
pub record IsLeastFrame (led : SpanFrameView → Type 0) (frame : SpanFrameView) : Type 0 where
  pub some : (f : SpanFrameView) × led f
  pub holds : (f : SpanFrameView) → led f → IsFrameWithin f frame
  pub least : (g : SpanFrameView) → ((f : SpanFrameView) → led f → IsFrameWithin f g) → IsFrameWithin frame g
  pub unset : (k : ℕ) → local_of frame k ≡ None → (f : SpanFrameView) × led f × (local_of f k ≡ None)

-- the smallest abstract state that contains all these, or none if there are none
abbrev pub IsFrameOf : (SpanFrameView → Type 0) → Option SpanFrameView → Type 0
IsFrameOf led None = (f : SpanFrameView) → led f → ⊥
IsFrameOf led (Some frame) = IsLeastFrame led frame

-- the instruction here leads this state to an index, from an abstract state that is its own
pub record IsLed (bits : ℕ) (code : List Instr) (inputs : List Span) (IsOwn : SpanFrameView
    → Type 0) (here to : ℕ) (led : SpanFrameView) : Type 0 where
  pub frame : SpanFrameView
  pub own : IsOwn frame
  pub instr : Instr
  pub at : slice_get code here ≡ Some instr
  pub comes : MayCome instr here to frame
  pub behind : IsBehind bits instr inputs frame led

-- the states that instructions below an index lead to another, each from its own least state; runs begin at index 0
abbrev pub comes_below : ℕ → List Instr → List Span → (below to : ℕ) → SpanFrameView → Type 0
comes_below bits code inputs zero to led = (to ≡ 0) × IsStart led
comes_below bits code inputs (suc here) to led =
    comes_below bits code inputs here to led ⊎ IsLed bits code inputs (IsLeastFrame (comes_below bits code inputs here here)) here to led

-- ---- all instructions

-- the instruction is unreachable, or it can be executed without a possible fault
pub data Passes (bits : ℕ) (code : List Instr) (inputs : List Span) (here : ℕ) : Type 0 where
  unreached : ((f : SpanFrameView) → comes_below bits code inputs here here f → ⊥) → Passes bits code inputs here
  led_on : {frame : SpanFrameView} {i : Instr} (new : SpanFrameView)
      → IsLeastFrame (comes_below bits code inputs here here) frame → slice_get code here ≡ Some i → IsBehind bits i inputs frame new
      → Passes bits code inputs here

-- ---- the result on input intervals

-- no fault is possible, and this is the interval of the value at the end
pub record GivesSpan (bits : ℕ) (code : List Instr) (inputs : List Span) (s : Span) : Type 0 where
  pub passes : (at : ℕ) → at < length code → Passes bits code inputs at
  pub frame : SpanFrameView
  pub least : IsLeastFrame (comes_below bits code inputs (length code) (length code)) frame
  pub alone : frame.stack ≡ s ∷ []

-- the first instruction whose operation may fault, and the fault
pub record StopsAt (bits : ℕ) (code : List Instr) (inputs : List Span) (pc : ℕ) (fault : Fault) : Type 0 where
  pub passes : (at : ℕ) → at < pc → Passes bits code inputs at
  pub frame : SpanFrameView
  pub least : IsLeastFrame (comes_below bits code inputs pc pc) frame
  pub instr : Instr
  pub at : slice_get code pc ≡ Some instr
  pub stops : Stops bits instr frame fault
