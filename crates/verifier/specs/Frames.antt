-- Abstract states: intervals that contain the stack and the locals of all runs at one instruction.
use Rattle.std.specs.Prelude.{◌≡◌, ◌≢◌, ℕ, ◌<◌, ◌≤◌, ◌⊎◌, List, [], ◌∷◌, length, Option, Some, None, IsSome, slice_index_or}
use Rattle.interval_domain.specs.declared.span.Span.{Span}
use Rattle.interval_domain.specs.Spans.{IsWithin, IsLeastSpan, IsOutcome, IsOutcomeOfTwo}
use Rattle.kernel_code.specs.declared.instructions.Instr.{Instr}
use Rattle.kernel_code.specs.declared.instructions.Instr.TheVariants.{Push, Input, Get, Binary, JumpIfZero, Jump}
use Rattle.fixed.specs.declared.operations.Operator.{Operator}
use Rattle.fixed.specs.declared.operations.UnaryOperator.{UnaryOperator}
use Rattle.fixed.specs.Operations.{operator_value, unary_value}

-- an interval for each value on the stack, its top first, and for each local that is set on all paths
pub record SpanFrameView : Type 0 where
  pub stack : List Span
  pub locals : List (Option Span)

-- the interval of local k; None if it may be unset
abbrev pub local_of : SpanFrameView → ℕ → Option Span
local_of frame k = slice_index_or frame.locals k None

-- an empty stack, and no local set
pub record IsStart (frame : SpanFrameView) : Type 0 where
  pub stack : frame.stack ≡ []
  pub unset : (k : ℕ) → local_of frame k ≡ None

-- ---- the order of abstract states

-- each interval is within the one at its index
abbrev pub AreWithin : List Span → List Span → Type 0
AreWithin [] [] = Unit {0}
AreWithin (s ∷ ss) (t ∷ ts) = IsWithin s t × AreWithin ss ts
AreWithin _ _ = ⊥

-- a local with an interval in the second state has one within it in the first
abbrev pub IsLocalWithin : Option Span → Option Span → Type 0
IsLocalWithin s None = Unit {0}
IsLocalWithin None (Some t) = ⊥
IsLocalWithin (Some s) (Some t) = IsWithin s t

-- the first abstract state is within the second
pub record IsFrameWithin (f g : SpanFrameView) : Type 0 where
  pub stack' : AreWithin f.stack g.stack
  pub locals' : (k : ℕ) → IsLocalWithin (local_of f k) (local_of g k)

-- ---- joins

-- the join of two lists of intervals: the smallest that contains both
pub record WidensSpans (old other new : List Span) : Type 0 where
  pub first : AreWithin old new
  pub second : AreWithin other new
  pub least : (ts : List Span) → AreWithin old ts → AreWithin other ts → AreWithin new ts

-- the join of a local's intervals; it is unset only if it is unset in one of them
pub record WidensLocal (old other new : Option Span) : Type 0 where
  pub first : IsLocalWithin old new
  pub second : IsLocalWithin other new
  pub least : (t : Option Span) → IsLocalWithin old t → IsLocalWithin other t → IsLocalWithin new t
  pub unset : new ≡ None → (old ≡ None) ⊎ (other ≡ None)

pub record WidensLocals (old other new : List (Option Span)) : Type 0 where
  pub each : (k : ℕ) → WidensLocal (slice_index_or old k None) (slice_index_or other k None) (slice_index_or new k None)

-- the join of two abstract states: the smallest that contains both; a local is unset only if it is unset in one
pub record Widens (old other new : SpanFrameView) : Type 0 where
  pub first : IsFrameWithin old new
  pub second : IsFrameWithin other new
  pub least : (g : SpanFrameView) → IsFrameWithin old g → IsFrameWithin other g → IsFrameWithin new g
  pub unset : (k : ℕ) → local_of new k ≡ None → (local_of old k ≡ None) ⊎ (local_of other k ≡ None)

-- ---- changes of an abstract state

-- an interval is pushed
pub record Pushes (s : Span) (old new : SpanFrameView) : Type 0 where
  pub room : length old.stack < 64
  pub stack : new.stack ≡ s ∷ old.stack
  pub locals : new.locals ≡ old.locals

-- the interval on top is popped
pub record Pops (s : Span) (old new : SpanFrameView) : Type 0 where
  pub stack : old.stack ≡ s ∷ new.stack
  pub locals : new.locals ≡ old.locals

-- the local has this interval, and all others stay
pub record Sets (k : ℕ) (s : Span) (old new : SpanFrameView) : Type 0 where
  pub stack : new.stack ≡ old.stack
  pub here : local_of new k ≡ Some s
  pub others : (j : ℕ) → j ≢ k → local_of new j ≡ local_of old j

-- a binary operation replaces two intervals by the smallest that contains its values on their members
pub record AppliesBinary (bits : ℕ) (op : Operator) (old new : SpanFrameView) : Type 0 where
  pub a : Span
  pub b : Span
  pub s : Span
  pub rest : List Span
  pub taken : old.stack ≡ b ∷ (a ∷ rest)
  pub least : IsLeastSpan (IsOutcomeOfTwo (operator_value bits op) a b) s
  pub given : new.stack ≡ s ∷ rest
  pub locals : new.locals ≡ old.locals

-- a unary operation replaces an interval by the smallest that contains its values on the members
pub record AppliesUnary (bits : ℕ) (op : UnaryOperator) (old new : SpanFrameView) : Type 0 where
  pub a : Span
  pub s : Span
  pub rest : List Span
  pub taken : old.stack ≡ a ∷ rest
  pub least : IsLeastSpan (IsOutcome (unary_value bits op) a) s
  pub given : new.stack ≡ s ∷ rest
  pub locals : new.locals ≡ old.locals

-- ---- one instruction

-- the instruction isn't a jump
pub record IsPlain (i : Instr) : Type 0 where
  pub falls : (to : ℕ) → i ≡ JumpIfZero to → ⊥
  pub jumps : (to : ℕ) → i ≡ Jump to → ⊥

-- the operands, the input or the local that the instruction needs are present, and room for the value that it pushes
abbrev pub IsAtHand : Instr → List Span → SpanFrameView → Type 0
IsAtHand (Push v) inputs frame = length frame.stack < 64
IsAtHand (Input k) inputs frame = (k < length inputs) × (length frame.stack < 64)
IsAtHand (Get k) inputs frame = IsSome (local_of frame k) × (length frame.stack < 64)
IsAtHand (Binary op) inputs frame = 2 ≤ length frame.stack
IsAtHand (Jump to) inputs frame = Unit {0}
IsAtHand _ inputs frame = 1 ≤ length frame.stack
