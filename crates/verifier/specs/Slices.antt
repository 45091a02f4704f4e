-- The abstract states that are kept while the instructions of code are visited in order.
use Rattle.std.specs.Prelude.{◌≡◌, ◌≢◌, ℕ, ◌<◌, ◌≤◌, List, length, pos, Option, Some, None, slice_index_or}
use Rattle.interval_domain.specs.declared.span.Span.{Span}
use Rattle.interval_domain.specs.Spans.{IsMember}
use Rattle.kernel_code.specs.declared.instructions.Instr.{Instr}
use Rattle.verifier.specs.Frames.{SpanFrameView, Pops, Widens}
use Rattle.verifier.specs.AbstractStates.{IsFrameOf, Passes, comes_below}

-- ---- instructions, some with an abstract state

-- the abstract state at an index, if there is one
abbrev pub frame_at : List (Option SpanFrameView) → ℕ → Option SpanFrameView
frame_at states at = slice_index_or states at None

-- the state at this index is removed, and the others stay
pub record Takes (at : ℕ) (frame : Option SpanFrameView) (old new : List (Option SpanFrameView)) : Type 0 where
  pub long : length new ≡ length old
  pub taken : frame_at old at ≡ frame
  pub none : frame_at new at ≡ None
  pub others : (k : ℕ) → k ≢ at → frame_at new k ≡ frame_at old k

-- there is no state at the index, or one with this stack height
abbrev pub CanMeet : Option SpanFrameView → (height : ℕ) → Type 0
CanMeet None height = Unit {0}
CanMeet (Some frame) height = length frame.stack ≡ height

-- the new state is the abstract state, or its join with an earlier one
abbrev pub IsJoined : Option SpanFrameView → SpanFrameView → Option SpanFrameView → Type 0
IsJoined None frame (Some new) = new ≡ frame
IsJoined (Some earlier) frame (Some new) = Widens earlier frame new
IsJoined _ frame None = ⊥

-- an abstract state is joined to the state at an index, and the others stay
pub record Joins (to : ℕ) (frame : SpanFrameView) (old new : List (Option SpanFrameView)) : Type 0 where
  pub long : length new ≡ length old
  pub there : IsJoined (frame_at old to) frame (frame_at new to)
  pub others : (k : ℕ) → k ≢ to → frame_at new k ≡ frame_at old k

-- the condition on top is popped, and the rest joined: to the next instruction if the condition can't be 0, to the
-- target if it is 0, to both if it may be
pub data Branches (next target : ℕ) (frame : SpanFrameView) (old new : List (Option SpanFrameView)) : Type 0 where
  goes_on : {s : Span} {rest : SpanFrameView} → Pops s frame rest → (IsMember (pos 0) s → ⊥) → Joins next rest old new
      → Branches next target frame old new
  jumps : {s : Span} {rest : SpanFrameView} → Pops s frame rest → IsMember (pos 0) s → s.lo ≡ s.hi
      → Joins target rest old new → Branches next target frame old new
  may_jump : {s : Span} {rest : SpanFrameView} {between : List (Option SpanFrameView)}
      → Pops s frame rest → IsMember (pos 0) s → (s.lo ≡ s.hi → ⊥) → Joins next rest old between
      → Joins target rest between new → Branches next target frame old new

-- ---- the states at all instructions

-- the instructions below this one are passed, and every other index has the state that they lead to it
pub record IsFollowedTo (bits : ℕ) (code : List Instr) (inputs : List Span) (here : ℕ) (states : List (Option SpanFrameView)) : Type 0 where
  pub passes : (at : ℕ) → at < here → Passes bits code inputs at
  pub ahead : (at : ℕ) → here ≤ at → IsFrameOf (comes_below bits code inputs here at) (frame_at states at)
