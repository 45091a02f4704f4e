-- Each abstract state has the stack height of some path, and a local without an interval is unset on some path. So each
-- instruction of well-formed code has its operands, its input or local, and room in the state at its index.
use Rattle.std.proofs.Common.{◌≡◌, ◌≢◌, ℕ, zero, suc, ◌+◌, ◌≤◌, Bool, true, false, List, [], length, replicate, Option, Some, None, refl, sym, ap, ◌∙◌, subst, arith, ⊎_elim, inl, inr, slice_get, slice_index_or, IsSome, get_or-set_other}
use Rattle.std.proofs.lemmas.Bool.{cases_eq}
use Rattle.interval_domain.specs.declared.span.Span.{Span}
use Rattle.kernel_code.specs.declared.instructions.Instr.{Instr}
use Rattle.kernel_code.specs.declared.instructions.Instr.TheVariants.{Push, Input, Keep, Get, Binary, Unary, JumpIfZero, Jump}
use Rattle.kernel_code.specs.Code.{JumpsForward}
use Rattle.kernel_code.specs.Paths.{CanAct, IsPath, MayGo, begins, goes, height_after, set_after}
use Rattle.verifier.specs.Misfits.{IsWellFormed}
use Rattle.kernel_code.proofs.PathLaws.{leads_there}
use Rattle.verifier.specs.Frames.{SpanFrameView, IsAtHand, IsPlain, local_of}
use Rattle.verifier.specs.AbstractStates.{IsBehind, IsFrameOf, IsLeastFrame, MayCome, comes_below, falls_through, goes_next, jumps_always, jumps_at_zero}
use Rattle.verifier.specs.Slices.{CanMeet, IsFollowedTo, Takes, frame_at}
use Rattle.verifier.proofs.Within.{length_within}

-- ---- one instruction

-- the next index is a successor of an instruction that doesn't jump
pub plain_next : (i : Instr) (here to : ℕ) → IsPlain i → to ≡ here + 1 → MayGo i here to
plain_next (JumpIfZero target) here to p e = absurd (p.falls target refl)
plain_next (Jump target) here to p e = absurd (p.jumps target refl)
plain_next _ here to p e = e

may_go : (i : Instr) (from to : ℕ) (frame : SpanFrameView) → MayCome i from to frame → MayGo i from to
may_go i from to frame (goes_next p e) = plain_next i from to p e
may_go i from to frame (falls_through e h) = inl e
may_go i from to frame (jumps_at_zero e h) = inr e
may_go i from to frame (jumps_always e) = e

-- the abstract state after an instruction has the stack height that paths have after the instruction
pub height_behind : (bits : ℕ) (i : Instr) (inputs : List Span) (old new : SpanFrameView) → IsBehind bits i inputs old new → length new.stack ≡ height_after i (length old.stack)
height_behind bits (Keep k) inputs old new b = omega (arith, ap length b.pops.stack, ap length b.sets.stack)
height_behind bits (Binary op) inputs old new b = omega (arith, ap length b.taken, ap length b.given)
height_behind bits (Unary op) inputs old new b = omega (arith, ap length b.taken, ap length b.given)
height_behind bits (JumpIfZero to) inputs old new b = omega (arith, ap length b.pops.stack)
height_behind bits (Jump to) inputs old new b = ap (λ (f : SpanFrameView). length f.stack) b
height_behind bits _ inputs old new b = omega (arith, ap length b.pushes.stack)

same_local : (old new : SpanFrameView) (k : ℕ) → new.locals ≡ old.locals → local_of new k ≡ None → local_of old k ≡ None
same_local old new k e h = sym (ap (λ (l : List (Option Span)). slice_index_or l k None) e) ∙ h

-- if a local has no interval after an instruction, it has none before, and the instruction doesn't set it
unset_behind : (bits : ℕ) (i : Instr) (inputs : List Span) (old new : SpanFrameView) (k : ℕ) (set : List Bool) → IsBehind bits i inputs old new → local_of new k ≡ None
    → (local_of old k ≡ None) × (slice_index_or (set_after i set) k false ≡ slice_index_or set k false)
unset_behind bits (Keep j) inputs old new k set b e =
    ⊎_elim
    (λ (same : k ≡ j). let here = b.sets.here in let there : local_of new j ≡ None = subst (λ (m : ℕ). local_of new m ≡ None) same e in absurd cc)
    (λ (other : k ≢ j). (same_local old b.between k b.pops.locals (sym (b.sets.others k other) ∙ e), get_or-set_other set j k true false other))
    (cases_eq k j)
unset_behind bits (Binary op) inputs old new k set b e = (same_local old new k b.locals e, refl)
unset_behind bits (Unary op) inputs old new k set b e = (same_local old new k b.locals e, refl)
unset_behind bits (JumpIfZero to) inputs old new k set b e = (same_local old new k b.pops.locals e, refl)
unset_behind bits (Jump to) inputs old new k set b e = (same_local old new k (ap (λ (f : SpanFrameView). f.locals) b) e, refl)
unset_behind bits _ inputs old new k set b e = (same_local old new k b.pushes.locals e, refl)

-- ---- paths

-- some path reaches this index with this stack height
abbrev IsReached : List Instr → (at height : ℕ) → Type 0
IsReached code at height = (m : ℕ) × (set : List Bool) × IsPath code m at height set

-- some path reaches this index with the local unset
abbrev IsLeftUnset : List Instr → (at k : ℕ) → Type 0
IsLeftUnset code at k = (m : ℕ) × (height : ℕ) × (set : List Bool) × IsPath code m at height set × (slice_index_or set k false ≡ false)

nothing_set : (n k : ℕ) → slice_index_or (replicate n false) k false ≡ false
nothing_set (suc n) (suc k) = nothing_set n k
nothing_set _ _ = refl

module _ (bits : ℕ) (code : List Instr) (inputs : List Span) where
  reached : (n to : ℕ) (f : SpanFrameView) → comes_below bits code inputs n to f → IsReached code to (length f.stack)
  reached zero to f s =
      (0, replicate 256 false, subst (λ (k : ℕ). IsPath code 0 k (length f.stack) (replicate 256 false)) (sym s.0) (subst (λ (h : ℕ). IsPath code 0 0 h (replicate 256 false)) (sym (ap length s.1.stack)) begins))
  reached (suc n) to f (inl c) = reached n to f c
  reached (suc n) to f (inr l) =
      let h = l.own in
      let up = reached n n h.some.0 h.some.1 in
      let high : length h.some.0.stack ≡ length l.frame.stack = length_within h.some.0.stack l.frame.stack (h.holds h.some.0 h.some.1).stack' in
      let same : height_after l.instr (length h.some.0.stack) ≡ length f.stack = ap (height_after l.instr) high ∙ sym (height_behind bits l.instr inputs l.frame f l.behind) in
      (suc up.0, set_after l.instr up.1, subst (λ (k : ℕ). IsPath code (suc up.0) to k (set_after l.instr up.1)) same (goes up.2 l.at (may_go l.instr n to l.frame l.comes)))

  left_unset : (n to : ℕ) (f : SpanFrameView) (k : ℕ) → comes_below bits code inputs n to f → local_of f k ≡ None → IsLeftUnset code to k
  left_unset zero to f k s e = (0, 0, replicate 256 false, subst (λ (j : ℕ). IsPath code 0 j 0 (replicate 256 false)) (sym s.0) begins, nothing_set 256 k)
  left_unset (suc n) to f k (inl c) e = left_unset n to f k c e
  left_unset (suc n) to f k (inr l) e =
      let h = l.own.unset k (unset_behind bits l.instr inputs l.frame f k [] l.behind e).0 in
      let up = left_unset n n h.0 k h.1 h.2 in
      (suc up.0, height_after l.instr up.1, set_after l.instr up.2, goes up.3 l.at (may_go l.instr n to l.frame l.comes), (unset_behind bits l.instr inputs l.frame f k up.2 l.behind e).1 ∙ up.4)

-- ---- the abstract state at an index

module _ (bits : ℕ) (code : List Instr) (inputs : List Span) (here : ℕ) (old : List (Option SpanFrameView)) (s : IsFollowedTo bits code inputs here old) where
  led_there : (at : ℕ) (f : SpanFrameView) → here ≤ at → frame_at old at ≡ Some f → IsLeastFrame (comes_below bits code inputs here at) f
  led_there at f le e = subst (IsFrameOf (comes_below bits code inputs here at)) e (s.ahead at le)

  height_there : (at : ℕ) (f : SpanFrameView) → here ≤ at → frame_at old at ≡ Some f → IsReached code at (length f.stack)
  height_there at f le e =
      let h = led_there at f le e in
      let up = reached bits code inputs here at h.some.0 h.some.1 in
      subst (IsReached code at) (length_within h.some.0.stack f.stack (h.holds h.some.0 h.some.1).stack') up

  -- in well-formed code the abstract state at an instruction has the operands, input, local and room that it needs
  pub at_hand : (steps : ℕ) (i : Instr) (frame : SpanFrameView) → IsWellFormed code (length inputs) steps → frame_at old here ≡ Some frame → slice_get code here ≡ Some i → IsAtHand i inputs frame
  at_hand steps i frame d e there = at i there (d.misses.acts up.0 here (length frame.stack) up.1 i up.2 there)
    where
      up : IsReached code here (length frame.stack)
      up = height_there here frame (omega arith) e

      is_set : (k : ℕ) (o : Option Span) → local_of frame k ≡ o → slice_get code here ≡ Some (Get k) → IsSome o
      is_set k (Some t) is there = refl
      is_set k None is there =
          let h = (led_there here frame (omega arith) e).unset k is in
          let way = left_unset bits code inputs here here h.0 k h.1 h.2 in
          let can = (d.misses.acts way.0 here way.1 way.2 (Get k) way.3 there).supplied in
          let not = way.4 in
          absurd cc

      at : (i : Instr) → slice_get code here ≡ Some i → CanAct i (length inputs) (length frame.stack) up.1 → IsAtHand i inputs frame
      at (Push v) there can = can.room
      at (Input k) there can = (can.supplied, can.room)
      at (Get k) there can = (is_set k (local_of frame k) refl there, can.room)
      at (Jump to) there can = tt
      at _ there can = can.supplied

  -- in well-formed code the state at a successor, if there is one, has the stack height after the instruction
  pub meets : (steps to height : ℕ) (i : Instr) (frame : SpanFrameView) (between : List (Option SpanFrameView)) → JumpsForward code → IsWellFormed code (length inputs) steps → Takes here (Some frame) old between → slice_get code here ≡ Some i → MayGo i here to → height_after i (length frame.stack) ≡ height → CanMeet (frame_at between to) height
  meets steps to height i frame between forward d t there go high =
      let later = (leads_there code i here to forward there go).0 in
      let up = height_there here frame (omega arith) t.taken in
      at (omega (arith, later)) (goes up.2 there go) (frame_at between to) (sym (t.others to (omega (arith, later))))
    where
      at : {m : ℕ} {set : List Bool} → here ≤ to → IsPath code m to (height_after i (length frame.stack)) set → (o : Option SpanFrameView) → frame_at old to ≡ o → CanMeet o height
      at le path None e = tt
      at le path (Some f) e = let met = height_there to f le e in d.level to _ _ _ _ _ _ met.2 path ∙ high

  -- in well-formed code the abstract state at the end has one interval on its stack
  pub one_left : (steps : ℕ) (frame : SpanFrameView) → IsWellFormed code (length inputs) steps → here ≡ length code → frame_at old here ≡ Some frame → length frame.stack ≡ 1
  one_left steps frame d last e =
      let up = height_there here frame (omega arith) e in
      d.misses.ends up.0 (length frame.stack) up.1 (subst (λ (k : ℕ). IsPath code up.0 k (length frame.stack) up.1) last up.2)
