-- Frames within frames: an instruction leads from a smaller frame to a smaller one.
use Rattle.std.proofs.Common.{◌≡◌, ◌≢◌, ℕ, suc, List, [], ◌∷◌, length, Option, Some, None, Result, Ok, refl, sym, ap, subst, arith, ⊎_elim, ℤ, pos, slice_get, slice_index_or}
use Rattle.std.proofs.lemmas.Bool.{cases_eq}
use Rattle.std.proofs.lemmas.Int.{ints}
use Rattle.fixed.specs.declared.faults.Fault.{Fault}
use Rattle.interval_domain.specs.declared.span.Span.{Span}
use Rattle.interval_domain.specs.Spans.{IsMember, IsWithin, IsLeastSpan, IsOutcome, IsOutcomeOfTwo}
use Rattle.kernel_code.specs.declared.instructions.Instr.{Instr}
use Rattle.kernel_code.specs.declared.instructions.Instr.TheVariants.{Push, Input, Keep, Get, Binary, Unary, JumpIfZero, Jump}
use Rattle.fixed.specs.Operations.{operator_value, unary_value}
use Rattle.verifier.specs.Frames.{SpanFrameView, AreWithin, IsLocalWithin, IsFrameWithin, local_of, Pushes, Pops, Sets}
use Rattle.verifier.specs.AbstractStates.{HasOther, HasTop, HasZero, IsBehind, IsOne, MayCome, falls_through, goes_next, jumps_always, jumps_at_zero}

-- ---- spans within spans

-- a span is within itself
pub span_refl : (s : Span) → IsWithin s s
span_refl s = record { members = λ x m. m }

-- a span within one that is within a third is within the third
pub span_trans : (s t u : Span) → IsWithin s t → IsWithin t u → IsWithin s u
span_trans s t u p q = record { members = λ x m. q.members x (p.members x m) }

-- a list of intervals within another has the same length
pub length_within : (ss ts : List Span) → AreWithin ss ts → length ss ≡ length ts
length_within [] [] w = refl
length_within (s ∷ ss) (t ∷ ts) w = ap suc (length_within ss ts w.1)
length_within _ _ w = absurd w

stack_refl : (ss : List Span) → AreWithin ss ss
stack_refl [] = tt
stack_refl (s ∷ ss) = (span_refl s, stack_refl ss)

stack_trans : (ss ts us : List Span) → AreWithin ss ts → AreWithin ts us → AreWithin ss us
stack_trans [] [] us p q = q
stack_trans (s ∷ ss) (t ∷ ts) [] p q = absurd q
stack_trans (s ∷ ss) (t ∷ ts) (u ∷ us) p q = (span_trans s t u p.0 q.0, stack_trans ss ts us p.1 q.1)
stack_trans _ _ us p q = absurd p

local_refl : (o : Option Span) → IsLocalWithin o o
local_refl None = tt
local_refl (Some s) = span_refl s

local_trans : (o p q : Option Span) → IsLocalWithin o p → IsLocalWithin p q → IsLocalWithin o q
local_trans o p None h k = tt
local_trans o None (Some t) h k = absurd k
local_trans None (Some s) (Some t) h k = absurd h
local_trans (Some r) (Some s) (Some t) h k = span_trans r s t h k

-- a frame is within itself
pub frame_refl : (f : SpanFrameView) → IsFrameWithin f f
frame_refl f = record { stack' = stack_refl f.stack; locals' = λ k. local_refl (local_of f k) }

-- a frame within one that is within a third is within the third
pub frame_trans : (f g h : SpanFrameView) → IsFrameWithin f g → IsFrameWithin g h → IsFrameWithin f h
frame_trans f g h p q = record { stack' = stack_trans f.stack g.stack h.stack p.stack' q.stack'; locals' = λ k. local_trans (local_of f k) (local_of g k) (local_of h k) (p.locals' k) (q.locals' k) }

-- ---- an instruction on a frame within another

-- each interval of the first list is within the interval at its index in the second
pub record AreInputsWithin (xs ys : List Span) : Type 0 where
  pub each : (k : ℕ) (s : Span) → slice_get xs k ≡ Some s → (t : Span) × (slice_get ys k ≡ Some t) × IsWithin s t

-- the spans of inputs are within themselves
pub inputs_refl : (xs : List Span) → AreInputsWithin xs xs
inputs_refl xs = record { each = λ k s e. (s, e, span_refl s) }

-- if two intervals hold only one number each and the numbers are equal, the first is within the second
pub ones_within : (v w : ℤ) (s t : Span) → v ≡ w → IsOne v s → IsOne w t → IsWithin s t
ones_within v w s t e p q = record { members = λ x m. record { at_least = omega (arith, ints, e, p.lo', q.lo', m.at_least); at_most = omega (arith, ints, e, p.hi', q.hi', m.at_most) } }

-- if a stack is within another, so are lists equal to them
pub same_stacks : (f g : SpanFrameView) (ss ts : List Span) → f.stack ≡ ss → g.stack ≡ ts → AreWithin f.stack g.stack → AreWithin ss ts
same_stacks f g ss ts p q w = subst (λ (l : List Span). AreWithin l ts) p (subst (AreWithin f.stack) q w)

-- if lists equal to two stacks are within each other, so are the stacks
pub from_stacks : (f g : SpanFrameView) (ss ts : List Span) → f.stack ≡ ss → g.stack ≡ ts → AreWithin ss ts → AreWithin f.stack g.stack
from_stacks f g ss ts p q w = subst (λ (l : List Span). AreWithin l g.stack) (sym p) (subst (AreWithin ss) (sym q) w)

same_local : (f g f' g' : SpanFrameView) (k : ℕ) → local_of f' k ≡ local_of f k → local_of g' k ≡ local_of g k → IsLocalWithin (local_of f k) (local_of g k) → IsLocalWithin (local_of f' k) (local_of g' k)
same_local f g f' g' k p q w = subst (λ (o : Option Span). IsLocalWithin o (local_of g' k)) (sym p) (subst (IsLocalWithin (local_of f k)) (sym q) w)

same_locals_of : (f g : SpanFrameView) (k : ℕ) → g.locals ≡ f.locals → local_of g k ≡ local_of f k
same_locals_of f g k e = ap (λ (l : List (Option Span)). slice_index_or l k None) e

pushes_within : (s t : Span) (f f' g g' : SpanFrameView) → IsFrameWithin f f' → IsWithin s t → Pushes s f g → Pushes t f' g' → IsFrameWithin g g'
pushes_within s t f f' g g' w i p q =
    record {
      stack' = from_stacks g g' (s ∷ f.stack) (t ∷ f'.stack) p.stack q.stack (i, w.stack');
      locals' = λ k. same_local f f' g g' k (same_locals_of f g k p.locals) (same_locals_of f' g' k q.locals) (w.locals' k);
    }

-- a span on top, and the rest
pub tops_within : (s t : Span) (ss ts : List Span) (f f' : SpanFrameView) → IsFrameWithin f f' → f.stack ≡ s ∷ ss → f'.stack ≡ t ∷ ts → IsWithin s t × AreWithin ss ts
tops_within s t ss ts f f' w p q = same_stacks f f' (s ∷ ss) (t ∷ ts) p q w.stack'

pops_within : (s t : Span) (f f' g g' : SpanFrameView) → IsFrameWithin f f' → Pops s f g → Pops t f' g' → IsWithin s t × IsFrameWithin g g'
pops_within s t f f' g g' w p q =
    let tops = tops_within s t g.stack g'.stack f f' w p.stack q.stack in
    (tops.0, record { stack' = tops.1; locals' = λ k. same_local f f' g g' k (same_locals_of f g k p.locals) (same_locals_of f' g' k q.locals) (w.locals' k) })

some_within : (s t : Span) (o p : Option Span) → o ≡ Some s → p ≡ Some t → IsLocalWithin o p → IsWithin s t
some_within s t o p e f w = let h : IsLocalWithin (Some s) (Some t) = subst (λ (x : Option Span). IsLocalWithin x (Some t)) e (subst (IsLocalWithin o) f w) in h

within_some : (s t : Span) (o p : Option Span) → o ≡ Some s → p ≡ Some t → IsWithin s t → IsLocalWithin o p
within_some s t o p e f w = subst (λ (x : Option Span). IsLocalWithin x p) (sym e) (subst (IsLocalWithin (Some s)) (sym f) w)

sets_within : (k : ℕ) (s t : Span) (f f' g g' : SpanFrameView) → IsFrameWithin f f' → IsWithin s t → Sets k s f g → Sets k t f' g' → IsFrameWithin g g'
sets_within k s t f f' g g' w i p q =
    record {
      stack' = from_stacks g g' f.stack f'.stack p.stack q.stack w.stack';
      locals' = λ j.
          ⊎_elim
          (λ (e : j ≡ k). subst (λ (n : ℕ). IsLocalWithin (local_of g n) (local_of g' n)) (sym e) (within_some s t (local_of g k) (local_of g' k) p.here q.here i))
          (λ (n : j ≢ k). same_local f f' g g' j (p.others j n) (q.others j n) (w.locals' j))
          (cases_eq j k);
    }

-- an outcome of an operation on members of two intervals is one on members of intervals that they are within
pub outcome_of_two : (op : ℤ → ℤ → Result ℤ Fault) (a b a' b' : Span) (r : Result ℤ Fault) → IsWithin a a' → IsWithin b b' → IsOutcomeOfTwo op a b r → IsOutcomeOfTwo op a' b' r
outcome_of_two op a b a' b' r p q o = record { first = o.first; second = o.second; first_member = p.members o.first o.first_member; second_member = q.members o.second o.second_member; outcome = o.outcome }

-- an outcome of an operation on members of a span is one on members of a span that it is within
pub outcome_of_one : (op : ℤ → Result ℤ Fault) (a a' : Span) (r : Result ℤ Fault) → IsWithin a a' → IsOutcome op a r → IsOutcome op a' r
outcome_of_one op a a' r p o = record { argument = o.argument; member = p.members o.argument o.member; outcome = o.outcome }

held_end : (z x : ℤ) (s : Span) → Ok x ≡ (let r : Result ℤ Fault = Ok z in r) → IsMember z s → IsMember x s
held_end z x s e m = let same : x ≡ z = cc in subst (λ (y : ℤ). IsMember y s) (sym same) m

least_within : (P Q : Result ℤ Fault → Type 0) (s t : Span) → ((r : Result ℤ Fault) → P r → Q r) → IsLeastSpan P s → IsLeastSpan Q t → IsWithin s t
least_within P Q s t f p q =
    let lo = q.holds (Ok s.lo) (f (Ok s.lo) p.low) in
    let hi = q.holds (Ok s.hi) (f (Ok s.hi) p.high) in
    let at_lo : IsMember s.lo t = held_end lo.0 s.lo t lo.1 lo.2 in
    let at_hi : IsMember s.hi t = held_end hi.0 s.hi t hi.1 hi.2 in
    record { members = λ x m. record { at_least = omega (arith, ints, at_lo.at_least, m.at_least); at_most = omega (arith, ints, at_hi.at_most, m.at_most) } }

-- the state after an instruction is monotone in the state before it and in the inputs
pub behind_within : (bits : ℕ) (i : Instr) (xs ys : List Span) (f f' g g' : SpanFrameView) → AreInputsWithin xs ys → IsFrameWithin f f' → IsBehind bits i xs f g → IsBehind bits i ys f' g' → IsFrameWithin g g'
behind_within bits (Push v) xs ys f f' g g' n w p q = pushes_within p.span q.span f f' g g' w (ones_within v v p.span q.span refl p.one q.one) p.pushes q.pushes
behind_within bits (Input k) xs ys f f' g g' n w p q =
    let h = n.each k p.span p.there in
    let there = q.there in
    let at = h.1 in
    let same : h.0 ≡ q.span = cc in
    pushes_within p.span q.span f f' g g' w (subst (IsWithin p.span) same h.2) p.pushes q.pushes
behind_within bits (Keep k) xs ys f f' g g' n w p q =
    let t = pops_within p.span q.span f f' p.between q.between w p.pops q.pops in
    sets_within k p.span q.span p.between q.between g g' t.1 t.0 p.sets q.sets
behind_within bits (Get k) xs ys f f' g g' n w p q = pushes_within p.span q.span f f' g g' w (some_within p.span q.span (local_of f k) (local_of f' k) p.there q.there (w.locals' k)) p.pushes q.pushes
behind_within bits (Binary op) xs ys f f' g g' n w p q =
    let top = tops_within p.b q.b (p.a ∷ p.rest) (q.a ∷ q.rest) f f' w p.taken q.taken in
    let i : IsWithin p.s q.s = least_within (IsOutcomeOfTwo (operator_value bits op) p.a p.b) (IsOutcomeOfTwo (operator_value bits op) q.a q.b) p.s q.s (λ r o. outcome_of_two (operator_value bits op) p.a p.b q.a q.b r top.1.0 top.0 o) p.least q.least in
    record {
      stack' = from_stacks g g' (p.s ∷ p.rest) (q.s ∷ q.rest) p.given q.given (i, top.1.1);
      locals' = λ k. same_local f f' g g' k (same_locals_of f g k p.locals) (same_locals_of f' g' k q.locals) (w.locals' k);
    }
behind_within bits (Unary op) xs ys f f' g g' n w p q =
    let top = tops_within p.a q.a p.rest q.rest f f' w p.taken q.taken in
    let i : IsWithin p.s q.s = least_within (IsOutcome (unary_value bits op) p.a) (IsOutcome (unary_value bits op) q.a) p.s q.s (λ r o. outcome_of_one (unary_value bits op) p.a q.a r top.0 o) p.least q.least in
    record {
      stack' = from_stacks g g' (p.s ∷ p.rest) (q.s ∷ q.rest) p.given q.given (i, top.1);
      locals' = λ k. same_local f f' g g' k (same_locals_of f g k p.locals) (same_locals_of f' g' k q.locals) (w.locals' k);
    }
behind_within bits (JumpIfZero to) xs ys f f' g g' n w p q = (pops_within p.span q.span f f' g g' w p.pops q.pops).1
behind_within bits (Jump to) xs ys f f' g g' n w p q = subst (λ (x : SpanFrameView). IsFrameWithin x g') (sym p) (subst (IsFrameWithin f) (sym q) w)

-- ---- successors from a smaller state

top_within : (P : Span → Type 0) (f g : SpanFrameView) → IsFrameWithin f g → ((s t : Span) → IsWithin s t → P s → P t) → HasTop P f → HasTop P g
top_within P f g w mono h = at g.stack refl
  where
    at : (l : List Span) → g.stack ≡ l → HasTop P g
    at [] e = absurd (same_stacks f g (h.span ∷ h.rest) [] h.top e w.stack')
    at (t ∷ ts) e = let v = same_stacks f g (h.span ∷ h.rest) (t ∷ ts) h.top e w.stack' in record { span = t; rest = ts; top = e; it = mono h.span t v.0 h.it }

other_within : (s t : Span) → IsWithin s t → HasOther s → HasOther t
other_within s t w h = record { number = h.number; member = w.members h.number h.member; other = h.other }

zero_within : (s t : Span) → IsWithin s t → HasZero s → HasZero t
zero_within s t w h = w.members (pos 0) h

-- if an instruction may lead to an index from a state, it may lead there from any larger state
pub come_within : (i : Instr) (from to : ℕ) (f g : SpanFrameView) → IsFrameWithin f g → MayCome i from to f → MayCome i from to g
come_within i from to f g w (goes_next p e) = goes_next p e
come_within i from to f g w (falls_through e h) = falls_through e (top_within HasOther f g w other_within h)
come_within i from to f g w (jumps_at_zero e h) = jumps_at_zero e (top_within HasZero f g w zero_within h)
come_within i from to f g w (jumps_always e) = jumps_always e
