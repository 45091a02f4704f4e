-- A run on inputs in their intervals stays within the abstract states, so it ends with a value in the interval that the
-- analysis gives.
use Rattle.std.proofs.Common.{◌≡◌, ◌≢◌, ℕ, zero, suc, ◌+◌, ◌<◌, ◌≤◌, List, [], ◌∷◌, length, Option, Some, None, Ok, refl, sym, ap, ◌∙◌, subst, arith, ℤ, pos, negsuc, ⊎_elim, inl, inr, true, slice_get, slice_set, slice_index_or, nat_lt}
use Rattle.std.proofs.lemmas.Bool.{cases_eq, cases_lt, lt-ltb}
use Rattle.std.proofs.lemmas.Int.{ints}
use Rattle.std.proofs.lemmas.List.{get_or-set_same, get_or-set_other, length-replicate}
use Rattle.std.proofs.Math.ListN.{length-set}
use Rattle.interval_domain.specs.declared.span.Span.{Span}
use Rattle.interval_domain.specs.Spans.{IsMember}
use Rattle.kernel_code.specs.declared.instructions.Instr.{Instr}
use Rattle.kernel_code.specs.declared.instructions.Instr.TheVariants.{Push, Input, Keep, Get, Binary, Unary, JumpIfZero, Jump}
use Rattle.kernel_code.specs.declared.traps.TrapKind.TheVariants.{MissingInput, MissingLocal}
use Rattle.kernel_code.specs.Code.{JumpsForward}
use Rattle.fixed.specs.Operations.{operator_value, unary_value}
use Rattle.kernel_code.specs.Machine.{State, Ends, act, after, at_zero, branched, given, kept, on_one, on_two, pushed, pushed_if, start}
use Rattle.kernel_code.proofs.Runs.{after_more, ends_there, turn_leads}
use Rattle.verifier.specs.Frames.{SpanFrameView, AreWithin, IsFrameWithin, IsLocalWithin, Pushes, local_of}
use Rattle.verifier.specs.AbstractStates.{GivesSpan, IsBehind, MayCome, Passes, comes_below, falls_through, goes_next, jumps_always, jumps_at_zero, led_on, unreached}

-- ---- stacks and locals within frames

-- each number is in the span at its index
abbrev AreMembers : List ℤ → List Span → Type 0
AreMembers [] [] = Unit {0}
AreMembers (x ∷ xs) (s ∷ spans) = IsMember x s × AreMembers xs spans
AreMembers _ _ = ⊥

-- each span holds the input of its number
pub record AreInputsOf (xs : List ℤ) (spans : List Span) : Type 0 where
  pub each : (k : ℕ) (s : Span) → slice_get spans k ≡ Some s → (x : ℤ) × (slice_get xs k ≡ Some x) × IsMember x s

-- a local that has a span is set, to one of its members
abbrev IsLocalOf : Option ℤ → Option Span → Type 0
IsLocalOf o None = Unit {0}
IsLocalOf None (Some s) = ⊥
IsLocalOf (Some x) (Some s) = IsMember x s

-- the stack and the locals are within the frame
pub record AreIn (frame : SpanFrameView) (stack : List ℤ) (locals : List (Option ℤ)) : Type 0 where
  pub on_stack : AreMembers stack frame.stack
  pub long : length locals ≡ 256
  pub set : (k : ℕ) → IsLocalOf (slice_index_or locals k None) (local_of frame k)

members_within : (xs : List ℤ) (ss ts : List Span) → AreMembers xs ss → AreWithin ss ts → AreMembers xs ts
members_within [] [] [] m w = tt
members_within [] (s ∷ ss) ts m w = absurd m
members_within (x ∷ xs) [] ts m w = absurd m
members_within (x ∷ xs) (s ∷ ss) (t ∷ ts) m w = (w.0.members x m.0, members_within xs ss ts m.1 w.1)
members_within _ _ _ m w = absurd w

local_within : (o : Option ℤ) (s t : Option Span) → IsLocalOf o s → IsLocalWithin s t → IsLocalOf o t
local_within o s None m w = tt
local_within o None (Some t) m w = absurd w
local_within None (Some s) (Some t) m w = absurd m
local_within (Some x) (Some s) (Some t) m w = w.members x m

in_within : (f g : SpanFrameView) (ys : List ℤ) (ls : List (Option ℤ)) → IsFrameWithin f g → AreIn f ys ls → AreIn g ys ls
in_within f g ys ls w m = record {
  on_stack = members_within ys f.stack g.stack m.on_stack w.stack';
  long = m.long;
  set = λ k. local_within (slice_index_or ls k None) (local_of f k) (local_of g k) (m.set k) (w.locals' k);
}

length_members : (xs : List ℤ) (ss : List Span) → AreMembers xs ss → length xs ≡ length ss
length_members [] [] h = refl
length_members (x ∷ xs) (s ∷ ss) h = ap suc (length_members xs ss h.1)
length_members _ _ h = absurd h

tops : (ys : List ℤ) (s : Span) (rest : List Span) → AreMembers ys (s ∷ rest) → (y : ℤ) × (ys' : List ℤ) × (ys ≡ y ∷ ys') × IsMember y s × AreMembers ys' rest
tops [] s rest h = absurd h
tops (y ∷ ys) s rest h = (y, ys, refl, h.0, h.1)

local_set : (o : Option ℤ) (s : Span) → IsLocalOf o (Some s) → (x : ℤ) × (o ≡ Some x) × IsMember x s
local_set None s h = absurd h
local_set (Some x) s h = (x, refl, h)

-- ---- one instruction

same_set : (f g : SpanFrameView) (ls : List (Option ℤ)) → g.locals ≡ f.locals → ((k : ℕ) → IsLocalOf (slice_index_or ls k None) (local_of f k)) → (k : ℕ) → IsLocalOf (slice_index_or ls k None) (local_of g k)
same_set f g ls e h k = subst (λ (l : List (Option Span)). IsLocalOf (slice_index_or ls k None) (slice_index_or l k None)) (sym e) (h k)

push_leads : (x : ℤ) (s : Span) (pc : ℕ) (ys : List ℤ) (ls : List (Option ℤ)) (old new : SpanFrameView) → AreIn old ys ls → Pushes s old new → IsMember x s → (pushed x pc ys ls ≡ Ok (record { pc = pc + 1; stack = x ∷ ys; locals = ls })) × AreIn new (x ∷ ys) ls
push_leads x s pc ys ls old new h p i =
    let room : length ys < 64 = omega (arith, length_members ys old.stack h.on_stack, p.room) in
    let test : nat_lt (length ys) 64 ≡ true = lt-ltb (length ys) 64 room in
    (rw test refl, record { on_stack = subst (AreMembers (x ∷ ys)) (sym p.stack) (i, h.on_stack); long = h.long; set = same_set old new ls p.locals h.set })

-- the instruction acts and leads to a possible successor, with stack and locals within the new abstract state
record Leads (bits : ℕ) (i : Instr) (xs : List ℤ) (here : ℕ) (frame new : SpanFrameView) (ys : List ℤ) (ls : List (Option ℤ)) : Type 0 where
  state : State
  acts : act bits i xs here ys ls ≡ Ok state
  comes : MayCome i here state.pc frame
  within : AreIn new state.stack state.locals

sent_on : (target here : ℕ) (v : ℤ) (s : Span) (frame : SpanFrameView) (rest : List Span) → frame.stack ≡ s ∷ rest → IsMember v s → MayCome (JumpIfZero target) here (at_zero v target (here + 1)) frame
sent_on target here (pos zero) s frame rest e m = jumps_at_zero refl (record { span = s; rest = rest; top = e; it = m })
sent_on target here (pos (suc n)) s frame rest e m = falls_through refl (record { span = s; rest = rest; top = e; it = record { number = pos (suc n); member = m; other = λ z. absurd cc } })
sent_on target here (negsuc n) s frame rest e m = falls_through refl (record { span = s; rest = rest; top = e; it = record { number = negsuc n; member = m; other = λ z. absurd cc } })

leads : (bits : ℕ) (i : Instr) (xs : List ℤ) (inputs : List Span) (here : ℕ) (old new : SpanFrameView) (ys : List ℤ) (ls : List (Option ℤ)) → AreInputsOf xs inputs → AreIn old ys ls → IsBehind bits i inputs old new → Leads bits i xs here old new ys ls
leads bits (Push v) xs inputs here old new ys ls hx h b =
    let one = b.one in
    let m : IsMember v b.span = record { at_least = omega (arith, ints, one.lo'); at_most = omega (arith, ints, one.hi') } in
    let r = push_leads v b.span here ys ls old new h b.pushes m in
    record { state = record { pc = here + 1; stack = v ∷ ys; locals = ls }; acts = r.0; comes = goes_next (record { falls = λ k e. absurd cc; jumps = λ k e. absurd cc }) refl; within = r.1 }
leads bits (Input k) xs inputs here old new ys ls hx h b =
    let g = hx.each k b.span b.there in
    let r = push_leads g.0 b.span here ys ls old new h b.pushes g.2 in
    record { state = record { pc = here + 1; stack = g.0 ∷ ys; locals = ls }; acts = ap (λ o. pushed_if MissingInput o here ys ls) g.1 ∙ r.0; comes = goes_next (record { falls = λ k e. absurd cc; jumps = λ k e. absurd cc }) refl; within = r.1 }
leads bits (Keep k) xs inputs here old new ys ls hx h b =
    let t = tops ys b.span b.between.stack (subst (AreMembers ys) b.pops.stack h.on_stack) in
    let there : k < length ls = omega (arith, h.long, b.few) in
    record {
      state = record { pc = here + 1; stack = t.1; locals = slice_set ls k (Some t.0) };
      acts = ap (λ l. kept k here l ls) t.2;
      comes = goes_next (record { falls = λ k e. absurd cc; jumps = λ k e. absurd cc }) refl;
      within = record {
        on_stack = subst (AreMembers t.1) (sym b.sets.stack) t.4;
        long = length-set ls k (Some t.0) ∙ h.long;
        set =
            λ j.
            ⊎_elim
            (λ (e : j ≡ k). rw (e, get_or-set_same ls k (Some t.0) None there, b.sets.here) t.3)
            (λ (n : j ≢ k). rw (get_or-set_other ls k j (Some t.0) None n, b.sets.others j n) (same_set old b.between ls b.pops.locals h.set j))
            (cases_eq j k);
      };
    }
leads bits (Get k) xs inputs here old new ys ls hx h b =
    let g = local_set (slice_index_or ls k None) b.span (subst (IsLocalOf (slice_index_or ls k None)) b.there (h.set k)) in
    let r = push_leads g.0 b.span here ys ls old new h b.pushes g.2 in
    record { state = record { pc = here + 1; stack = g.0 ∷ ys; locals = ls }; acts = ap (λ o. pushed_if MissingLocal o here ys ls) g.1 ∙ r.0; comes = goes_next (record { falls = λ k e. absurd cc; jumps = λ k e. absurd cc }) refl; within = r.1 }
leads bits (Binary op) xs inputs here old new ys ls hx h b =
    let t = tops ys b.b (b.a ∷ b.rest) (subst (AreMembers ys) b.taken h.on_stack) in
    let u = tops t.1 b.a b.rest t.4 in
    let r = b.least.holds (operator_value bits op u.0 t.0) (record { first = u.0; second = t.0; first_member = u.3; second_member = t.3; outcome = refl }) in
    record {
      state = record { pc = here + 1; stack = r.0 ∷ u.1; locals = ls };
      acts = ap (λ l. on_two bits op here l ls) (t.2 ∙ ap (λ l. t.0 ∷ l) u.2) ∙ ap (λ v. given v here u.1 ls) r.1;
      comes = goes_next (record { falls = λ k e. absurd cc; jumps = λ k e. absurd cc }) refl;
      within = record { on_stack = subst (AreMembers (r.0 ∷ u.1)) (sym b.given) (r.2, u.4); long = h.long; set = same_set old new ls b.locals h.set };
    }
leads bits (Unary op) xs inputs here old new ys ls hx h b =
    let t = tops ys b.a b.rest (subst (AreMembers ys) b.taken h.on_stack) in
    let r = b.least.holds (unary_value bits op t.0) (record { argument = t.0; member = t.3; outcome = refl }) in
    record {
      state = record { pc = here + 1; stack = r.0 ∷ t.1; locals = ls };
      acts = ap (λ l. on_one bits op here l ls) t.2 ∙ ap (λ v. given v here t.1 ls) r.1;
      comes = goes_next (record { falls = λ k e. absurd cc; jumps = λ k e. absurd cc }) refl;
      within = record { on_stack = subst (AreMembers (r.0 ∷ t.1)) (sym b.given) (r.2, t.4); long = h.long; set = same_set old new ls b.locals h.set };
    }
leads bits (JumpIfZero target) xs inputs here old new ys ls hx h b =
    let t = tops ys b.span new.stack (subst (AreMembers ys) b.pops.stack h.on_stack) in
    record {
      state = record { pc = at_zero t.0 target (here + 1); stack = t.1; locals = ls };
      acts = ap (λ l. branched target here l ls) t.2;
      comes = sent_on target here t.0 b.span old new.stack b.pops.stack t.3;
      within = record { on_stack = t.4; long = h.long; set = same_set old new ls b.pops.locals h.set };
    }
leads bits (Jump to) xs inputs here old new ys ls hx h b =
    record { state = record { pc = to; stack = ys; locals = ls }; acts = refl; comes = jumps_always refl; within = subst (λ (f : SpanFrameView). AreIn f ys ls) (sym b) h }

-- ---- whole runs

-- the run on these inputs gives a value in the span
pub record GivesIn (bits : ℕ) (code : List Instr) (xs : List ℤ) (s : Span) : Type 0 where
  pub value : ℤ
  pub n : ℕ
  pub ends : Ends bits code xs n (Ok value)
  pub member : IsMember value s

module _ (bits : ℕ) (code : List Instr) (inputs : List Span) (forward : JumpsForward code) where
  -- after n instructions the machine's state is within an abstract state that is led to its index
  record StandsIn (xs : List ℤ) (n : ℕ) (state : State) : Type 0 where
    reached : after bits code xs n ≡ Some state
    within : state.pc ≤ length code
    frame : SpanFrameView
    comes : comes_below bits code inputs state.pc state.pc frame
    holds : AreIn frame state.stack state.locals

  comes_later : (m n to : ℕ) (f : SpanFrameView) → n ≤ m → comes_below bits code inputs n to f → comes_below bits code inputs m to f
  comes_later zero n to f le c = let e : n ≡ 0 = omega (arith, le) in subst (λ (k : ℕ). comes_below bits code inputs k to f) e c
  comes_later (suc m) n to f le c =
      ⊎_elim
      (λ (e : n ≡ suc m). subst (λ (k : ℕ). comes_below bits code inputs k to f) e c)
      (λ (other : n ≢ suc m). inl (comes_later m n to f (omega (arith, le, other)) c))
      (cases_eq n (suc m))

  -- the next instruction keeps the run within an abstract state, at a higher index
  goes_once : (xs : List ℤ) (n : ℕ) (s : State) → AreInputsOf xs inputs → StandsIn xs n s → s.pc < length code → Passes bits code inputs s.pc → (t : State) × StandsIn xs (suc n) t × (s.pc < t.pc)
  goes_once xs n s hx h lt (unreached none) = absurd (none h.frame h.comes)
  goes_once xs n s hx h lt (led_on {frame = f} {i = i} new least at behind) =
      let l = leads bits i xs inputs s.pc f new s.stack s.locals hx (in_within h.frame f s.stack s.locals (least.holds h.frame h.comes) h.holds) behind in
      let k = turn_leads bits code xs s.pc s.stack s.locals l.state i forward lt at l.acts in (
        l.state,
        record {
          reached = after_more bits code xs n s l.state i h.reached at l.acts;
          within = k.1;
          frame = new;
          comes = comes_later l.state.pc (suc s.pc) l.state.pc new (omega (arith, k.0)) (inr (record { frame = f; own = least; instr = i; at = at; comes = l.comes; behind = behind }));
          holds = l.within;
        },
        k.0,
      )

  abbrev ComesToEnd : List ℤ → Type 0
  ComesToEnd xs = (n : ℕ) × (s : State) × StandsIn xs n s × (s.pc ≡ length code)

  goes_to_end : (xs : List ℤ) → AreInputsOf xs inputs → ((at : ℕ) → at < length code → Passes bits code inputs at) → (left n : ℕ) (s : State) → length code ≤ s.pc + left → StandsIn xs n s → ComesToEnd xs
  goes_to_end xs hx passes zero n s far h = (n, s, h, omega (arith, far, h.within))
  goes_to_end xs hx passes (suc left) n s far h =
      ⊎_elim
      (λ (lt : s.pc < length code). let t = goes_once xs n s hx h lt (passes s.pc lt) in goes_to_end xs hx passes left (suc n) t.0 (omega (arith, far, t.2)) t.1)
      (λ (ge : length code ≤ s.pc). (n, s, h, omega (arith, ge, h.within)))
      (cases_lt s.pc (length code))

  comes_to_end : (xs : List ℤ) → AreInputsOf xs inputs → ((at : ℕ) → at < length code → Passes bits code inputs at) → ComesToEnd xs
  comes_to_end xs hx passes =
      goes_to_end xs hx passes (length code) 0 start (omega arith)
      (record {
        reached = refl;
        within = omega arith;
        frame = record { stack = []; locals = [] };
        comes = (refl, record { stack = refl; unset = λ k. refl });
        holds = record { on_stack = tt; long = length-replicate {A = Option ℤ} 256 None; set = λ k. tt };
      })

  one_member : (ys : List ℤ) (s : Span) → AreMembers ys (s ∷ []) → (v : ℤ) × (ys ≡ v ∷ []) × IsMember v s
  one_member [] s h = absurd h
  one_member (y ∷ []) s h = (y, refl, h.0)
  one_member (y ∷ z ∷ zs) s h = absurd h.1

  -- if the analysis gives an interval for the result, the run on inputs in their intervals gives a value in it
  pub gives_in : (xs : List ℤ) (s : Span) → GivesSpan bits code inputs s → AreInputsOf xs inputs → GivesIn bits code xs s
  gives_in xs s g hx =
      let e = comes_to_end xs hx g.passes in
      let h = e.2 in
      let within = g.least.holds h.frame (subst (λ (k : ℕ). comes_below bits code inputs k k h.frame) e.3 h.comes) in
      let m = in_within h.frame g.frame e.1.stack e.1.locals within h.holds in
      let o = one_member e.1.stack s (subst (AreMembers e.1.stack) g.alone m.on_stack) in
      let st : State = record { pc = e.1.pc; stack = o.0 ∷ []; locals = e.1.locals } in
      let reached : after bits code xs e.0 ≡ Some st = h.reached ∙ ap (λ (l : List ℤ). Some (record { pc = e.1.pc; stack = l; locals = e.1.locals })) o.1 in
      record { value = o.0; n = e.0; ends = ends_there bits code xs e.0 st reached (omega (arith, e.3)); member = o.2 }

  -- some inputs in the input intervals: the least of each
  least : List Span → List ℤ
  least [] = []
  least (s ∷ ss) = s.lo ∷ least ss

  least_in : (ss : List Span) (k : ℕ) (s : Span) → slice_get ss k ≡ Some s → (x : ℤ) × (slice_get (least ss) k ≡ Some x) × IsMember x s
  unfolding least
  least_in [] k s e = absurd cc
  least_in (t ∷ ss) zero s e =
      let same : t ≡ s = cc in
      (t.lo, refl, subst (λ (u : Span). IsMember t.lo u) same (record { at_least = omega (arith, ints); at_most = t.ordered }))
  least_in (t ∷ ss) (suc k) s e = least_in ss k s e

  -- if all instructions are passed, some state is led to the end
  pub some_end : ((at : ℕ) → at < length code → Passes bits code inputs at) → ((f : SpanFrameView) → comes_below bits code inputs (length code) (length code) f → ⊥) → ⊥
  some_end passes none =
      let e = comes_to_end (least inputs) (record { each = least_in inputs }) passes in
      none e.2.frame (subst (λ (k : ℕ). comes_below bits code inputs k k e.2.frame) e.3 e.2.comes)
