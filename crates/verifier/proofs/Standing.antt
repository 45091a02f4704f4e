-- The invariant of the interval analysis (`IsFollowedTo`), from one instruction to the next.
use Rattle.std.proofs.Common.{◌≡◌, ◌≢◌, ℕ, suc, ◌+◌, ◌<◌, List, [], ◌∷◌, length, Option, Some, None, refl, sym, ap, ◌∙◌, subst, arith, ⊎_elim, inl, inr, pos, below_more, ◌⊎◌, slice_get}
use Rattle.std.proofs.lemmas.Bool.{cases_eq}
use Rattle.std.proofs.lemmas.Int.{by_lt_z, ints}
use Rattle.std.proofs.lemmas.List.{nil_from_length}
use Rattle.fixed.specs.declared.faults.Fault.{Fault}
use Rattle.interval_domain.specs.declared.span.Span.{Span}
use Rattle.kernel_code.specs.declared.instructions.Instr.{Instr}
use Rattle.kernel_code.specs.declared.instructions.Instr.TheVariants.{JumpIfZero, Jump}
use Rattle.verifier.specs.Frames.{SpanFrameView, IsLocalWithin, IsFrameWithin, IsPlain, IsStart, Pops, local_of}
use Rattle.verifier.specs.AbstractStates.{GivesSpan, HasOther, HasTop, HasZero, IsBehind, IsFrameOf, IsLeastFrame, IsLed, MayCome, Passes, Stops, StopsAt, comes_below, falls_through, goes_next, jumps_always, jumps_at_zero, led_on, unreached}
use Rattle.verifier.specs.Slices.{Branches, IsJoined, Joins, IsFollowedTo, Takes, frame_at, goes_on, jumps, may_jump}
use Rattle.verifier.proofs.Within.{behind_within, come_within, frame_trans, from_stacks, inputs_refl}

-- ---- joins

-- if one more state is led to an index, the join with it is the least state there
pub joined_state : (led led' : SpanFrameView → Type 0) (g : SpanFrameView) (o o' : Option SpanFrameView) → ((f : SpanFrameView) → led f → led' f) → ((f : SpanFrameView) → led' f → led f ⊎ IsFrameWithin f g) → led' g → IsFrameOf led o → IsJoined o g o' → IsFrameOf led' o'
joined_state led led' g None None up down mine before j = absurd j
joined_state led led' g None (Some new) up down mine before j =
    subst (IsLeastFrame led') (sym j)
    (record {
      some = (g, mine);
      holds = λ f l. ⊎_elim (λ (x : led f). absurd (before f x)) (λ (x : IsFrameWithin f g). x) (down f l);
      least = λ h all. all g mine;
      unset = λ k e. (g, mine, e);
    })
joined_state led led' g (Some e) None up down mine before j = absurd j
joined_state led led' g (Some e) (Some new) up down mine before j =
    record {
      some = (g, mine);
      holds = λ f l. ⊎_elim (λ (x : led f). frame_trans f e new (before.holds f x) j.first) (λ (x : IsFrameWithin f g). frame_trans f g new x j.second) (down f l);
      least = λ h all. j.least h (before.least h (λ f x. all f (up f x))) (all g mine);
      unset = λ k none.
          ⊎_elim
          (λ (x : local_of e k ≡ None). let u = before.unset k x in (u.0, up u.0 u.1, u.2))
          (λ (x : local_of g k ≡ None). (g, mine, x))
          (j.unset k none);
    }

-- if the same states are led to an index, its least state is the same
pub same_state : (led led' : SpanFrameView → Type 0) (o : Option SpanFrameView) → ((f : SpanFrameView) → led f → led' f) → ((f : SpanFrameView) → led' f → led f) → IsFrameOf led o → IsFrameOf led' o
same_state led led' None up down before = λ f l. before f (down f l)
same_state led led' (Some e) up down before =
    record {
      some = (before.some.0, up before.some.0 before.some.1);
      holds = λ f l. before.holds f (down f l);
      least = λ h all. before.least h (λ f x. all f (up f x));
      unset = λ k none. let u = before.unset k none in (u.0, up u.0 u.1, u.2);
    }

-- ---- possible successors

plain_only : (i : Instr) (here to : ℕ) (frame : SpanFrameView) → IsPlain i → MayCome i here to frame → to ≡ here + 1
plain_only i here to frame p (goes_next q e) = e
plain_only i here to frame p (falls_through e h) = e
plain_only i here to frame p (jumps_at_zero {target = target} e h) = absurd (p.falls target refl)
plain_only i here to frame p (jumps_always {target = target} e) = absurd (p.jumps target refl)

jump_only : (target here to : ℕ) (frame : SpanFrameView) → MayCome (Jump target) here to frame → to ≡ target
jump_only target here to frame (goes_next q e) = absurd (q.jumps target refl)
jump_only target here to frame (jumps_always e) = e

ways : (here target to : ℕ) (frame : SpanFrameView) → MayCome (JumpIfZero target) here to frame → ((to ≡ here + 1) × HasTop HasOther frame) ⊎ ((to ≡ target) × HasTop HasZero frame)
ways here target to frame (goes_next q e) = absurd (q.falls target refl)
ways here target to frame (falls_through e h) = inl (e, h)
ways here target to frame (jumps_at_zero e h) = inr (e, h)

-- ---- one index more

module _ (bits : ℕ) (code : List Instr) (inputs : List Span) where
  start_within : (f g : SpanFrameView) → IsStart f → IsStart g → IsFrameWithin f g
  start_within f g s t =
      record {
        stack' = from_stacks f g [] [] s.stack t.stack tt;
        locals' = λ k. subst (IsLocalWithin (local_of f k)) (sym (t.unset k)) tt;
      }

  -- the invariant holds at the start: index 0 has the start's state, and no other index has a state
  pub stands_first : (frame : SpanFrameView) (old new : List (Option SpanFrameView)) → IsStart frame → ((at : ℕ) → frame_at old at ≡ None) → Joins 0 frame old new → IsFollowedTo bits code inputs 0 new
  stands_first frame old new start none j =
      record {
        passes = λ at lt. absurd (omega (arith, lt));
        ahead = λ at le.
            ⊎_elim
            (λ (e : at ≡ 0).
            subst (λ (k : ℕ). IsFrameOf (comes_below bits code inputs 0 k) (frame_at new k)) (sym e)
            (joined_state (λ f. ⊥) (comes_below bits code inputs 0 0) frame (frame_at old 0) (frame_at new 0) (λ f x. absurd x) (λ f l. inr (start_within f frame l.1 start)) (refl, start) (subst (IsFrameOf (λ f. ⊥)) (sym (none 0)) (λ f x. x)) j.there))
            (λ (n : at ≢ 0). subst (IsFrameOf (comes_below bits code inputs 0 at)) (sym (j.others at n ∙ none at)) (λ f l. n l.0))
            (cases_eq at 0);
      }

  -- ---- an index is passed

  next_index : (here : ℕ) (states : List (Option SpanFrameView)) → IsFollowedTo bits code inputs (suc here) states → IsFollowedTo bits code inputs (here + 1) states
  next_index here states s = let e : suc here ≡ here + 1 = omega arith in subst (λ (k : ℕ). IsFollowedTo bits code inputs k states) e s

  -- if there is no state at an index, the invariant holds at the next index
  pub stands_past : (here : ℕ) (old new : List (Option SpanFrameView)) → IsFollowedTo bits code inputs here old → Takes here None old new → IsFollowedTo bits code inputs (here + 1) new
  stands_past here old new s t =
      let now : IsFrameOf (comes_below bits code inputs here here) None = subst (IsFrameOf (comes_below bits code inputs here here)) t.taken (s.ahead here (omega arith)) in
      next_index here new
      (record {
        passes = λ at lt. below_more (Passes bits code inputs) here s.passes (unreached now) at (omega (arith, lt));
        ahead = λ at le.
            subst (IsFrameOf (comes_below bits code inputs (suc here) at)) (sym (t.others at (omega (arith, le))))
            (same_state (comes_below bits code inputs here at) (comes_below bits code inputs (suc here) at) (frame_at old at)
            (λ f l. inl l)
            (λ f l. ⊎_elim (λ (x : comes_below bits code inputs here at f). x) (λ (x : IsLed bits code inputs (IsLeastFrame (comes_below bits code inputs here here)) here at f). absurd (now x.own.some.0 x.own.some.1)) l)
            (s.ahead at (omega (arith, le))));
      })

  -- the state after the instruction is joined, once or twice, at an index that it may lead to; other entries stay
  pub data IsSpread (i : Instr) (here at : ℕ) (frame led : SpanFrameView) (old new : Option SpanFrameView) : Type 0 where
    not : (MayCome i here at frame → ⊥) → new ≡ old → IsSpread i here at frame led old new
    once : MayCome i here at frame → IsJoined old led new → IsSpread i here at frame led old new
    twice : (between : Option SpanFrameView) → MayCome i here at frame → IsJoined old led between → IsJoined between led new → IsSpread i here at frame led old new

  spread_state : (here at : ℕ) (i : Instr) (frame led : SpanFrameView) (o o' : Option SpanFrameView) → slice_get code here ≡ Some i → IsLeastFrame (comes_below bits code inputs here here) frame → IsBehind bits i inputs frame led
      → IsFrameOf (comes_below bits code inputs here at) o → IsSpread i here at frame led o o' → IsFrameOf (comes_below bits code inputs (suc here) at) o'
  spread_state here at i frame led o o' there least behind before spread = by spread
    where
      old : SpanFrameView → Type 0
      old = comes_below bits code inputs here at

      new : SpanFrameView → Type 0
      new = comes_below bits code inputs (suc here) at

      here' : SpanFrameView → Type 0
      here' = IsLed bits code inputs (IsLeastFrame (comes_below bits code inputs here here)) here at

      -- each state that the instruction here leads to `at` is within `led`
      only : (f : SpanFrameView) → here' f → MayCome i here at frame × IsFrameWithin f led
      only f x =
          let at' = x.at in
          let same : x.instr ≡ i = cc in
          let within = x.own.least frame least.holds in
          let comes = subst (λ (j : Instr). MayCome j here at x.frame) same x.comes in
          let b = subst (λ (j : Instr). IsBehind bits j inputs x.frame f) same x.behind in
          (come_within i here at x.frame frame within comes, behind_within bits i inputs inputs x.frame frame f led (inputs_refl inputs) within b behind)

      down : (f : SpanFrameView) → new f → old f ⊎ IsFrameWithin f led
      down f l = ⊎_elim (λ (x : old f). inl x) (λ (x : here' f). inr (only f x).1) l

      mine : MayCome i here at frame → new led
      mine comes = inr (record { frame = frame; own = least; instr = i; at = there; comes = comes; behind = behind })

      by : IsSpread i here at frame led o o' → IsFrameOf new o'
      by (not none same) = subst (IsFrameOf new) (sym same) (same_state old new o (λ f l. inl l) (λ f l. ⊎_elim (λ (x : old f). x) (λ (x : here' f). absurd (none (only f x).0)) l) before)
      by (once comes j) = joined_state old new led o o' (λ f l. inl l) down (mine comes) before j
      by (twice between comes j k) =
          let first = joined_state old new led o between (λ f l. inl l) down (mine comes) before j in
          joined_state new new led between o' (λ f l. l) (λ f l. inl l) (mine comes) first k

  taken_here : (here : ℕ) (frame : SpanFrameView) (old new : List (Option SpanFrameView)) → IsFollowedTo bits code inputs here old → Takes here (Some frame) old new → IsLeastFrame (comes_below bits code inputs here here) frame
  taken_here here frame old new s t = subst (IsFrameOf (comes_below bits code inputs here here)) t.taken (s.ahead here (omega arith))

  -- if the state after an instruction is joined at each possible successor, the invariant holds at the next index
  pub stands_on : (here : ℕ) (i : Instr) (frame led : SpanFrameView) (old between new : List (Option SpanFrameView)) → IsFollowedTo bits code inputs here old → Takes here (Some frame) old between → slice_get code here ≡ Some i → IsBehind bits i inputs frame led
      → ((at : ℕ) → here < at → IsSpread i here at frame led (frame_at between at) (frame_at new at)) → IsFollowedTo bits code inputs (here + 1) new
  stands_on here i frame led old between new s t there behind spread =
      let least = taken_here here frame old between s t in
      next_index here new
      (record {
        passes = λ at lt. below_more (Passes bits code inputs) here s.passes (led_on led least there behind) at (omega (arith, lt));
        ahead = λ at le.
            let before = subst (IsFrameOf (comes_below bits code inputs here at)) (sym (t.others at (omega (arith, le)))) (s.ahead at (omega (arith, le))) in
            spread_state here at i frame led (frame_at between at) (frame_at new at) there least behind before (spread at (omega (arith, le)));
      })

  spread_by : (i : Instr) (here to at : ℕ) (frame led : SpanFrameView) (old new : List (Option SpanFrameView)) → (at ≡ to → MayCome i here at frame) → (MayCome i here at frame → at ≡ to) → Joins to led old new → IsSpread i here at frame led (frame_at old at) (frame_at new at)
  spread_by i here to at frame led old new f g j =
      ⊎_elim
      (λ (e : at ≡ to). once (f e) (subst (λ (k : ℕ). IsJoined (frame_at old k) led (frame_at new k)) (sym e) j.there))
      (λ (n : at ≢ to). not (λ m. n (g m)) (j.others at n))
      (cases_eq at to)

  -- if the state after an instruction that doesn't jump is joined at the next index, the invariant holds there
  pub stands_plain : (here : ℕ) (i : Instr) (frame led : SpanFrameView) (old between new : List (Option SpanFrameView)) → IsFollowedTo bits code inputs here old → Takes here (Some frame) old between → slice_get code here ≡ Some i → IsPlain i → IsBehind bits i inputs frame led → Joins (here + 1) led between new
      → IsFollowedTo bits code inputs (here + 1) new
  stands_plain here i frame led old between new s t there p b j =
      stands_on here i frame led old between new s t there b (λ at lt. spread_by i here (here + 1) at frame led between new (λ e. goes_next p e) (λ m. plain_only i here at frame p m) j)

  -- if the state at a jump is joined at its target, the invariant holds at the next index
  pub stands_jump : (here to : ℕ) (frame : SpanFrameView) (old between new : List (Option SpanFrameView)) → IsFollowedTo bits code inputs here old → Takes here (Some frame) old between → slice_get code here ≡ Some (Jump to) → Joins to frame between new → IsFollowedTo bits code inputs (here + 1) new
  stands_jump here to frame old between new s t there j = stands_on here (Jump to) frame frame old between new s t there refl (λ at lt. spread_by (Jump to) here to at frame frame between new (λ e. jumps_always e) (λ m. jump_only to here at frame m) j)

  -- a jump at 0

  top_of : (P Q : Span → Type 0) (s : Span) (frame rest : SpanFrameView) → Pops s frame rest → HasTop P frame → P s
  top_of P Q s frame rest p h =
      let stack = p.stack in
      let top = h.top in
      let same : h.span ≡ s = cc in
      subst P same h.it

  has_top : (P : Span → Type 0) (s : Span) (frame rest : SpanFrameView) → Pops s frame rest → P s → HasTop P frame
  has_top P s frame rest p h = record { span = s; rest = rest.stack; top = p.stack; it = h }

  -- a member that isn't 0
  lo_other : (s : Span) → (HasZero s → ⊥) → HasOther s
  lo_other s none =
      record {
        number = s.lo;
        member = record { at_least = omega (arith, ints); at_most = s.ordered };
        other = λ e. none (record { at_least = omega (arith, ints, e); at_most = let o = s.ordered in omega (arith, ints, e, o) });
      }

  two_other : (s : Span) → (s.lo ≡ s.hi → ⊥) → HasOther s
  two_other s two =
      by_lt_z {P = HasOther s} s.lo (pos 0)
      (λ lt. record { number = s.lo; member = record { at_least = omega (arith, ints); at_most = s.ordered }; other = λ e. absurd (omega (arith, ints, e, lt)) })
      (λ le. record { number = s.hi; member = record { at_least = s.ordered; at_most = omega (arith, ints) }; other = λ e. two (let o = s.ordered in omega (arith, ints, e, o, le)) })

  one_none : (s : Span) → HasZero s → s.lo ≡ s.hi → HasOther s → ⊥
  one_none s z e h =
      let m = h.member in
      h.other (omega (arith, ints, z.at_least, z.at_most, e, m.at_least, m.at_most))

  -- if a conditional jump may take both branches, joins at both indices spread the popped state
  spread_both : (here target at : ℕ) (frame rest : SpanFrameView) (old between new : List (Option SpanFrameView)) → HasTop HasOther frame → HasTop HasZero frame → Joins (here + 1) rest old between → Joins target rest between new
      → IsSpread (JumpIfZero target) here at frame rest (frame_at old at) (frame_at new at)
  spread_both here target at frame rest old between new away here' j k =
      ⊎_elim
      (λ (e : at ≡ here + 1).
      let first : IsJoined (frame_at old at) rest (frame_at between at) = subst (λ (n : ℕ). IsJoined (frame_at old n) rest (frame_at between n)) (sym e) j.there in
      ⊎_elim
      (λ (f : at ≡ target).
      twice (frame_at between at) (falls_through e away) first (subst (λ (n : ℕ). IsJoined (frame_at between n) rest (frame_at new n)) (sym f) k.there))
      (λ (n : at ≢ target). once (falls_through e away) (subst (IsJoined (frame_at old at) rest) (sym (k.others at n)) first))
      (cases_eq at target))
      (λ (m : at ≢ here + 1).
      ⊎_elim
      (λ (f : at ≡ target).
      let second : IsJoined (frame_at between at) rest (frame_at new at) = subst (λ (n : ℕ). IsJoined (frame_at between n) rest (frame_at new n)) (sym f) k.there in
      once (jumps_at_zero f here') (subst (λ (o : Option SpanFrameView). IsJoined o rest (frame_at new at)) (j.others at m) second))
      (λ (n : at ≢ target). not (λ c. ⊎_elim (λ (x : (at ≡ here + 1) × HasTop HasOther frame). m x.0) (λ (x : (at ≡ target) × HasTop HasZero frame). n x.0) (ways here target at frame c)) (k.others at n ∙ j.others at m))
      (cases_eq at target))
      (cases_eq at (here + 1))

  spread_branch : (here target at : ℕ) (frame : SpanFrameView) (old new : List (Option SpanFrameView)) → Branches (here + 1) target frame old new → (led : SpanFrameView) × IsBehind bits (JumpIfZero target) inputs frame led × ((at : ℕ) → here < at → IsSpread (JumpIfZero target) here at frame led (frame_at old at) (frame_at new at))
  spread_branch here target at frame old new (goes_on {s = s} {rest = rest} p without j) = (
    rest,
    record { span = s; pops = p },
    λ at lt.
        spread_by (JumpIfZero target) here (here + 1) at frame rest old new
        (λ e. falls_through e (has_top HasOther s frame rest p (lo_other s without)))
        (λ c. ⊎_elim (λ (x : (at ≡ here + 1) × HasTop HasOther frame). x.0) (λ (x : (at ≡ target) × HasTop HasZero frame). absurd (without (top_of HasZero HasZero s frame rest p x.1))) (ways here target at frame c))
        j,
  )
  spread_branch here target at frame old new (jumps {s = s} {rest = rest} p holds single j) = (
    rest,
    record { span = s; pops = p },
    λ at lt.
        spread_by (JumpIfZero target) here target at frame rest old new
        (λ e. jumps_at_zero e (has_top HasZero s frame rest p holds))
        (λ c. ⊎_elim (λ (x : (at ≡ here + 1) × HasTop HasOther frame). absurd (one_none s holds single (top_of HasOther HasOther s frame rest p x.1))) (λ (x : (at ≡ target) × HasTop HasZero frame). x.0) (ways here target at frame c))
        j,
  )
  spread_branch here target at frame old new (may_jump {s = s} {rest = rest} {between = between} p holds two j k) = (
    rest,
    record { span = s; pops = p },
    λ at lt. spread_both here target at frame rest old between new (has_top HasOther s frame rest p (two_other s two)) (has_top HasZero s frame rest p holds) j k,
  )

  -- if the state at a conditional jump is popped and joined at each possible successor, the invariant holds at the next
  -- index
  pub stands_branch : (here target : ℕ) (frame : SpanFrameView) (old between new : List (Option SpanFrameView)) → IsFollowedTo bits code inputs here old → Takes here (Some frame) old between → slice_get code here ≡ Some (JumpIfZero target) → Branches (here + 1) target frame between new
      → IsFollowedTo bits code inputs (here + 1) new
  stands_branch here target frame old between new s t there b =
      let spread = spread_branch here target here frame between new b in
      stands_on here (JumpIfZero target) frame spread.0 old between new s t there spread.1 spread.2

  -- ---- the result

  -- if the state at the end has only one interval on its stack, this interval is the result of the code
  pub gives_span : (s : Span) (frame rest : SpanFrameView) (old new : List (Option SpanFrameView)) → IsFollowedTo bits code inputs (length code) old → Takes (length code) (Some frame) old new → Pops s frame rest → length frame.stack ≡ 1 → GivesSpan bits code inputs s
  gives_span s frame rest old new st t p one =
      let none : length rest.stack ≡ 0 = omega (arith, ap length p.stack, one) in
      record { passes = st.passes; frame = frame; least = taken_here (length code) frame old new st t; alone = p.stack ∙ ap (λ (l : List Span). s ∷ l) (nil_from_length rest.stack none) }

  -- if all instructions below this one are passed and its operation may fault in its state, the code stops here with
  -- this fault
  pub stops_at : (here : ℕ) (i : Instr) (fault : Fault) (frame : SpanFrameView) (old new : List (Option SpanFrameView)) → IsFollowedTo bits code inputs here old → Takes here (Some frame) old new → slice_get code here ≡ Some i → Stops bits i frame fault → StopsAt bits code inputs here fault
  stops_at here i fault frame old new st t there stop = record { passes = st.passes; frame = frame; least = taken_here here frame old new st t; instr = i; at = there; stops = stop }
