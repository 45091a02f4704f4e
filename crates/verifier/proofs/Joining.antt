-- Joins of two abstract states, and joins to the state at an index.
use Rattle.std.proofs.Common.{◌≡◌, ◌≢◌, ℕ, zero, suc, ◌+◌, ◌<◌, ◌≤◌, List, [], ◌∷◌, ◌++◌, length, Option, Some, None, refl, sym, ap, ◌∙◌, subst, arith, ⊎_elim, inl, inr, reverse, ◌-◌, ℤ, pos, Bool, true, false, IsTrue, ◌↔◌, ◌⊎◌, slice_set, slice_index_or, below_more}
use Rattle.std.proofs.lemmas.Bool.{cases_eq, cases_lt}
use Rattle.std.proofs.lemmas.List.{get_or-set_same, get_or-set_other, get_or_past, length-reverse, reverse-reverse, get_or_default, set-set}
use Rattle.std.proofs.Math.ListN.{length-set}
use mathlib.Core.List.{reverse_aux}
use Rattle.interval_domain.specs.declared.span.Span.{Span}
use Rattle.interval_domain.specs.Spans.{IsHull, IsMember, IsWithin}
use Rattle.verifier.specs.Frames.{SpanFrameView, AreWithin, IsLocalWithin, local_of, WidensSpans, WidensLocal, WidensLocals, Widens, Pops}
use Rattle.std.proofs.lemmas.Bool.Decides.{Decides-int_eq}
use Rattle.std.specs.Ordering.{int_eq}
use Rattle.verifier.proofs.Within.{length_within}
use Rattle.verifier.specs.Slices.{frame_at, CanMeet, IsJoined, Joins, Branches, may_jump}

-- ---- spans

-- the first k intervals of `now` are hulls of intervals in `old` and `other`, and the rest are as in `old`
pub record WidensFirst (k : ℕ) (old other now : List Span) : Type 0 where
  pub long : length now ≡ length other
  pub long' : length now ≡ length old
  pub first : (j : ℕ) (d : Span) → j < k → IsHull (slice_index_or old j d) (slice_index_or other j d) (slice_index_or now j d)
  pub rest : (j : ℕ) (d : Span) → k ≤ j → slice_index_or now j d ≡ slice_index_or old j d

-- if the first k intervals are hulls, setting index k to its hull makes the first k + 1 intervals hulls
pub spans_more : (k : ℕ) (old other now : List Span) (a b h : Span) → WidensFirst k old other now → k < length now → a ≡ slice_index_or now k a → b ≡ slice_index_or other k b → IsHull a b h → WidensFirst (k + 1) old other (slice_set now k h)
spans_more k old other now a b h w within ea eb hull =
    record {
      long = length-set now k h ∙ w.long;
      long' = length-set now k h ∙ w.long';
      first = λ j d lt.
          let mine : slice_index_or old k d ≡ a = sym (w.rest k d (omega arith)) ∙ get_or_default now k d a within ∙ sym ea in
          let other' : slice_index_or other k d ≡ b = get_or_default other k d b (omega (arith, within, w.long)) ∙ sym eb in
          below_more (λ i. IsHull (slice_index_or old i d) (slice_index_or other i d) (slice_index_or (slice_set now k h) i d)) k
          (λ i below. rw (get_or-set_other now k i h d (λ (e : i ≡ k). omega (arith, e, below))) (w.first i d below))
          (rw (get_or-set_same now k h d within, mine, other') hull) j lt;
      rest = λ j d le. get_or-set_other now k j h d (omega (arith, le)) ∙ w.rest j d (omega (arith, le));
    }

-- lists of equal length are within each other if the intervals at each index are
within_each : (ss ts : List Span) → length ss ≡ length ts → ((j : ℕ) (d : Span) → j < length ss → IsWithin (slice_index_or ss j d) (slice_index_or ts j d)) → AreWithin ss ts
within_each [] [] e each = tt
within_each (s ∷ ss) (t ∷ ts) e each = (each 0 s (omega arith), within_each ss ts (omega (arith, e)) (λ j d lt. each (suc j) d (omega (arith, lt))))
within_each _ _ e each = absurd (omega (arith, e))

each_within : (ss ts : List Span) (j : ℕ) (d : Span) → AreWithin ss ts → j < length ss → IsWithin (slice_index_or ss j d) (slice_index_or ts j d)
each_within [] ts j d w lt = absurd (omega (arith, lt))
each_within (s ∷ ss) [] j d w lt = absurd w
each_within (s ∷ ss) (t ∷ ts) zero d w lt = w.0
each_within (s ∷ ss) (t ∷ ts) (suc j) d w lt = each_within ss ts j d w.1 (omega (arith, lt))

-- if all intervals are hulls, the list is the join of both lists: the smallest that contains both
pub spans_all : (k : ℕ) (old other now : List Span) → WidensFirst k old other now → length other ≤ k → WidensSpans old other now
spans_all k old other now w past = record {
  first = within_each old now (sym w.long') (λ j d lt. (w.first j d (omega (arith, lt, past, w.long, w.long'))).first);
  second = within_each other now (sym w.long) (λ j d lt. (w.first j d (omega (arith, lt, past))).second);
  least = λ ts p q. within_each now ts (w.long' ∙ length_within old ts p) (λ j d lt.
      (w.first j d (omega (arith, lt, past, w.long))).least (slice_index_or ts j d) (each_within old ts j d p (omega (arith, lt, w.long'))) (each_within other ts j d q (omega (arith, lt, w.long))));
}

-- ---- locals

-- appending None to a list changes no read, if a read past the end gives None
pub unset_more : {A : Type 0} (l : List (Option A)) (j : ℕ) → slice_index_or (l ++ None ∷ []) j None ≡ slice_index_or l j None
unset_more [] zero = refl
unset_more [] (suc j) = refl
unset_more (o ∷ l) zero = refl
unset_more (o ∷ l) (suc j) = unset_more l j

none_least : (a b t : Option Span) → (a ≡ None) ⊎ (b ≡ None) → IsLocalWithin a t → IsLocalWithin b t → IsLocalWithin None t
none_least a b None e p q = tt
none_least a b (Some t) (inl e) p q = subst (λ (o : Option Span). IsLocalWithin o (Some t)) e p
none_least a b (Some t) (inr e) p q = subst (λ (o : Option Span). IsLocalWithin o (Some t)) e q

-- the join of a local's intervals is None if one of them is None
pub local_none : (a b : Option Span) → (a ≡ None) ⊎ (b ≡ None) → WidensLocal a b None
local_none a b e = record { first = tt; second = tt; least = λ t p q. none_least a b t e p q; unset = λ n. e }

-- the first k locals of `now` are joins of the locals in `old` and `other`, and the rest are as in `old`
pub record WidensFirstLocals (k : ℕ) (old other now : List (Option Span)) : Type 0 where
  pub long : length now ≡ length old
  pub first : (j : ℕ) → j < k → WidensLocal (slice_index_or old j None) (slice_index_or other j None) (slice_index_or now j None)
  pub rest : (j : ℕ) → k ≤ j → slice_index_or now j None ≡ slice_index_or old j None

-- if the first k locals are joins, setting index k to its join makes the first k + 1 locals joins
pub locals_more : (k : ℕ) (old other now : List (Option Span)) (a b h : Option Span) → WidensFirstLocals k old other now → k < length now → slice_index_or now k None ≡ a → b ≡ slice_index_or other k None → WidensLocal a b h → WidensFirstLocals (k + 1) old other (slice_set now k h)
locals_more k old other now a b h w within ea eb l =
    let here : WidensLocal (slice_index_or old k None) (slice_index_or other k None) h = rw (← w.rest k (omega arith), ea, ← eb) l in
    record {
      long = length-set now k h ∙ w.long;
      first = below_more (λ j. WidensLocal (slice_index_or old j None) (slice_index_or other j None) (slice_index_or (slice_set now k h) j None)) k
          (λ j below. rw (get_or-set_other now k j h None (λ (e : j ≡ k). omega (arith, e, below))) (w.first j below))
          (rw (get_or-set_same now k h None within) here);
      rest = λ j le. get_or-set_other now k j h None (omega (arith, le)) ∙ w.rest j (omega (arith, le));
    }

-- if all locals are joins, the list is the join of both lists of locals
pub locals_all : (k : ℕ) (old other now : List (Option Span)) → WidensFirstLocals k old other now → length old ≤ k → WidensLocals old other now
locals_all k old other now w past =
    record {
      each = λ j.
          ⊎_elim
          (λ (lt : j < k). w.first j lt)
          (λ (le : k ≤ j).
          let now' : slice_index_or now j None ≡ None = get_or_past now j None (omega (arith, w.long, past, le)) in
          let old' : slice_index_or old j None ≡ None = get_or_past old j None (omega (arith, past, le)) in
          rw now' (local_none (slice_index_or old j None) (slice_index_or other j None) (inl old')))
          (cases_lt j k);
    }

-- ---- frames

within_onto : (ss ts us vs : List Span) → AreWithin ss ts → AreWithin us vs → AreWithin (reverse_aux ss us) (reverse_aux ts vs)
within_onto [] [] us vs w v = v
within_onto (s ∷ ss) (t ∷ ts) us vs w v = within_onto ss ts (s ∷ us) (t ∷ vs) w.1 (w.0, v)
within_onto _ _ us vs w v = absurd w

within_turned : (ss ts : List Span) → AreWithin ss ts → AreWithin (reverse ss) (reverse ts)
within_turned ss ts w = within_onto ss ts [] [] w tt

within_back : (ss ts : List Span) → AreWithin (reverse ss) ts → AreWithin ss (reverse ts)
within_back ss ts w = subst (λ (l : List Span). AreWithin l (reverse ts)) (reverse-reverse ss) (within_turned (reverse ss) ts w)

within_forth : (ss ts : List Span) → AreWithin ss (reverse ts) → AreWithin (reverse ss) ts
within_forth ss ts w = subst (AreWithin (reverse ss)) (reverse-reverse ts) (within_turned ss (reverse ts) w)

-- a state is the join of two states if its stack and its locals are joins; the stacks are held bottom first
pub frame_widens : (old other : SpanFrameView) (s s' t t' n : List Span) (ls ls' ms ms' ns : List (Option Span)) → old ≡ record { stack = reverse s; locals = ls } → other ≡ record { stack = reverse t; locals = ms } → s' ≡ s → t' ≡ t → ls' ≡ ls → ms' ≡ ms
    → WidensSpans s' t' n → WidensLocals ls' ms' ns → Widens old other (record { stack = reverse n; locals = ns })
frame_widens old other s s' t t' n ls ls' ms ms' ns eo ep es et el em w' l' =
    let w = subst (λ (x : List Span). WidensSpans x t n) es (subst (λ (x : List Span). WidensSpans s' x n) et w') in
    let l = subst (λ (x : List (Option Span)). WidensLocals x ms ns) el (subst (λ (x : List (Option Span)). WidensLocals ls' x ns) em l') in
    rw (eo, ep)
    (record {
      first = record { stack' = within_turned s n w.first; locals' = λ k. (l.each k).first };
      second = record { stack' = within_turned t n w.second; locals' = λ k. (l.each k).second };
      least = λ g p q. record {
        stack' = within_forth n g.stack (w.least (reverse g.stack) (within_back s g.stack p.stack') (within_back t g.stack q.stack'));
        locals' = λ k. (l.each k).least (local_of g k) (p.locals' k) (q.locals' k);
      };
      unset = λ k. (l.each k).unset;
    })

-- stacks of equal height are lists of equal length bottom first, too
pub same_height : (old other : SpanFrameView) (s t : List Span) (ls ms : List (Option Span)) → old ≡ record { stack = reverse s; locals = ls } → other ≡ record { stack = reverse t; locals = ms } → length old.stack ≡ length other.stack → length s ≡ length t
same_height old other s t ls ms eo ep high =
    let a : length old.stack ≡ length s = ap (λ (f : SpanFrameView). length f.stack) eo ∙ length-reverse s in
    let b : length other.stack ≡ length t = ap (λ (f : SpanFrameView). length f.stack) ep ∙ length-reverse t in
    sym a ∙ high ∙ b

-- ---- states at indices

joins_set : (to : ℕ) (frame new : SpanFrameView) (o : Option SpanFrameView) (old : List (Option SpanFrameView)) → to < length old → frame_at old to ≡ o → IsJoined o frame (Some new) → Joins to frame old (slice_set old to (Some new))
joins_set to frame new o old within was j =
    record {
      long = length-set old to (Some new);
      there = rw (was, get_or-set_same old to (Some new) None within) j;
      others = λ k n. get_or-set_other old to k (Some new) None n;
    }

-- if an index has no state, overwriting its entry with a state joins the state there
pub joins_new : (to : ℕ) (frame : SpanFrameView) (old items : List (Option SpanFrameView)) (o : Option SpanFrameView) → old ≡ items → to < length old → None ≡ frame_at items to → Joins to frame old (slice_set (slice_set items to o) to (Some frame))
joins_new to frame old items o e within was =
    let j : Joins to frame old (slice_set old to (Some frame)) = joins_set to frame frame None old within (ap (λ (l : List (Option SpanFrameView)). frame_at l to) e ∙ sym was) refl in
    subst (Joins to frame old) (ap (λ (l : List (Option SpanFrameView)). slice_set l to (Some frame)) e ∙ sym (set-set items to o (Some frame))) j

-- if an index has an earlier state, overwriting its entry with the join of both states joins the new state there
pub joins_wide : (to : ℕ) (frame earlier wide : SpanFrameView) (old items : List (Option SpanFrameView)) (o : Option SpanFrameView) → old ≡ items → to < length old → Some earlier ≡ frame_at items to → Widens earlier frame wide → Joins to frame old (slice_set (slice_set items to o) to (Some wide))
joins_wide to frame earlier wide old items o e within was w =
    let j : Joins to frame old (slice_set old to (Some wide)) = joins_set to frame wide (Some earlier) old within (ap (λ (l : List (Option SpanFrameView)). frame_at l to) e ∙ sym was) w in
    subst (Joins to frame old) (ap (λ (l : List (Option SpanFrameView)). slice_set l to (Some wide)) e ∙ sym (set-set items to o (Some wide))) j

-- if an index admits a stack height, the earlier state there has this height
pub met_height : (to height : ℕ) (earlier : SpanFrameView) (old items : List (Option SpanFrameView)) → old ≡ items → CanMeet (frame_at old to) height → Some earlier ≡ frame_at items to → length earlier.stack ≡ height
met_height to height earlier old items e m was =
    subst (λ (o : Option SpanFrameView). CanMeet o height) (ap (λ (l : List (Option SpanFrameView)). frame_at l to) e ∙ sym was) m

-- if an index admits the stack height after a pop, it admits the copy of the popped state
pub met_popped : (o : Option SpanFrameView) (s : Span) (old new copy : SpanFrameView) → Pops s old new → copy ≡ new → CanMeet o (length old.stack - 1) → CanMeet o (length copy.stack)
met_popped o s old new copy p same m =
    subst (CanMeet o) (let height : length old.stack - 1 ≡ length new.stack = omega (arith, ap length p.stack) in height ∙ ap (λ (f : SpanFrameView). length f.stack) (sym same)) m

met_joined : (o o' : Option SpanFrameView) (frame : SpanFrameView) → IsJoined o frame o' → CanMeet o' (length frame.stack)
met_joined o None frame j = tt
met_joined None (Some new) frame j = ap (λ (f : SpanFrameView). length f.stack) j
met_joined (Some earlier) (Some new) frame j = sym (length_within frame.stack new.stack j.second.stack')

-- if an index admits a state, it still does after a copy of the state is joined at any index
pub met_still : (at to : ℕ) (frame copy : SpanFrameView) (old new : List (Option SpanFrameView)) → copy ≡ frame → Joins at copy old new → CanMeet (frame_at old to) (length frame.stack) → CanMeet (frame_at new to) (length frame.stack)
met_still at to frame copy old new same j m =
    ⊎_elim
    (λ (e : to ≡ at). subst (λ (k : ℕ). CanMeet (frame_at new k) (length frame.stack)) (sym e) (subst (λ (f : SpanFrameView). CanMeet (frame_at new at) (length f.stack)) same (met_joined _ _ copy j.there)))
    (λ (n : to ≢ at). subst (λ (o : Option SpanFrameView). CanMeet o (length frame.stack)) (sym (j.others to n)) m)
    (cases_eq to at)

-- ---- branches

-- if the test of membership of 0 fails, 0 is no member
pub not_member : (b : Bool) (z : ℤ) (s : Span) → IsTrue b ↔ IsMember z s → z ≡ pos 0 → b ≡ false → IsMember (pos 0) s → ⊥
not_member b z s h e f m = let t : IsTrue false = subst IsTrue f (h.1 (subst (λ (x : ℤ). IsMember x s) (sym e) m)) in cc

-- if the test of membership of 0 succeeds, 0 is a member
pub is_member : (b : Bool) (z : ℤ) (s : Span) → IsTrue b ↔ IsMember z s → z ≡ pos 0 → b ≡ true → IsMember (pos 0) s
is_member b z s h e f = subst (λ (x : ℤ). IsMember x s) e (h.0 (subst IsTrue (sym f) refl))

-- ends that a test finds equal are equal
pub same_ends : (x y : ℤ) → true ≡ int_eq x y → x ≡ y
same_ends x y e = (Decides-int_eq x y).0 (sym e)

-- ends that a test finds different are different
pub other_ends : (x y : ℤ) → false ≡ int_eq x y → x ≡ y → ⊥
other_ends x y e same = let t = (Decides-int_eq x y).1 same in absurd cc

-- joining a copy of the popped state at the next index, then the state at the target, is a branch that may jump
pub may_jump_copied : (next to : ℕ) (s : Span) (frame rest copy : SpanFrameView) (old between new : List (Option SpanFrameView)) → Pops s frame rest → copy ≡ rest → IsMember (pos 0) s → (s.lo ≡ s.hi → ⊥) → Joins next copy old between → Joins to rest between new → Branches next to frame old new
may_jump_copied next to s frame rest copy old between new p e holds two j k = may_jump p holds two (subst (λ (f : SpanFrameView). Joins next f old between) e j) k
