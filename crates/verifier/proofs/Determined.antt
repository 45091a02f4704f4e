-- The abstract states and the result of the interval analysis are unique, and monotone in the input intervals.
use Rattle.std.proofs.Common.{◌≡◌, ℕ, zero, suc, ◌<◌, ◌≤◌, List, [], ◌∷◌, length, Result, Err, refl, sym, subst, arith, ⊎_elim, inl, inr, ℤ}
use Rattle.std.proofs.lemmas.Bool.{cases_lt}
use Rattle.std.proofs.lemmas.Option.{slice_get_within}
use Rattle.fixed.specs.declared.faults.Fault.{Fault}
use Rattle.fixed.specs.declared.faults.Fault.TheVariants.{Overflow, ZeroDivisor, NegativeRoot}
use Rattle.interval_domain.specs.declared.span.Span.{Span}
use Rattle.interval_domain.specs.Spans.{IsCause, IsWithin, IsOutcome, IsOutcomeOfTwo}
use Rattle.kernel_code.specs.declared.instructions.Instr.{Instr}
use Rattle.fixed.specs.Operations.{operator_value, unary_value}
use Rattle.verifier.specs.Frames.{SpanFrameView, IsFrameWithin}
use Rattle.verifier.specs.AbstractStates.{GivesSpan, IsBehind, IsLeastFrame, IsLed, Passes, Stops, StopsAt, comes_below, led_on, on_one, on_two, unreached}
use Rattle.verifier.proofs.Within.{AreInputsWithin, behind_within, come_within, frame_refl, frame_trans, outcome_of_one, outcome_of_two, tops_within}

-- ---- one operation

-- an operation that may fault on an abstract state has no resulting state from a larger one
stop_goes : (bits : ℕ) (i : Instr) (ys : List Span) (f g new : SpanFrameView) (fault : Fault) → IsFrameWithin f g → Stops bits i f fault → IsBehind bits i ys g new → ⊥
stop_goes bits i ys f g new fault w (on_two {op = op} s) b =
    let top = tops_within s.b b.b (s.a ∷ s.rest) (b.a ∷ b.rest) f g w s.taken b.taken in
    let h = b.least.holds (Err fault) (outcome_of_two (operator_value bits op) s.a s.b b.a b.b (Err fault) top.1.0 top.0 s.cause.may) in
    cc h.1
stop_goes bits i ys f g new fault w (on_one {op = op} s) b =
    let top = tops_within s.a b.a s.rest b.rest f g w s.taken b.taken in
    let h = b.least.holds (Err fault) (outcome_of_one (unary_value bits op) s.a b.a (Err fault) top.0 s.cause.may) in
    cc h.1

-- the cause of equal sets of outcomes is unique
cause_same : (P Q : Result ℤ Fault → Type 0) (f g : Fault) → ((r : Result ℤ Fault) → P r → Q r) → ((r : Result ℤ Fault) → Q r → P r) → IsCause P f → IsCause Q g → f ≡ g
cause_same P Q Overflow Overflow up down p q = refl
cause_same P Q Overflow ZeroDivisor up down p q = p.zero (down (Err ZeroDivisor) q.may)
cause_same P Q Overflow NegativeRoot up down p q = p.negative (down (Err NegativeRoot) q.may)
cause_same P Q ZeroDivisor g up down p q = sym (q.zero (up (Err ZeroDivisor) p.may))
cause_same P Q NegativeRoot g up down p q = sym (q.negative (up (Err NegativeRoot) p.may))

same_fault : (bits : ℕ) (i : Instr) (f g : SpanFrameView) (fault fault' : Fault) → IsFrameWithin f g → IsFrameWithin g f → Stops bits i f fault → Stops bits i g fault' → fault ≡ fault'
same_fault bits i f g fault fault' w v (on_two {op = op} s) (on_two t) =
    let up = tops_within s.b t.b (s.a ∷ s.rest) (t.a ∷ t.rest) f g w s.taken t.taken in
    let down = tops_within t.b s.b (t.a ∷ t.rest) (s.a ∷ s.rest) g f v t.taken s.taken in
    cause_same (IsOutcomeOfTwo (operator_value bits op) s.a s.b) (IsOutcomeOfTwo (operator_value bits op) t.a t.b) fault fault'
    (λ r o. outcome_of_two (operator_value bits op) s.a s.b t.a t.b r up.1.0 up.0 o)
    (λ r o. outcome_of_two (operator_value bits op) t.a t.b s.a s.b r down.1.0 down.0 o)
    s.cause t.cause
same_fault bits i f g fault fault' w v (on_one {op = op} s) (on_one t) =
    let up = tops_within s.a t.a s.rest t.rest f g w s.taken t.taken in
    let down = tops_within t.a s.a t.rest s.rest g f v t.taken s.taken in
    cause_same (IsOutcome (unary_value bits op) s.a) (IsOutcome (unary_value bits op) t.a) fault fault'
    (λ r o. outcome_of_one (unary_value bits op) s.a t.a r up.0 o)
    (λ r o. outcome_of_one (unary_value bits op) t.a s.a r down.0 o)
    s.cause t.cause

-- ---- frames

module _ (bits : ℕ) (code : List Instr) (xs ys : List Span) (inputs : AreInputsWithin xs ys) where
  -- each state that the smaller inputs lead to an index is within one that the larger inputs lead there
  abbrev AreHeld : (n to : ℕ) → Type 0
  AreHeld n to = (f : SpanFrameView) → comes_below bits code xs n to f → (g : SpanFrameView) × comes_below bits code ys n to g × IsFrameWithin f g

  least_held : (n : ℕ) (f g : SpanFrameView) → AreHeld n n → IsLeastFrame (comes_below bits code xs n n) f → IsLeastFrame (comes_below bits code ys n n) g → IsFrameWithin f g
  least_held n f g held a b = a.least g (λ h l. let x = held h l in frame_trans h x.0 g x.2 (b.holds x.0 x.1))

  led_held : (n to : ℕ) (f : SpanFrameView) → AreHeld n n → Passes bits code ys n → IsLed bits code xs (IsLeastFrame (comes_below bits code xs n n)) n to f → (g : SpanFrameView) × comes_below bits code ys (suc n) to g × IsFrameWithin f g
  led_held n to f held (unreached none) l = let x = held l.own.some.0 l.own.some.1 in absurd (none x.0 x.1)
  led_held n to f held (led_on {frame = g} {i = j} k least at behind) l =
      let w = least_held n l.frame g held l.own least in
      let at' = l.at in
      let same : j ≡ l.instr = cc in
      let behind' : IsBehind bits l.instr ys g k = subst (λ (i : Instr). IsBehind bits i ys g k) same behind in
      (k, inr (record { frame = g; own = least; instr = l.instr; at = at'; comes = come_within l.instr n to l.frame g w l.comes; behind = behind' }), behind_within bits l.instr xs ys l.frame g f k inputs w l.behind behind')

  held : (n to : ℕ) → ((at : ℕ) → at < n → Passes bits code ys at) → AreHeld n to
  held zero to passes f c = (f, c, frame_refl f)
  held (suc n) to passes f (inl c) = let x = held n to (λ at lt. passes at (omega (arith, lt))) f c in (x.0, inl x.1, x.2)
  held (suc n) to passes f (inr l) = led_held n to f (held n n (λ at lt. passes at (omega (arith, lt)))) (passes n (omega arith)) l

  -- the resulting interval is within the resulting interval for larger inputs
  pub gives_within : (s t : Span) → GivesSpan bits code xs s → GivesSpan bits code ys t → IsWithin s t
  gives_within s t a b = (tops_within s t [] [] a.frame b.frame (least_held (length code) a.frame b.frame (held (length code) (length code) b.passes) a.least b.least) a.alone b.alone).0

  stop_passed : (pc : ℕ) (fault : Fault) → AreHeld pc pc → StopsAt bits code xs pc fault → Passes bits code ys pc → ⊥
  stop_passed pc fault held a (unreached none) = let x = held a.least.some.0 a.least.some.1 in none x.0 x.1
  stop_passed pc fault held a (led_on {frame = g} {i = j} k least at behind) =
      let at' = a.at in
      let same : j ≡ a.instr = cc in
      stop_goes bits a.instr ys a.frame g k fault (least_held pc a.frame g held a.least least) a.stops (subst (λ (i : Instr). IsBehind bits i ys g k) same behind)

  -- an instruction at which code stops isn't passed on larger inputs
  pub stop_past : (last pc : ℕ) (fault : Fault) → StopsAt bits code xs pc fault → ((at : ℕ) → at < last → Passes bits code ys at) → pc < last → ⊥
  stop_past last pc fault a passes lt = stop_passed pc fault (held pc pc (λ at below. passes at (omega (arith, below, lt)))) a (passes pc lt)

  -- code that stops on some inputs gives no interval on larger inputs
  pub gives_no_stop : (s : Span) (pc : ℕ) (fault : Fault) → StopsAt bits code xs pc fault → GivesSpan bits code ys s → ⊥
  gives_no_stop s pc fault a b = stop_past (length code) pc fault a b.passes (slice_get_within code pc a.instr a.at)

  -- the abstract state in which code stops is within the state in which the code stops on larger input intervals
  pub stop_within : (pc : ℕ) (fault fault' : Fault) (a : StopsAt bits code xs pc fault) (b : StopsAt bits code ys pc fault') → IsFrameWithin a.frame b.frame
  stop_within pc fault fault' a b = least_held pc a.frame b.frame (held pc pc b.passes) a.least b.least

module _ (bits : ℕ) (code : List Instr) (xs ys : List Span) (up : AreInputsWithin xs ys) (down : AreInputsWithin ys xs) where
  one_fault : (pc : ℕ) (fault fault' : Fault) → StopsAt bits code xs pc fault → StopsAt bits code ys pc fault' → fault ≡ fault'
  one_fault pc fault fault' a b =
      let at = a.at in
      let at' = b.at in
      let same : b.instr ≡ a.instr = cc in
      same_fault bits a.instr a.frame b.frame fault fault' (stop_within bits code xs ys up pc fault fault' a b) (stop_within bits code ys xs down pc fault' fault b a) a.stops (subst (λ (i : Instr). Stops bits i b.frame fault') same b.stops)

  -- if two lists of inputs are within each other, code stops on both at the same instruction with the same fault
  pub stops_same : (pc pc' : ℕ) (fault fault' : Fault) → StopsAt bits code xs pc fault → StopsAt bits code ys pc' fault' → (pc ≡ pc') × (fault ≡ fault')
  stops_same pc pc' fault fault' a b =
      ⊎_elim
      (λ (lt : pc < pc'). absurd (stop_past bits code xs ys up pc' pc fault a b.passes lt))
      (λ (le : pc' ≤ pc).
      ⊎_elim
      (λ (lt : pc' < pc). absurd (stop_past bits code ys xs down pc pc' fault' b a.passes lt))
      (λ (ge : pc ≤ pc'). let e : pc' ≡ pc = omega (arith, le, ge) in (sym e, one_fault pc fault fault' a (subst (λ (k : ℕ). StopsAt bits code ys k fault') e b)))
      (cases_lt pc' pc))
      (cases_lt pc pc')
