-- A search over at most `length code` instructions finds the end of a run. Code that gives a slope ends with the slope.
use Rattle.std.proofs.Common.{◌≡◌, ℕ, zero, suc, ◌+◌, ◌<◌, ◌≤◌, true, List, length, Option, Some, None, Result, Ok, Err, ℤ, arith, refl, sym, ap, ◌∙◌, ⊎_elim, slice_get}
use Rattle.std.specs.Option.{option_and_then}
use Rattle.std.proofs.lemmas.Bool.{cases_lt}
use Rattle.std.proofs.lemmas.Option.{slice_get_within, same_Some}
use Rattle.derivative.specs.Slope.{slope_of}
use Rattle.energy_program.specs.Tree.{Tree}
use Rattle.kernel_code.specs.declared.instructions.Instr.{Instr}
use Rattle.kernel_code.specs.declared.traps.Trap.{Trap}
use Rattle.kernel_code.specs.Code.{JumpsForward}
use Rattle.kernel_code.specs.Machine.{State, Transition, act, after, end_of, goes_on, next_state, start, transition_at, Ends}
use Rattle.kernel_code.proofs.Runs.{one_end, turn_leads}
use Rattle.line_text.proofs.StepLaws.{none_is_no_some}
use Rattle.potential.specs.CodeSlopes.{GivesSlope, is_operation}
use Rattle.run_laws.specs.declared.tested_run.slope_faults.SlopeFault.{SlopeFault}
use Rattle.run_laws.specs.Outcomes.{OutcomesAreEnds, end_after, fault_of, first_from, operation_fault, or_else, outcome_of, where_given}

-- ---- the first value

first_at : {X : Type 0} → (f : ℕ → Option X) (x : X) (m count n : ℕ) (here : Option X) → f n ≡ here → f m ≡ Some x → ((k : ℕ) (y : X) → f k ≡ Some y → y ≡ x)
    → n ≤ m → m < n + suc count → (suc n ≤ m → m < suc n + count → first_from f count (suc n) ≡ Some x) → or_else here (first_from f count (suc n)) ≡ Some x
first_at f x m count n (Some y) e h only low high rest = ap Some (only n y e)
first_at f x m count n None e h only low high rest =
    ⊎_elim (λ lt. rest (omega arith) (omega arith))
    (λ le. let same : n ≡ m = omega arith in absurd (none_is_no_some x (sym e ∙ ap f same ∙ h))) (cases_lt n m)

first_is : {X : Type 0} → (f : ℕ → Option X) (x : X) (m count n : ℕ) → f m ≡ Some x → ((k : ℕ) (y : X) → f k ≡ Some y → y ≡ x)
    → n ≤ m → m < n + count → first_from f count n ≡ Some x
unfolding first_from
first_is f x m zero n h only low high = absurd (omega arith)
first_is f x m (suc count) n h only low high = first_at f x m count n (f n) refl h only low high (λ l u. first_is f x m count (suc n) h only l u)

-- ---- how long a run is

goes_by : (bits : ℕ) (code : List Instr) (inputs : List ℤ) (s t : State) (i : Instr) (turn : Transition) → JumpsForward code → slice_get code s.pc ≡ Some i
    → act bits i inputs s.pc s.stack s.locals ≡ turn → goes_on (Some turn) ≡ Some t → (s.pc < t.pc) × (t.pc ≤ length code)
goes_by bits code inputs s t i (Ok next) forward here is e =
    let same : next ≡ t = same_Some next t e in
    turn_leads bits code inputs s.pc s.stack s.locals t i forward (slice_get_within code s.pc i here) here (is ∙ ap Ok same)
goes_by bits code inputs s t i (Err kind) forward here is e = absurd (none_is_no_some t e)

goes_from : (bits : ℕ) (code : List Instr) (inputs : List ℤ) (s t : State) (i : Option Instr) → JumpsForward code → slice_get code s.pc ≡ i → goes_on (transition_at bits code inputs s) ≡ Some t
    → (s.pc < t.pc) × (t.pc ≤ length code)
goes_from bits code inputs s t None forward here e = absurd (none_is_no_some t (rw here at e))
goes_from bits code inputs s t (Some i) forward here e = goes_by bits code inputs s t i (act bits i inputs s.pc s.stack s.locals) forward here refl (rw here at e)

-- if the program counter is at least n, it is at least n + 1 after one more instruction, and at most `length code`
far_by : (bits : ℕ) (code : List Instr) (inputs : List ℤ) (n : ℕ) (s : State) (o : Option State) → JumpsForward code → next_state bits code inputs o ≡ Some s
    → ((t : State) → o ≡ Some t → n ≤ t.pc) → (suc n ≤ s.pc) × (s.pc ≤ length code)
far_by bits code inputs n s None forward e before = absurd (none_is_no_some s e)
far_by bits code inputs n s (Some t) forward e before =
    let went = goes_from bits code inputs t s (slice_get code t.pc) forward refl e in
    let from = before t refl in
    (omega (arith, went.0, from), went.1)

far : (bits : ℕ) (code : List Instr) (inputs : List ℤ) (n : ℕ) (s : State) → JumpsForward code → after bits code inputs n ≡ Some s → (n ≤ s.pc) × (s.pc ≤ length code)
far bits code inputs zero s forward e =
    let same : start ≡ s = same_Some start s e in
    let at_start : 0 ≡ s.pc = ap (λ (s : State). s.pc) same in
    (omega arith, omega arith)
far bits code inputs (suc n) s forward e =
    far_by bits code inputs n s (after bits code inputs n) forward e (λ t is. (far bits code inputs n t forward is).0)

-- ---- the outcome

end_is : (bits : ℕ) (code : List Instr) (inputs : List ℤ) (n : ℕ) (o : Result ℤ Trap) → Ends bits code inputs n o → end_after bits code inputs n ≡ Some o
end_is bits code inputs n o e = rw e.reached e.over

is_end : (bits : ℕ) (code : List Instr) (inputs : List ℤ) (n : ℕ) (o : Result ℤ Trap) (s : Option State) → after bits code inputs n ≡ s → option_and_then (λ s. end_of s (transition_at bits code inputs s)) s ≡ Some o → Ends bits code inputs n o
is_end bits code inputs n o None r e = absurd (none_is_no_some o e)
is_end bits code inputs n o (Some s) r e = record { state = s; reached = r; over = e }

-- code whose jumps go forward has the outcome with which its run ends
pub outcome_is : (bits : ℕ) (code : List Instr) (inputs : List ℤ) (n : ℕ) (o : Result ℤ Trap) → JumpsForward code → Ends bits code inputs n o → outcome_of bits code inputs ≡ Some o
unfolding outcome_of
outcome_is bits code inputs n o forward e =
    let within = far bits code inputs n e.state forward e.reached in
    first_is (end_after bits code inputs) o n (length code + 1) 0 (end_is bits code inputs n o e)
    (λ k p h. (one_end bits code inputs k n p o (is_end bits code inputs k p (after bits code inputs k) refl h) e).1)
    (omega arith) (omega (arith, within.0, within.1))

found_first : {X : Type 0} → (f : ℕ → Option X) (x : X) (n : ℕ) (here rest : Option X) → f n ≡ here → or_else here rest ≡ Some x → (rest ≡ Some x → (m : ℕ) × (f m ≡ Some x)) → (m : ℕ) × (f m ≡ Some x)
found_first f x n (Some y) rest e h later = (n, e ∙ h)
found_first f x n None rest e h later = later h

-- the first value of a sequence is a value of the sequence
found_at : {X : Type 0} → (f : ℕ → Option X) (x : X) (count n : ℕ) → first_from f count n ≡ Some x → (m : ℕ) × (f m ≡ Some x)
unfolding first_from
found_at f x zero n h = absurd (none_is_no_some x h)
found_at f x (suc count) n h = found_first f x n (f n) (first_from f count (suc n)) refl h (found_at f x count (suc n))

-- an outcome of code is the end of its run after some number of instructions
pub outcome_ends : (bits : ℕ) (code : List Instr) (inputs : List ℤ) (o : Result ℤ Trap) → outcome_of bits code inputs ≡ Some o → (n : ℕ) × Ends bits code inputs n o
unfolding outcome_of
outcome_ends bits code inputs o h =
    let found = found_at (end_after bits code inputs) o (length code + 1) 0 h in
    (found.0, is_end bits code inputs found.0 o (after bits code inputs found.0) refl found.1)

-- code whose jumps go forward has the outcome with which its run ends, and no other
pub outcomes_are_ends : OutcomesAreEnds
outcomes_are_ends bits code inputs o forward = (outcome_ends bits code inputs o, λ n e. outcome_is bits code inputs n o forward e)

-- ---- the tested machine and the slope

-- code that gives a slope traps only in operations
pub only_operations : (bits : ℕ) (energy : Tree) (code : List Instr) (inputs : List ℤ) (trap : Trap) → GivesSlope bits energy code inputs → (n : ℕ) × Ends bits code inputs n (Err trap) → is_operation trap.kind ≡ true
only_operations bits energy code inputs trap h e = h.operation e.0 trap e.1

-- if the run of code that gives a slope ends with a value, the value is the slope
pub given_value : (bits : ℕ) (energy : Tree) (code : List Instr) (inputs : List ℤ) (v : ℤ) → GivesSlope bits energy code inputs → (n : ℕ) × Ends bits code inputs n (Ok v)
    → where_given (outcome_of bits code inputs) (slope_of bits inputs energy) ≡ Some v
given_value bits energy code inputs v h e =
    ap (λ o. where_given o (slope_of bits inputs energy)) (outcome_is bits code inputs e.0 (Ok v) h.forward e.1) ∙ h.value e.0 v e.1

-- if the run of code that gives a slope traps, there is no slope
pub given_none : (bits : ℕ) (energy : Tree) (code : List Instr) (inputs : List ℤ) (trap : Trap) → GivesSlope bits energy code inputs → (n : ℕ) × Ends bits code inputs n (Err trap)
    → where_given (outcome_of bits code inputs) (slope_of bits inputs energy) ≡ None
given_none bits energy code inputs trap h e =
    ap (λ o. where_given o (slope_of bits inputs energy)) (outcome_is bits code inputs e.0 (Err trap) h.forward e.1)

-- if the run of code that gives a slope traps, the fault is the fault of the operation that trapped
pub given_fault : (bits : ℕ) (energy : Tree) (code : List Instr) (inputs : List ℤ) (trap : Trap) (f : SlopeFault) → GivesSlope bits energy code inputs → (n : ℕ) × Ends bits code inputs n (Err trap)
    → operation_fault trap.pc trap.kind ≡ Some f → fault_of (outcome_of bits code inputs) ≡ Some f
given_fault bits energy code inputs trap f h e is = ap fault_of (outcome_is bits code inputs e.0 (Err trap) h.forward e.1) ∙ is
