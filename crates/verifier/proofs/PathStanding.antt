-- The invariant of the path analysis (`HasFollowed`), from one instruction to the next.
use Rattle.std.proofs.Common.{◌≡◌, ℕ, suc, ◌+◌, ◌<◌, ◌≤◌, ◌⊎◌, inl, inr, Bool, true, false, List, length, Some, refl, sym, ap, subst, ◌∙◌, arith, slice_index_or, ⊎_elim, below_more, slice_get}
use Rattle.std.proofs.lemmas.Bool.{cases_lt}
use Rattle.std.proofs.lemmas.List.{get_or_read}
use Rattle.std.proofs.lemmas.Option.{slice_get_within}
use Rattle.kernel_code.specs.declared.instructions.Instr.{Instr}
use Rattle.kernel_code.specs.declared.instructions.Instr.TheVariants.{Push, Get, JumpIfZero, Jump}
use Rattle.kernel_code.specs.Code.{JumpsForward}
use Rattle.kernel_code.specs.Paths.{IsSupplied, HasRoom, CanAct, MayGo, IsPath, height_after, set_after}
use Rattle.verifier.specs.declared.meetings.Shape.{Shape}
use Rattle.verifier.specs.declared.meetings.Meeting.{Meeting}
use Rattle.verifier.specs.declared.meetings.Meeting.TheVariants.{Nothing, Level}
use Rattle.verifier.specs.Misfits.{AreSupplied, Fits, IsLevel}
use Rattle.verifier.specs.Meetings.{IsLedOn, meeting_at, Arrives, first, later, arrivals, IsSummary, Describes, HasFollowed}
use Rattle.verifier.proofs.Arrivals.{arrives_here, is_path, few_steps}
use Rattle.verifier.proofs.PathJoins.{Both, Leads, describes_same, leads_summary, led_on}

-- ---- one index more

-- a path that arrives from below an index arrives from below the next index
arrives_later : (code : List Instr) {here n pc height : ℕ} {set : List Bool} → Arrives code here n pc height set → Arrives code (here + 1) n pc height set
arrives_later code first = first
arrives_later code (later path there go lt) = later path there go (omega arith)

leads_later : (code : List Instr) (here : ℕ) (i : Instr) (at n height : ℕ) (set : List Bool) → slice_get code here ≡ Some i → Leads code here i at n height set → Arrives code (here + 1) n at height set
leads_later code here i at n height set there p = rw (p.is_n, p.is_height, p.is_set) (later p.path there p.go (omega arith))

moved : (code : List Instr) (here from n height : ℕ) (set : List Bool) (i j : Instr) (to : ℕ) → from ≡ here → slice_get code here ≡ Some i → slice_get code from ≡ Some j → IsPath code n from height set → MayGo j from to
    → Leads code here i to (suc n) (height_after j height) (set_after j set)
moved code here from n height set i j to e there there' path go =
    let there'' : slice_get code here ≡ Some j = subst (λ (k : ℕ). slice_get code k ≡ Some j) e there' in
    let same : j ≡ i = cc in
    record {
      before = n;
      height' = height;
      set' = set;
      path = subst (λ (k : ℕ). IsPath code n k height set) e path;
      go = subst (λ (x : Instr). MayGo x here to) same (subst (λ (k : ℕ). MayGo j k to) e go);
      is_n = refl;
      is_height = ap (λ (x : Instr). height_after x height) same;
      is_set = ap (λ (x : Instr). set_after x set) same;
    }

-- a path that arrives from below the next index arrives from below this one, or by the instruction here
arrives_split : (code : List Instr) (here : ℕ) (i : Instr) {n at height : ℕ} {set : List Bool} → slice_get code here ≡ Some i → Arrives code (here + 1) n at height set
    → Arrives code here n at height set ⊎ Leads code here i at n height set
arrives_split code here i there first = inl first
arrives_split code here i there (later {n = n} {from = from} {height = height} {set = set} {i = j} {to = to} path there' go lt) =
    ⊎_elim
    (λ (below : from < here). inl (later path there' go below))
    (λ (le : here ≤ from). let same : from ≡ here = omega arith in inr (moved code here from n height set i j to same there there' path go))
    (cases_lt from here)

led_long : (i : Instr) (here : ℕ) (s : Shape) (old new : List Meeting) → IsLedOn i here s old new → length new ≡ length old
led_long (JumpIfZero target) here s old new led = led.2.long ∙ led.1.long
led_long (Jump target) here s old new led = led.long
led_long _ here s old new led = led.long

-- ---- an index that is followed

-- an instruction that is supplied stays supplied if more locals are set
pub supplied_more : (i : Instr) (inputs height : ℕ) (a b : List Bool) → ((k : ℕ) → slice_index_or a k false ≡ true → slice_index_or b k false ≡ true) → IsSupplied i inputs height a → IsSupplied i inputs height b
supplied_more (Push v) inputs height a b more h = tt
supplied_more (Get k) inputs height a b more h = more k h
supplied_more (Jump to) inputs height a b more h = tt
supplied_more _ inputs height a b more h = h

-- if the paths to an index have a summary, all of them have the same stack height
pub level_here : (code : List Instr) (here : ℕ) (s : Shape) → JumpsForward code → IsSummary (arrivals code here here) s → IsLevel code here
level_here code here s forward x n m height height' set set' p q = x.level n height set (arrives_here code forward p) ∙ sym (x.level m height' set' (arrives_here code forward q))

-- if the summary of the paths to an instruction supplies it, each of these paths does
pub supplied_here : (code : List Instr) (inputs here : ℕ) (i : Instr) (s : Shape) → JumpsForward code → slice_get code here ≡ Some i → IsSummary (arrivals code here here) s → IsSupplied i inputs s.height s.set → AreSupplied code inputs here
supplied_here code inputs here i s forward there x supplied n height set j p there' =
    let same : i ≡ j = cc in
    let e : s.height ≡ height = sym (x.level n height set (arrives_here code forward p)) in
    let more = supplied_more i inputs s.height s.set set (λ k f. x.all_set k f n height set (arrives_here code forward p)) supplied in
    subst (λ (y : Instr). IsSupplied y inputs height set) same (subst (λ (h : ℕ). IsSupplied i inputs h set) e more)

-- an index has no error if its instruction can act with the summary of all paths to it
fits_here : (code : List Instr) (inputs here : ℕ) (i : Instr) (s : Shape) → JumpsForward code → slice_get code here ≡ Some i → IsSummary (arrivals code here here) s → CanAct i inputs s.height s.set → Fits code inputs here
fits_here code inputs here i s forward there x can = record {
  level = level_here code here s forward x;
  supplied = supplied_here code inputs here i s forward there x can.supplied;
  room = λ n height set j p there'.
      let same : i ≡ j = cc in
      let e : s.height ≡ height = sym (x.level n height set (arrives_here code forward p)) in
      subst (λ (y : Instr). HasRoom y height) same (subst (λ (h : ℕ). HasRoom i h) e can.room);
}

-- if the instruction here can act and its successors' states are joined, the invariant holds at the next index
pub stands_on : (code : List Instr) (inputs here : ℕ) (i : Instr) (s t : Shape) (old new : List Meeting) → JumpsForward code → slice_get code here ≡ Some i → HasFollowed code inputs here old → meeting_at old here ≡ Level s
    → CanAct i inputs s.height s.set → t.height ≡ height_after i s.height → t.set ≡ set_after i s.set → t.steps ≡ s.steps + 1 → IsLedOn i here t old new → HasFollowed code inputs (here + 1) new
stands_on code inputs here i s t old new forward there st at_here can height set steps led = record {
  long = led_long i here t old new led ∙ st.long;
  fits = below_more (Fits code inputs) here st.fits (fits_here code inputs here i s forward there x can);
  held = λ at le within.
      describes_same (Both (arrivals code here at) (Leads code here i at)) (arrivals code (here + 1) at)
      (λ n height set p. ⊎_elim (λ (q : arrivals code here at n height set). arrives_later code q) (λ (q : Leads code here i at n height set). leads_later code here i at n height set there q) p)
      (λ n height set p. arrives_split code here i there p) (meeting_at new at)
      (led_on code here i (arrivals code here at) at t old new (st.held at (omega arith) within)
      (λ go. leads_summary code here i at s t forward go x height set steps) led);
}
  where
    within' : here < length code
    within' = slice_get_within code here i there

    x : IsSummary (arrivals code here here) s
    x = subst (λ (m : Meeting). Describes (arrivals code here here) m) at_here (st.held here (omega arith) (omega (arith, within')))

-- the state that is read at an index is the state at this index
pub met_here : (code : List Instr) (inputs here : ℕ) (meetings : List Meeting) (read m : Meeting) → here ≤ length code → HasFollowed code inputs here meetings → read ≡ slice_index_or meetings here read → read ≡ m → meeting_at meetings here ≡ m
met_here code inputs here meetings read m within st is e =
    let within' : here < length meetings = omega (arith, st.long) in
    sym (get_or_read meetings here read within' is Nothing) ∙ e

-- the number of instructions on the longest path to an index is at most the index
pub steps_few : (code : List Instr) (inputs here : ℕ) (s : Shape) (meetings : List Meeting) → JumpsForward code → here ≤ length code → HasFollowed code inputs here meetings → meeting_at meetings here ≡ Level s → s.steps ≤ here
steps_few code inputs here s meetings forward within st at_here =
    let x = subst (λ (m : Meeting). Describes (arrivals code here here) m) at_here (st.held here (omega arith) within) in
    few_steps code forward (is_path code x.taken.2)

-- ---- an unreachable index

no_path : (code : List Instr) (inputs here : ℕ) (meetings : List Meeting) → JumpsForward code → here ≤ length code → HasFollowed code inputs here meetings → meeting_at meetings here ≡ Nothing
    → (n height : ℕ) (set : List Bool) → IsPath code n here height set → ⊥
no_path code inputs here meetings forward within st at_here n height set p =
    let none = subst (λ (m : Meeting). Describes (arrivals code here here) m) at_here (st.held here (omega arith) within) in
    none n height set (arrives_here code forward p)

stays_below : (code : List Instr) (here : ℕ) {n at height : ℕ} {set : List Bool} → ((n height : ℕ) (set : List Bool) → IsPath code n here height set → ⊥) → Arrives code (here + 1) n at height set → Arrives code here n at height set
stays_below code here none first = first
stays_below code here none (later {n = n} {from = from} {height = height} {set = set} path there go lt) =
    ⊎_elim
    (λ (below : from < here). later path there go below)
    (λ (le : here ≤ from). let same : from ≡ here = omega arith in absurd (none n height set (subst (λ (k : ℕ). IsPath code n k height set) same path)))
    (cases_lt from here)

-- if no path reaches an index, the invariant holds at the next index
pub stands_past : (code : List Instr) (inputs here : ℕ) (meetings : List Meeting) → JumpsForward code → here < length code → HasFollowed code inputs here meetings → meeting_at meetings here ≡ Nothing → HasFollowed code inputs (here + 1) meetings
stands_past code inputs here meetings forward within st at_here =
    let none = no_path code inputs here meetings forward (omega arith) st at_here in
    record {
      long = st.long;
      fits = below_more (Fits code inputs) here st.fits (record {
        level = λ n m height height' set set' p q. absurd (none n height set p);
        supplied = λ n height set i p there. absurd (none n height set p);
        room = λ n height set i p there. absurd (none n height set p);
      });
      held = λ at le within'.
          describes_same (arrivals code here at) (arrivals code (here + 1) at) (λ n h b p. arrives_later code p) (λ n h b p. stays_below code here none p) (meeting_at meetings at) (st.held at (omega arith) within');
    }
