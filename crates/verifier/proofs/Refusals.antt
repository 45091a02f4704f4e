-- The meaning of each refusal, for the paths of a code.
use Rattle.std.proofs.Common.{◌≡◌, ◌≢◌, ℕ, zero, suc, ◌+◌, ◌<◌, ◌≤◌, ◌⊎◌, inl, inr, Bool, true, false, List, [], ◌∷◌, length, Some, Err, refl, sym, ap, subst, ◌∙◌, arith, slice_index_or, ⊎_elim, slice_get}
use Rattle.std.proofs.lemmas.Bool.{cases_lt, cases_eq}
use Rattle.std.proofs.lemmas.Option.{slice_get_within}
use Rattle.kernel_code.specs.declared.instructions.Instr.{Instr}
use Rattle.kernel_code.specs.declared.instructions.Instr.TheVariants.{Input, Keep, Get, Binary, Unary, JumpIfZero, Jump}
use Rattle.kernel_code.specs.Code.{JumpsForward}
use Rattle.kernel_code.specs.Paths.{IsSupplied, HasRoom, MayGo, IsPath, MissesNothing, goes, begins, height_after, set_after}
use Rattle.verifier.specs.declared.faults.VerifyFault.{VerifyFault}
use Rattle.verifier.specs.declared.faults.VerifyFault.TheVariants.{Malformed, DepthOver64}
use Rattle.verifier.specs.declared.meetings.Shape.{Shape}
use Rattle.verifier.specs.declared.meetings.Meeting.{Meeting}
use Rattle.verifier.specs.declared.meetings.Meeting.TheVariants.{Nothing, Level, Uneven}
use Rattle.verifier.specs.Misfits.{Lacks, EndsBadly, MeetUnevenly, IsFirstMalformed, IsFirstOverfull, IsFirst, IsMalformedAt, GoesWrong, GoesWrongSo}
use Rattle.verifier.specs.Meetings.{IsFit, IsOverfull, meeting_at, arrivals, IsSummary, Describes, HasFollowed}
use Rattle.verifier.proofs.Arrivals.{arrives_here, is_path}
use Rattle.kernel_code.proofs.PathLaws.{leads_there, path_within}
use Rattle.verifier.proofs.PathJoins.{uneven_too}
use Rattle.verifier.proofs.PathStanding.{level_here, supplied_here}

-- ---- an operand, input or local that some path lacks

-- the state at the current index describes the paths that reach the index
pub held_here : (code : List Instr) (inputs here : ℕ) (meetings : List Meeting) (m : Meeting) → HasFollowed code inputs here meetings → here ≤ length code → meeting_at meetings here ≡ m → Describes (arrivals code here here) m
held_here code inputs here meetings m st within e = subst (λ (k : Meeting). Describes (arrivals code here here) k) e (st.held here (omega arith) within)

-- if the summary of the paths to an instruction doesn't supply it, some path lacks an operand, input or local
lacking : (code : List Instr) (inputs here : ℕ) (i : Instr) (s : Shape) → slice_get code here ≡ Some i → IsSummary (arrivals code here here) s → (IsSupplied i inputs s.height s.set → ⊥) → Lacks code inputs here
lacking code inputs here i s there x lacks = at i there lacks
  where
    h : ℕ
    h = x.taken.0

    set : List Bool
    set = x.taken.1

    same : h ≡ s.height
    same = x.level s.steps h set x.taken.2

    path : IsPath code s.steps here h set
    path = is_path code x.taken.2

    taken : (i : Instr) → slice_get code here ≡ Some i → (IsSupplied i inputs h set → ⊥) → Lacks code inputs here
    taken i there bad = record { n = s.steps; height = h; set = set; path = path; instr = i; there = there; fails = bad }

    unset : (k : ℕ) → slice_get code here ≡ Some (Get k) → (b : Bool) → slice_index_or s.set k false ≡ b → (slice_index_or s.set k false ≡ true → ⊥) → Lacks code inputs here
    unset k there true e bad = absurd (bad e)
    unset k there false e bad =
        let p = x.some_unset k e in
        let f = p.4 in
        record { n = p.0; height = p.1; set = p.2; path = is_path code p.3; instr = Get k; there = there; fails = λ (t : slice_index_or p.2 k false ≡ true). cc }

    at : (i : Instr) → slice_get code here ≡ Some i → (IsSupplied i inputs s.height s.set → ⊥) → Lacks code inputs here
    at (Input k) there bad = taken (Input k) there bad
    at (Keep k) there bad = taken (Keep k) there (λ (le : 1 ≤ h). bad (omega (arith, same)))
    at (Get k) there bad = unset k there (slice_index_or s.set k false) refl bad
    at (Binary op) there bad = taken (Binary op) there (λ (le : 2 ≤ h). bad (omega (arith, same)))
    at (Unary op) there bad = taken (Unary op) there (λ (le : 1 ≤ h). bad (omega (arith, same)))
    at (JumpIfZero to) there bad = taken (JumpIfZero to) there (λ (le : 1 ≤ h). bad (omega (arith, same)))
    at _ there bad = absurd (bad tt)

overfull : (code : List Instr) (inputs here : ℕ) (i : Instr) (s : Shape) (meetings : List Meeting) → JumpsForward code → slice_get code here ≡ Some i → HasFollowed code inputs here meetings → IsSummary (arrivals code here here) s
    → IsOverfull i inputs s.height s.set → IsFirstOverfull code inputs here
overfull code inputs here i s meetings forward there st x full = record {
  below = st.fits;
  level = level_here code here s forward x;
  supplied = supplied_here code inputs here i s forward there x full.supplied;
  overfills =
      let e : x.taken.0 ≡ s.height = x.level s.steps x.taken.0 x.taken.1 x.taken.2 in
      record { n = s.steps; height = x.taken.0; set = x.taken.1; path = is_path code x.taken.2; instr = i; there = there; fails = λ r. full.full (subst (λ (h : ℕ). HasRoom i h) e r) };
}

-- an error of the check at an instruction is the first error of the path analysis
pub unfit : (code : List Instr) (inputs here : ℕ) (i : Instr) (s : Shape) (meetings : List Meeting) (fault : VerifyFault) → JumpsForward code → slice_get code here ≡ Some i → HasFollowed code inputs here meetings → meeting_at meetings here ≡ Level s
    → IsFit i here inputs s.height s.set (Err fault) → IsFirst code inputs fault
unfit code inputs here i s meetings fault forward there st e fit = at fault fit
  where
    within : here ≤ length code
    within = let w = slice_get_within code here i there in omega arith

    x : IsSummary (arrivals code here here) s
    x = held_here code inputs here meetings (Level s) st within e

    at : (fault : VerifyFault) → IsFit i here inputs s.height s.set (Err fault) → IsFirst code inputs fault
    at (Malformed pc) fit =
        subst (λ (k : ℕ). IsFirst code inputs (Malformed k)) (sym fit.0)
        (record { below = st.fits; wrong = inl (lacking code inputs here i s there x fit.1.lacks) })
    at (DepthOver64 pc) fit =
        subst (λ (k : ℕ). IsFirst code inputs (DepthOver64 k)) (sym fit.0) (overfull code inputs here i s meetings forward there st x fit.1)
    at _ fit = absurd fit

-- an index with different stack heights is the first malformed one, once all instructions below were visited
pub uneven : (code : List Instr) (inputs here : ℕ) (meetings : List Meeting) → here ≤ length code → HasFollowed code inputs here meetings → meeting_at meetings here ≡ Uneven → IsFirstMalformed code inputs here
uneven code inputs here meetings within st e =
    let both = held_here code inputs here meetings Uneven st within e in
    let meet : MeetUnevenly code here = uneven_too (arrivals code here here) _ (λ n height set p. is_path code p) both in
    record { below = st.fits; wrong = inr (inl meet) }

-- ---- to the end

-- each instruction has a successor
pub some_way : (i : Instr) (from : ℕ) → (to : ℕ) × MayGo i from to
some_way (JumpIfZero to) from = (from + 1, inl refl)
some_way (Jump to) from = (to, refl)
some_way _ from = (from + 1, refl)

-- an index up to the code's length holds an instruction, or is the end
pub at_or_end : (code : List Instr) (pc : ℕ) → pc ≤ length code → ((i : Instr) × (slice_get code pc ≡ Some i)) ⊎ (pc ≡ length code)
at_or_end [] pc within = inr (omega arith)
at_or_end (i ∷ is) zero within = inl (i, refl)
at_or_end (i ∷ is) (suc pc) within = ⊎_elim (λ (h : (j : Instr) × (slice_get is pc ≡ Some j)). inl (h.0, h.1)) (λ (e : pc ≡ length is). inr (ap suc e)) (at_or_end is pc (omega arith))

-- each path extends to a path to the end
on_to_end : (code : List Instr) (left n pc height : ℕ) (set : List Bool) → JumpsForward code → pc ≤ length code → length code ≤ pc + left → IsPath code n pc height set → (n' : ℕ) × (height' : ℕ) × (set' : List Bool) × IsPath code n' (length code) height' set'
on_to_end code zero n pc height set forward within far p = let e : pc ≡ length code = omega arith in (n, height, set, subst (λ (k : ℕ). IsPath code n k height set) e p)
on_to_end code (suc left) n pc height set forward within far p =
    ⊎_elim
    (λ (h : (i : Instr) × (slice_get code pc ≡ Some i)).
    let way = some_way h.0 pc in
    let on = leads_there code h.0 pc way.0 forward h.1 way.1 in
    on_to_end code left (suc n) way.0 (height_after h.0 height) (set_after h.0 set) forward on.1 (let lt = on.0 in omega arith) (goes p h.1 way.1))
    (λ (e : pc ≡ length code). (n, height, set, subst (λ (k : ℕ). IsPath code n k height set) e p))
    (at_or_end code pc within)

-- some path reaches the end, so the state there isn't Nothing
pub end_met : (code : List Instr) (inputs : ℕ) (meetings : List Meeting) → JumpsForward code → HasFollowed code inputs (length code) meetings → meeting_at meetings (length code) ≡ Nothing → ⊥
end_met code inputs meetings forward st e =
    let none = held_here code inputs (length code) meetings Nothing st (omega arith) e in
    let p = on_to_end code (length code) 0 0 0 _ forward (omega arith) (omega arith) begins in
    none p.0 p.1 p.2 (arrives_here code forward p.3)

-- how many operands an instruction pops
operands : Instr → ℕ
operands (Keep k) = 1
operands (Binary op) = 2
operands (Unary op) = 1
operands (JumpIfZero to) = 1
operands _ = 0

too_few : (i : Instr) (inputs height : ℕ) (set : List Bool) → height < operands i → IsSupplied i inputs height set → ⊥
unfolding operands
too_few (Keep k) inputs height set lt h = omega (arith, h)
too_few (Binary op) inputs height set lt h = omega (arith, h)
too_few (Unary op) inputs height set lt h = omega (arith, h)
too_few (JumpIfZero to) inputs height set lt h = omega (arith, h)
too_few _ inputs height set lt h = omega arith

stays_different : (i : Instr) (height height' : ℕ) → operands i ≤ height → operands i ≤ height' → height ≢ height' → height_after i height ≢ height_after i height'
unfolding operands
stays_different (Unary op) height height' a b ne = ne
stays_different (Jump to) height height' a b ne = ne
stays_different _ height height' a b ne = omega arith

lacks_operands : (code : List Instr) (inputs n pc height : ℕ) (set : List Bool) (i : Instr) → IsPath code n pc height set → slice_get code pc ≡ Some i → height < operands i → GoesWrong code inputs
lacks_operands code inputs n pc height set i p there few =
    inl (pc, record { n = n; height = height; set = set; path = p; instr = i; there = there; fails = too_few i inputs height set few })

-- if two paths reach the end with different stack heights, one of them ends with other than one value
uneven_end : (code : List Instr) (inputs n m height height' : ℕ) (set set' : List Bool) → IsPath code n (length code) height set → IsPath code m (length code) height' set' → height ≢ height' → GoesWrong code inputs
uneven_end code inputs n m height height' set set' p q ne =
    ⊎_elim
    (λ (e : height ≡ 1).
    let other : height' ≢ 1 = λ f. ne (e ∙ sym f) in
    inr (record { last = refl; n = m; height = height'; set = set'; path = q; other = other }))
    (λ (other : height ≢ 1). inr (record { last = refl; n = n; height = height; set = set; path = p; other = other }))
    (cases_eq height 1)

uneven_wrong : (code : List Instr) (inputs left n m pc height height' : ℕ) (set set' : List Bool) → JumpsForward code → pc ≤ length code → length code ≤ pc + left
    → IsPath code n pc height set → IsPath code m pc height' set' → height ≢ height' → GoesWrong code inputs
uneven_wrong code inputs zero n m pc height height' set set' forward within far p q ne =
    let e : pc ≡ length code = omega arith in
    uneven_end code inputs n m height height' set set' (subst (λ (k : ℕ). IsPath code n k height set) e p) (subst (λ (k : ℕ). IsPath code m k height' set') e q) ne
uneven_wrong code inputs (suc left) n m pc height height' set set' forward within far p q ne =
    ⊎_elim
    (λ (h : (i : Instr) × (slice_get code pc ≡ Some i)).
    let way = some_way h.0 pc in
    let on = leads_there code h.0 pc way.0 forward h.1 way.1 in
    ⊎_elim
    (λ (few : height < operands h.0). lacks_operands code inputs n pc height set h.0 p h.1 few)
    (λ (enough : operands h.0 ≤ height).
    ⊎_elim
    (λ (few : height' < operands h.0). lacks_operands code inputs m pc height' set' h.0 q h.1 few)
    (λ (enough' : operands h.0 ≤ height').
    uneven_wrong code inputs left (suc n) (suc m) way.0 (height_after h.0 height) (height_after h.0 height') (set_after h.0 set) (set_after h.0 set') forward on.1 (let lt = on.0 in omega arith) (goes p h.1 way.1) (goes q h.1 way.1)
    (stays_different h.0 height height' enough enough' ne))
    (cases_lt height' (operands h.0)))
    (cases_lt height (operands h.0)))
    (λ (e : pc ≡ length code).
    uneven_end code inputs n m height height' set set' (subst (λ (k : ℕ). IsPath code n k height set) e p) (subst (λ (k : ℕ). IsPath code m k height' set') e q) ne)
    (at_or_end code pc within)

-- ---- the meaning of a refusal

-- if the path analysis finds a first error, the error has its meaning
pub goes_wrong : (code : List Instr) (inputs : ℕ) (fault : VerifyFault) → JumpsForward code → IsFirst code inputs fault → GoesWrongSo code inputs fault
goes_wrong code inputs (Malformed pc) forward f = (f.wrong, at f.wrong)
  where
    at : IsMalformedAt code inputs pc → GoesWrong code inputs
    at (inl l) = inl (pc, l)
    at (inr (inl u)) = uneven_wrong code inputs (length code) u.n u.n' pc u.height u.height' u.set u.set' forward (path_within code forward u.one) (omega arith) u.one u.other u.different
    at (inr (inr e)) = inr (subst (λ (k : ℕ). EndsBadly code k) e.last e)
goes_wrong code inputs (DepthOver64 pc) forward f = f.overfills
goes_wrong code inputs _ forward f = absurd f

-- if no path of the code misses anything, no path lacks an operand or ends with other than one value
pub not_wrong : (code : List Instr) (inputs : ℕ) → MissesNothing code inputs → GoesWrong code inputs → ⊥
not_wrong code inputs misses (inl w) = w.1.fails (misses.acts w.1.n w.0 w.1.height w.1.set w.1.instr w.1.path w.1.there).supplied
not_wrong code inputs misses (inr w) = w.other (misses.ends w.n w.height w.set w.path)

-- if no path of the code misses anything, the path analysis finds no error
pub no_misfit : (code : List Instr) (inputs : ℕ) (f : VerifyFault) → JumpsForward code → MissesNothing code inputs → IsFirst code inputs f → ⊥
no_misfit code inputs (Malformed pc) forward misses f = not_wrong code inputs misses (goes_wrong code inputs (Malformed pc) forward f).1
no_misfit code inputs (DepthOver64 pc) forward misses f = let o = f.overfills in o.fails (misses.acts o.n pc o.height o.set o.instr o.path o.there).room
no_misfit code inputs _ forward misses f = absurd f
