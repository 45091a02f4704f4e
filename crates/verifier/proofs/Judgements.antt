-- The result of the path analysis, from the state at the end of the code.
use Rattle.std.proofs.Common.{◌≡◌, ◌≢◌, ℕ, ◌+◌, ◌<◌, ◌≤◌, ◌⊎◌, inl, inr, Bool, false, List, length, replicate, Result, Ok, Err, refl, sym, ap, subst, ◌∙◌, arith, slice_index_or, slice_set, get_or-set_other, get_or-set_same}
use Rattle.std.proofs.lemmas.Bool.{cases_lt, cases_eq}
use Rattle.std.proofs.lemmas.List.{length-replicate, get_or-replicate, length-set}
use Rattle.std.proofs.lemmas.Option.{slice_get_within}
use Rattle.kernel_code.specs.declared.instructions.Instr.{Instr}
use Rattle.kernel_code.specs.Code.{IsCode}
use Rattle.kernel_code.specs.Paths.{IsPath}
use Rattle.kernel_code.proofs.PathLaws.{path_within}
use Rattle.verifier.specs.declared.faults.VerifyFault.{VerifyFault}
use Rattle.verifier.specs.declared.faults.VerifyFault.TheVariants.{Malformed}
use Rattle.verifier.specs.declared.meetings.Shape.{Shape}
use Rattle.verifier.specs.declared.meetings.Meeting.{Meeting}
use Rattle.verifier.specs.declared.meetings.Meeting.TheVariants.{Nothing, Level, Uneven}
use Rattle.verifier.specs.Misfits.{IsLevel, IsWellFormed, IsFirstMalformed, IsPathResult}
use Rattle.verifier.specs.Meetings.{IsEnd, meeting_at, Arrives, first, arrivals, IsSummary, Describes, HasFollowed}
use Rattle.verifier.proofs.Arrivals.{arrives_here, is_path, only_start}
use Rattle.verifier.proofs.PathStanding.{level_here, met_here}
use Rattle.verifier.proofs.Refusals.{held_here, uneven, end_met}

-- ---- the beginning

start_summary : (code : List Instr) (s : Shape) → s.height ≡ 0 → s.set ≡ replicate 256 false → s.steps ≡ 0 → IsSummary (arrivals code 0 0) s
start_summary code s height set steps = record {
  long = ap (λ (bs : List Bool). length bs) set ∙ length-replicate 256 false;
  level = λ n h b p. (only_start code p).height' ∙ sym height;
  most = λ n h b p. let e = (only_start code p).n' in omega arith;
  taken = (0, replicate 256 false, subst (λ (n : ℕ). Arrives code 0 n 0 0 (replicate 256 false)) (sym steps) first);
  all_set = λ k e n h b p. ap (λ (bs : List Bool). slice_index_or bs k false) ((only_start code p).set' ∙ sym set) ∙ e;
  some_unset = λ k e. (0, 0, replicate 256 false, first, ap (λ (bs : List Bool). slice_index_or bs k false) (sym set) ∙ e);
}

-- the invariant holds at the start: only index 0 has a path, the empty one
pub stands_first : (code : List Instr) (inputs : ℕ) (s : Shape) (meetings : List Meeting) → meetings ≡ slice_set (replicate (length code + 1) Nothing) 0 (Level s) → s.height ≡ 0 → s.set ≡ replicate 256 false → s.steps ≡ 0
    → HasFollowed code inputs 0 meetings
stands_first code inputs s meetings e height set steps = record {
  long = ap (λ (ms : List Meeting). length ms) e ∙ length-set (replicate (length code + 1) Nothing) 0 (Level s) ∙ length-replicate (length code + 1) Nothing;
  fits = λ k lt. absurd (omega arith);
  held = λ at le within. subst (λ (ms : List Meeting). Describes (arrivals code 0 at) (meeting_at ms at)) (sym e) (held at within (cases_eq at 0));
}
  where
    long : 0 < length (replicate (length code + 1) Nothing)
    long = let l = length-replicate (length code + 1) Nothing in omega arith

    held : (at : ℕ) → at ≤ length code → (at ≡ 0) ⊎ (at ≢ 0) → Describes (arrivals code 0 at) (meeting_at (slice_set (replicate (length code + 1) Nothing) 0 (Level s)) at)
    held at within (inl zero') =
        let same : meeting_at (slice_set (replicate (length code + 1) Nothing) 0 (Level s)) 0 ≡ Level s = get_or-set_same (replicate (length code + 1) Nothing) 0 (Level s) Nothing long in
        subst (λ (k : ℕ). Describes (arrivals code 0 k) (meeting_at (slice_set (replicate (length code + 1) Nothing) 0 (Level s)) k)) (sym zero')
        (subst (λ (m : Meeting). Describes (arrivals code 0 0) m) (sym same) (start_summary code s height set steps))
    held at within (inr ne) =
        let same : meeting_at (slice_set (replicate (length code + 1) Nothing) 0 (Level s)) at ≡ Nothing = get_or-set_other (replicate (length code + 1) Nothing) 0 at (Level s) Nothing ne ∙ get_or-replicate (length code + 1) at Nothing Nothing (omega arith) in
        subst (λ (m : Meeting). Describes (arrivals code 0 at) m) (sym same) (λ n h b p. ne (only_start code p).pc')

-- ---- the end

is_well_formed : (code : List Instr) (inputs : ℕ) (s : Shape) (meetings : List Meeting) → IsCode code → HasFollowed code inputs (length code) meetings → meeting_at meetings (length code) ≡ Level s → s.height ≡ 1 → IsWellFormed code inputs s.steps
is_well_formed code inputs s meetings c st e one = record {
  misses = record {
    acts = λ n pc height set i p there.
        let f = st.fits pc (slice_get_within code pc i there) in
        record { supplied = f.supplied n height set i p there; room = f.room n height set i p there };
    ends = λ n height set p. x.level n height set (arrives_here code c.forward p) ∙ one;
  };
  level = λ pc. level pc (cases_lt pc (length code));
  longest = record {
    most = λ n height set p. x.most n height set (arrives_here code c.forward p);
    taken = (x.taken.0, x.taken.1, is_path code x.taken.2);
  };
}
  where
    x : IsSummary (arrivals code (length code) (length code)) s
    x = held_here code inputs (length code) meetings (Level s) st (omega arith) e

    level : (pc : ℕ) → (pc < length code) ⊎ (length code ≤ pc) → IsLevel code pc
    level pc (inl lt) = (st.fits pc lt).level
    level pc (inr le) = λ n m height height' set set' p q.
        let at : pc ≡ length code = let w = path_within code c.forward p in omega arith in
        level_here code (length code) s c.forward x n m height height' set set' (subst (λ (k : ℕ). IsPath code n k height set) at p) (subst (λ (k : ℕ). IsPath code m k height' set') at q)

ends_badly : (code : List Instr) (inputs : ℕ) (s : Shape) (meetings : List Meeting) → HasFollowed code inputs (length code) meetings → meeting_at meetings (length code) ≡ Level s → s.height ≢ 1 → IsFirstMalformed code inputs (length code)
ends_badly code inputs s meetings st e other =
    let x = held_here code inputs (length code) meetings (Level s) st (omega arith) e in
    let same : x.taken.0 ≡ s.height = x.level s.steps x.taken.0 x.taken.1 x.taken.2 in
    record {
      below = st.fits;
      wrong = inr (inr (record { last = refl; n = s.steps; height = x.taken.0; set = x.taken.1; path = is_path code x.taken.2; other = λ f. other (sym same ∙ f) }));
    }

judged_end : (code : List Instr) (inputs : ℕ) (meetings : List Meeting) (m : Meeting) (r : Result ℕ VerifyFault) → IsCode code → HasFollowed code inputs (length code) meetings → meeting_at meetings (length code) ≡ m → IsEnd m (length code) r
    → IsPathResult code inputs r
judged_end code inputs meetings (Level s) (Ok steps) c st e h = subst (λ (n : ℕ). IsWellFormed code inputs n) (sym h.1) (is_well_formed code inputs s meetings c st e h.0)
judged_end code inputs meetings (Level s) (Err (Malformed pc)) c st e h = subst (λ (k : ℕ). IsFirstMalformed code inputs k) (sym h.1) (ends_badly code inputs s meetings st e h.0)
judged_end code inputs meetings Uneven (Err (Malformed pc)) c st e h = subst (λ (k : ℕ). IsFirstMalformed code inputs k) (sym h) (uneven code inputs (length code) meetings (omega arith) st e)
judged_end code inputs meetings _ _ c st e h = absurd h

-- ---- the state at the end

record IsRead (code : List Instr) (inputs : ℕ) (meetings : List Meeting) (m : Meeting) : Type 0 where
  code' : IsCode code
  stands : HasFollowed code inputs (length code) meetings
  there : meeting_at meetings (length code) ≡ m

is_read : (code is : List Instr) (inputs here : ℕ) (meetings : List Meeting) (m : Meeting) → is ≡ code → IsCode code → HasFollowed is inputs here meetings → here ≡ length is → m ≡ slice_index_or meetings (length is) m → IsRead is inputs meetings m
is_read code is inputs here meetings m same c st last read =
    let st' = subst (λ (k : ℕ). HasFollowed is inputs k meetings) last st in
    record { code' = subst IsCode (sym same) c; stands = st'; there = met_here is inputs (length is) meetings m m (omega arith) st' read refl }

-- once all instructions were visited, the result for the state at the end is the result of the path analysis
pub judged_last : (code is : List Instr) (inputs here : ℕ) (meetings : List Meeting) (m : Meeting) (r : Result ℕ VerifyFault) → is ≡ code → IsCode code → HasFollowed is inputs here meetings → here ≡ length is
    → m ≡ slice_index_or meetings (length is) m → IsEnd m (length is) r → IsPathResult code inputs r
judged_last code is inputs here meetings m r same c st last read e =
    let x = is_read code is inputs here meetings m same c st last read in
    subst (λ (k : List Instr). IsPathResult k inputs r) same (judged_end is inputs meetings m r x.code' x.stands x.there e)

-- some path reaches the end, so the state there isn't Nothing
pub some_last : (code is : List Instr) (inputs here : ℕ) (meetings : List Meeting) (m : Meeting) → is ≡ code → IsCode code → HasFollowed is inputs here meetings → here ≡ length is → m ≡ slice_index_or meetings (length is) m → m ≡ Nothing → ⊥
some_last code is inputs here meetings m same c st last read e =
    let x = is_read code is inputs here meetings m same c st last read in
    end_met is inputs meetings x.code'.forward x.stands (x.there ∙ e)
