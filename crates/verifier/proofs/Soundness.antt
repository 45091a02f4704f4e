-- Soundness of verdicts: accepted code never faults, and each error holds of one of the code's runs or paths.
use Rattle.std.proofs.Common.{◌≡◌, ℕ, zero, suc, ◌+◌, ◌*◌, ◌/◌, ◌%◌, ◌^◌, ◌<◌, ◌≤◌, List, length, Option, Some, None, Result, Ok, Err, refl, sym, ap, ◌∙◌, subst, arith, ℤ, pos, negsuc, ◌≤ℤ◌, ◌<ℤ◌, ◌+ℤ◌, ◌-ℤ◌, ⊎_elim, max, lit<, slice_get, option_map, unsigned_abs}
use Rattle.std.proofs.Math.Nat.{div-lt_iff_lt-mul, lt-div-mul-add, pow-suc}
use Rattle.std.proofs.lemmas.Bool.{cases_lt}
use Rattle.std.proofs.lemmas.Int.{ints, by_lt_z}
use Rattle.std.proofs.lemmas.Nat.{div_below, div-mul-add, mod_below, mod-mul-add, mul-add-lt, mul-le}
use Rattle.fixed.specs.Fractions.{bits_of}
use Rattle.fixed.specs.declared.faults.Fault as faults
use Rattle.fixed.proofs.FloorLemmas.{floor_over_is}
use Rattle.interval_domain.specs.declared.span.Span.{Span}
use Rattle.interval_domain.specs.Spans.{AreHalves}
use Rattle.kernel_code.specs.declared.instructions.Instr.{Instr}
use Rattle.kernel_code.specs.declared.traps.Trap.{Trap}
use Rattle.kernel_code.specs.declared.traps.TrapKind.{TrapKind}
use Rattle.kernel_code.specs.declared.traps.TrapKind.TheVariants.{Operation}
use Rattle.kernel_code.specs.Code.{IsCode, JumpsForward}
use Rattle.kernel_code.specs.Machine.{State, Transition, act, end_of, Ends}
use Rattle.kernel_code.specs.Paths.{IsPath, IsLongest}
use Rattle.kernel_code.specs.Tables.{Table, inputs_of}
use Rattle.kernel_code.proofs.PathLaws.{at_end, set_of, run_is_path, path_within}
use Rattle.verifier.proofs.Refusals.{goes_wrong}
use Rattle.verifier.specs.declared.faults.VerifyFault.{VerifyFault}
use Rattle.verifier.specs.declared.faults.VerifyFault.TheVariants.{Malformed, DepthOver64, Fault, Undecided}
use Rattle.verifier.specs.Safety.{IsCertified, IsRefusal, IsUndecided, Traps}
use Rattle.verifier.specs.Verdicts.{Answer, IsAtEnds, IsAtOne, IsBounded, IsFoundOf, IsInTurn, IsPiece, IsPieceAnswer, IsRest, IsSliceAnswer, IsTold, IsVerdict, Range, bounded, empty, first, full, neither, second, single, stopped}
use Rattle.verifier.proofs.Inputs.{hold_inputs}
use Rattle.verifier.proofs.Runs.{gives_in}

-- ---- the meaning of an answer for an interval of distances

-- the run gives a value of at most this magnitude
record GivesWithin (code : List Instr) (t : Table) (a b : ℕ) (r : ℤ) (bound : ℕ) : Type 0 where
  value : ℤ
  n : ℕ
  ends : Ends (bits_of t.frac) code (inputs_of t a b r) n (Ok value)
  small : unsigned_abs value ≤ bound

-- the run gives such a value at each distance from `from` to `last`
abbrev IsSafeAt : List Instr → Table → (a b : ℕ) → (from last : ℤ) → (bound : ℕ) → Type 0
IsSafeAt code t a b from last bound = (r : ℤ) → from ≤ℤ r → r ≤ℤ last → GivesWithin code t a b r bound

-- the search's error holds at these distances, if ranges of at most `limit` distances are always decided
abbrev pub IsFound : List Instr → Table → (from last : ℤ) → (limit : ℕ) → VerifyFault → Type 0
IsFound code t from last limit (Fault a b r pc fault) = Traps code t from last a b r (record { pc = pc; kind = Operation fault })
IsFound code t from last limit (Undecided a b lo hi pc fault) = IsUndecided code t from last limit a b lo hi
IsFound code t from last limit _ = ⊥

abbrev IsSoundAnswer : List Instr → Table → (a b : ℕ) → (from last : ℤ) → (limit : ℕ) → Answer → Type 0
IsSoundAnswer code t a b from last limit (Ok bound) = IsSafeAt code t a b from last bound
IsSoundAnswer code t a b from last limit (Err f) = IsFound code t from last limit f

gives_weaker : (code : List Instr) (t : Table) (a b : ℕ) (r : ℤ) (x y : ℕ) → x ≤ y → GivesWithin code t a b r x → GivesWithin code t a b r y
gives_weaker code t a b r x y h g = record { value = g.value; n = g.n; ends = g.ends; small = omega (arith, g.small, h) }

-- a refusal that is found at some distances is found at more of them
found_within : (code : List Instr) (t : Table) (from last from' last' : ℤ) (limit limit' : ℕ) (f : VerifyFault) → from' ≤ℤ from → last ≤ℤ last' → ((from +ℤ pos limit) ≤ℤ last → (from' +ℤ pos limit') ≤ℤ last') → IsFound code t from last limit f → IsFound code t from' last' limit' f
found_within code t from last from' last' limit limit' (Fault x y r pc fault) a b w h =
    record { first = h.first; second = h.second; low = omega (arith, ints, a, h.low); high = omega (arith, ints, b, h.high); n = h.n; ends = h.ends }
found_within code t from last from' last' limit limit' (Undecided x y lo hi pc fault) a b w h =
    record { first = h.first; second = h.second; low = omega (arith, ints, a, h.low); two = h.two; high = omega (arith, ints, b, h.high); at_lo = h.at_lo; at_hi = h.at_hi; wide = w h.wide }
found_within code t from last from' last' limit limit' _ a b w h = h

-- ---- some distances of a pair of types

-- a number between two is no larger than the larger of them
abs_between : (lo x hi : ℤ) → lo ≤ℤ x → x ≤ℤ hi → unsigned_abs x ≤ max (unsigned_abs lo) (unsigned_abs hi)
abs_between (pos m) (pos n) (negsuc k) a b = absurd (omega (arith, ints))
abs_between (pos m) (negsuc n) hi a b = absurd (omega (arith, ints))
abs_between (negsuc m) (pos n) (negsuc k) a b = absurd (omega (arith, ints))
abs_between (negsuc m) (negsuc n) hi a b = let c : n ≤ m = omega (arith, ints) in omega arith
abs_between _ (pos n) (pos k) a b = let c : n ≤ k = omega (arith, ints) in omega arith

module _ (code : List Instr) (t : Table) (a b : ℕ) (forward : JumpsForward code) (la : a < length t.rows) (lb : b < length t.rows) where
  one_says : (r : ℤ) (limit : ℕ) (x : Answer) → IsAtOne code t a b r x → IsSoundAnswer code t a b r r limit x
  one_says r limit x h = at h.outcome x h.ends h.told
    where
      at : (o : Result ℤ Trap) (x : Answer) → Ends (bits_of t.frac) code (inputs_of t a b r) h.n o → IsTold a b r o x → IsSoundAnswer code t a b r r limit x
      at (Ok v) (Ok bound) ends told = λ q low high. subst (λ (z : ℤ). GivesWithin code t a b z bound) (omega (arith, ints, low, high)) (record { value = v; n = h.n; ends = ends; small = omega (arith, told) })
      at (Ok v) (Err f) ends told = absurd told
      at (Err trap) (Ok bound) ends told = absurd told
      at (Err trap) (Err f) ends told =
          let ends' = subst (λ (k : TrapKind). Ends (bits_of t.frac) code (inputs_of t a b r) h.n (Err (record { pc = trap.pc; kind = k }))) told.1 ends in
          subst (IsFound code t r r limit) (sym told.2) (record { first = la; second = lb; low = omega (arith, ints); high = omega (arith, ints); n = h.n; ends = ends' })

  bounded_says : (s : Span) (bound : ℕ) → IsBounded code t a b s bound → IsSafeAt code t a b s.lo s.hi bound
  bounded_says s bound h r low high =
      let g = gives_in (bits_of t.frac) code h.spans forward (inputs_of t a b r) h.result h.gives (hold_inputs t a b s h.spans r h.inputs (record { at_least = low; at_most = high })) in
      let small = abs_between h.result.lo g.value h.result.hi g.member.at_least g.member.at_most in
      record { value = g.value; n = g.n; ends = g.ends; small = omega (arith, small, h.bound') }

  ends_say : (s : Span) (pc : ℕ) (kind : faults.Fault) (x : Answer) → s.lo <ℤ s.hi → IsAtEnds code t a b s pc kind x → IsSoundAnswer code t a b s.lo s.hi 1 x
  ends_say s pc kind x lt (first {f = f} p) =
      found_within code t s.lo s.lo s.lo s.hi 1 1 f (omega (arith, ints)) (omega (arith, ints, lt)) (λ w. absurd (omega (arith, ints, w))) (one_says s.lo 1 (Err f) p)
  ends_say s pc kind x lt (second {f = f} p q) =
      found_within code t s.hi s.hi s.lo s.hi 1 1 f (omega (arith, ints, lt)) (omega (arith, ints)) (λ w. absurd (omega (arith, ints, w))) (one_says s.hi 1 (Err f) q)
  ends_say s pc kind x lt (neither {x = m} {y = k} p q) =
      let lo = one_says s.lo 1 (Ok m) p s.lo (omega (arith, ints)) (omega (arith, ints)) in
      let hi = one_says s.hi 1 (Ok k) q s.hi (omega (arith, ints)) (omega (arith, ints)) in
      record {
        first = la;
        second = lb;
        low = omega (arith, ints);
        two = lt;
        high = omega (arith, ints);
        at_lo = record { value = lo.value; n = lo.n; ends = lo.ends };
        at_hi = record { value = hi.value; n = hi.n; ends = hi.ends };
        wide = omega (arith, ints, lt);
      }

  halves_say : (s l u : Span) (limit limit' : ℕ) (A B : Answer → Type 0) (x : Answer) → s.lo <ℤ s.hi → limit' ≡ limit + limit → AreHalves s l u → ((y : Answer) → A y → IsSoundAnswer code t a b l.lo l.hi limit y) → ((y : Answer) → B y → IsSoundAnswer code t a b u.lo u.hi limit y)
      → IsInTurn A B (λ m n. Ok (max m n)) x → IsSoundAnswer code t a b s.lo s.hi limit' x
  halves_say s l u limit limit' A B x two e h da db (first {f = f} p) =
      let q = floor_over_is (s.hi -ℤ s.lo) 2 (lit< tt) in
      let from = h.from in
      let mid = h.middle in
      found_within code t l.lo l.hi s.lo s.hi limit limit' f (omega (arith, ints, from)) (omega (arith, ints, mid, two, q.at_most, q.next_above))
      (λ w. omega (arith, ints, from, mid, two, e, w, q.at_most, q.next_above)) (da (Err f) p)
  halves_say s l u limit limit' A B x two e h da db (second {f = f} p r) =
      let q = floor_over_is (s.hi -ℤ s.lo) 2 (lit< tt) in
      let mid = h.middle in
      let next = h.next in
      let to = h.to in
      found_within code t u.lo u.hi s.lo s.hi limit limit' f (omega (arith, ints, next, mid, two, q.at_most, q.next_above)) (omega (arith, ints, to))
      (λ w. omega (arith, ints, next, to, mid, two, e, w, q.at_most, q.next_above)) (db (Err f) r)
  halves_say s l u limit limit' A B x two e h da db (neither {x = m} {y = n} p q) = λ r low high.
      by_lt_z {P = GivesWithin code t a b r (max m n)} r u.lo
      (λ lt. gives_weaker code t a b r m (max m n) (omega arith) (da (Ok m) p r (let from = h.from in omega (arith, ints, from, low)) (let next = h.next in omega (arith, ints, next, lt))))
      (λ le. gives_weaker code t a b r n (max m n) (omega arith) (db (Ok n) q r (omega (arith, ints, le)) (let to = h.to in omega (arith, ints, to, high))))

  piece_of : (s : Span) (limit : ℕ) (Rest : ℕ → faults.Fault → Answer → Type 0) (x : Answer) → ((pc : ℕ) (kind : faults.Fault) (y : Answer) → s.lo <ℤ s.hi → Rest pc kind y → IsSoundAnswer code t a b s.lo s.hi limit y) → IsPiece code t a b s Rest x → IsSoundAnswer code t a b s.lo s.hi limit x
  piece_of s limit Rest x rest (single e h) = subst (λ (z : ℤ). IsSoundAnswer code t a b s.lo z limit x) e (one_says s.lo limit x h)
  piece_of s limit Rest x rest (bounded {bound = bound} lt h) = bounded_says s bound h
  piece_of s limit Rest x rest (stopped {pc = pc} {kind = kind} lt p h) = rest pc kind x lt h

  rest_says : (depth : ℕ) (s : Span) (pc : ℕ) (kind : faults.Fault) (x : Answer) → s.lo <ℤ s.hi → IsRest code t a b depth s pc kind x → IsSoundAnswer code t a b s.lo s.hi (2 ^ depth) x
  unfolding IsRest
  rest_says zero s pc kind x lt h = ends_say s pc kind x lt h
  rest_says (suc d) s pc kind x lt h =
      let p : 2 ^ suc d ≡ 2 ^ d * 2 = pow-suc 2 d in
      halves_say s h.lower h.upper (2 ^ d) (2 ^ suc d) (IsPieceAnswer code t a b d h.lower) (IsPieceAnswer code t a b d h.upper) x lt (omega (arith, p)) h.halves
      (λ y i. piece_of h.lower (2 ^ d) (IsRest code t a b d h.lower) y (rest_says d h.lower) i)
      (λ y i. piece_of h.upper (2 ^ d) (IsRest code t a b d h.upper) y (rest_says d h.upper) i)
      h.both

  piece_says : (depth : ℕ) (s : Span) (x : Answer) → IsPieceAnswer code t a b depth s x → IsSoundAnswer code t a b s.lo s.hi (2 ^ depth) x
  piece_says depth s x h = piece_of s (2 ^ depth) (IsRest code t a b depth s) x (rest_says depth s) h

-- ---- slices

-- a slice of few distances is short
share_short : (w i s k : ℕ) → 0 < s → w ≤ s * k → w * (i + 1) / s ≤ w * i / s + k
share_short w i s k p h =
    let q = w * i / s in
    let below : w * i < w * i / s * s + s = lt-div-mul-add p in
    let far : w * (i + 1) < (w * i / s + k + 1) * s = omega (arith, below, h) in
    let short : w * (i + 1) / s < w * i / s + k + 1 = (div-lt_iff_lt-mul p).1 far in
    omega (arith, short)

-- no slice ends past all distances
share_within : (w i s : ℕ) → i < s → w * (i + 1) / s ≤ w
share_within w i s lt =
    let p : 0 < s = omega (arith, lt) in
    let all = mul-le w (i + 1) w s (omega arith) (omega (arith, lt)) in
    let far : w * (i + 1) < (w + 1) * s = omega (arith, all, p) in
    let short : w * (i + 1) / s < w + 1 = (div-lt_iff_lt-mul p).1 far in
    omega (arith, short)

-- each of w distances is in a slice
share_of : (w d s n : ℕ) → 0 < s → d < w * n / s → (i : ℕ) × (i < n) × (w * i / s ≤ d) × (d < w * (i + 1) / s)
share_of w d s zero p h = let none : w * 0 / s < 1 = div_below (w * 0) s 1 p (omega (arith, p)) in absurd (omega (arith, h, none))
share_of w d s (suc n) p h =
    ⊎_elim
    (λ (lt : d < w * n / s). let r = share_of w d s n p lt in (r.0, omega (arith, r.1), r.2, r.3))
    (λ (le : w * n / s ≤ d). (n, omega arith, le, subst (λ (k : ℕ). d < w * k / s) (omega arith) h))
    (cases_lt d (w * n / s))

-- if there is a pair, there is a type
pub some_type : (q n : ℕ) → q < n * n → 0 < n
some_type q zero lt = absurd (omega (arith, lt))
some_type q (suc n) lt = omega arith

module _ (code : List Instr) (t : Table) (g : Range) (forward : JumpsForward code) (some : 0 < g.slices) where
  -- a refusal in a slice
  slice_found : (a b i : ℕ) (f : VerifyFault) → a < length t.rows → b < length t.rows → i < g.slices → IsSliceAnswer code t g a b i (Err f) → IsFound code t g.core (g.cutoff -ℤ pos 1) (g.slices * 2 ^ g.depth) f
  slice_found a b i f la lb li (full {s = s} h p) =
      let wide = h.wide in
      let low = h.low in
      let high = h.high in
      let within = share_within h.width i g.slices li in
      found_within code t s.lo s.hi g.core (g.cutoff -ℤ pos 1) (2 ^ g.depth) (g.slices * 2 ^ g.depth) f (omega (arith, ints, low)) (omega (arith, ints, high, wide, within))
      (λ w.
      ⊎_elim
      (λ (lt : g.slices * 2 ^ g.depth < h.width). omega (arith, ints, lt, wide))
      (λ (le : h.width ≤ g.slices * 2 ^ g.depth). let short = share_short h.width i g.slices (2 ^ g.depth) some le in absurd (omega (arith, ints, short, low, high, w)))
      (cases_lt (g.slices * 2 ^ g.depth) h.width))
      (piece_says code t a b forward la lb g.depth s (Err f) p)

  -- a distance in a slice with a magnitude
  slice_gives : (a b i w d x : ℕ) (r : ℤ) → a < length t.rows → b < length t.rows → (g.core +ℤ pos w) ≡ g.cutoff → r ≡ (g.core +ℤ pos d) → w * i / g.slices ≤ d → d < w * (i + 1) / g.slices → IsSliceAnswer code t g a b i (Ok x) → GivesWithin code t a b r x
  slice_gives a b i w d x r la lb wide at le lt (empty e) =
      let none = e.none in
      let same : e.width ≡ w = let wide' = e.wide in omega (arith, ints, wide, wide') in
      let none' : w * (i + 1) / g.slices ≤ w * i / g.slices = subst (λ (k : ℕ). k * (i + 1) / g.slices ≤ k * i / g.slices) same none in
      absurd (omega (arith, le, lt, none'))
  slice_gives a b i w d x r la lb wide at le lt (full {s = s} h p) =
      let same : w ≡ h.width = let wide' = h.wide in omega (arith, ints, wide, wide') in
      let le' : h.width * i / g.slices ≤ d = subst (λ (k : ℕ). k * i / g.slices ≤ d) same le in
      let lt' : d < h.width * (i + 1) / g.slices = subst (λ (k : ℕ). d < k * (i + 1) / g.slices) same lt in
      let low = h.low in
      let high = h.high in
      piece_says code t a b forward la lb g.depth s (Ok x) p r (omega (arith, ints, low, at, le')) (omega (arith, ints, high, at, lt'))

  -- ---- all pairs

  -- a refusal that is found in one of them
  pub all_found : (f : VerifyFault) → IsFoundOf code t g (Err f) → IsFound code t g.core (g.cutoff -ℤ pos 1) (g.slices * 2 ^ g.depth) f
  all_found f h =
      let n = length t.rows in
      let types : 0 < n = some_type h.at n h.within in
      let slice = h.refuses in
      slice_found (h.at / n) (h.at % n) slice.at f (div_below h.at n n types h.within) (mod_below h.at n types) slice.within slice.refuses

  same_pair : (a a' b b' i : ℕ) (x : Answer) → a' ≡ a → b' ≡ b → IsSliceAnswer code t g a' b' i x → IsSliceAnswer code t g a b i x
  same_pair a a' b b' i x p q h = rw (← p, ← q) h

  in_slice : (a b i bound : ℕ) → a < length t.rows → b < length t.rows → i < g.slices → IsFoundOf code t g (Ok bound) → (x : ℕ) × IsSliceAnswer code t g a b i (Ok x) × (x ≤ bound)
  in_slice a b i bound la lb li h =
      let n = length t.rows in
      let pair = h.each (a * n + b) (mul-add-lt a n b n la lb) in
      let slice = pair.1.each i li in
      let most = pair.2 in
      let le = slice.2 in
      (slice.0, same_pair a _ b _ i (Ok slice.0) (div-mul-add a n b lb) (mod-mul-add a n b lb) slice.1, omega (arith, most, le))

  all_give : (a b : ℕ) (r : ℤ) (bound : ℕ) → a < length t.rows → b < length t.rows → g.core ≤ℤ r → r <ℤ g.cutoff → IsFoundOf code t g (Ok bound) → GivesWithin code t a b r bound
  all_give a b r bound la lb low high h =
      let w = distance g.core g.cutoff (omega (arith, ints, low, high)) in
      let d = distance g.core r low in
      let none : w.0 * g.slices ≡ w.0 * g.slices + 0 = omega arith in
      let all : w.0 * g.slices / g.slices ≡ w.0 = ap (λ (k : ℕ). k / g.slices) none ∙ div-mul-add w.0 g.slices 0 some in
      let i = share_of w.0 d.0 g.slices g.slices some (let wide = w.1 in let at = d.1 in omega (arith, ints, all, wide, at, high)) in
      let each = in_slice a b i.0 bound la lb i.1 h in
      gives_weaker code t a b r each.0 bound each.2 (slice_gives a b i.0 w.0 d.0 each.0 r la lb w.1 (sym d.1) i.2 i.3 each.1)
    where
      natural : (z : ℤ) → pos 0 ≤ℤ z → (k : ℕ) × (z ≡ pos k)
      natural (pos k) h = (k, refl)
      natural (negsuc k) h = absurd (omega (arith, ints, h))

      distance : (x y : ℤ) → x ≤ℤ y → (k : ℕ) × ((x +ℤ pos k) ≡ y)
      distance x y le = let k = natural (y -ℤ x) (omega (arith, ints, le)) in let e = k.1 in (k.0, omega (arith, ints, e))

-- ---- verdicts

no_turn : (s : State) (t : Transition) (v : ℤ) → end_of s (Some t) ≡ Some (Ok v) → ⊥
no_turn s (Ok next) v e = absurd cc
no_turn s (Err kind) v e = absurd cc

-- a run that gives a value has no more instructions than the longest path
value_few : (bits : ℕ) (code : List Instr) (inputs : List ℤ) (n steps : ℕ) (v : ℤ) → JumpsForward code → IsLongest code steps → Ends bits code inputs n (Ok v) → n ≤ steps
value_few bits code inputs n steps v forward longest e = at (slice_get code s.pc) refl e.over
  where
    s : State
    s = e.state

    path : IsPath code n s.pc (length s.stack) (set_of s.locals)
    path = run_is_path bits code inputs n s e.reached

    at : (o : Option Instr) → slice_get code s.pc ≡ o → end_of s (option_map (λ i. act bits i inputs s.pc s.stack s.locals) o) ≡ Some (Ok v) → n ≤ steps
    at None here over =
        let last : s.pc ≡ length code = at_end code s.pc (path_within code forward path) here in
        longest.most n (length s.stack) (set_of s.locals) (subst (λ (pc : ℕ). IsPath code n pc (length s.stack) (set_of s.locals)) last path)
    at (Some i) here over = absurd (no_turn s (act bits i inputs s.pc s.stack s.locals) v over)

-- code whose verdict is a bound is certified with it, and with the number of instructions on its longest path
pub accepted_is_safe : (code : List Instr) (t : Table) (g : Range) (steps bound : ℕ) → 0 < g.slices → IsLongest code steps → IsVerdict code t g (Ok bound) → IsCertified code t g.core g.cutoff steps bound
accepted_is_safe code t g steps bound some longest v = record {
  each = λ a b r la lb low high.
      let h = all_give code t g v.is_code.forward some a b r bound la lb low high v.found in
      record { value = h.value; n = h.n; ends = h.ends; few = value_few (bits_of t.frac) code (inputs_of t a b r) h.n steps h.value v.is_code.forward longest h.ends; small = h.small };
  longest = longest;
  misses = v.misses;
}

-- if the verdict is an error, the error holds of the code
pub refused_is_wrong : (code : List Instr) (t : Table) (g : Range) (f : VerifyFault) → IsCode code → 0 < g.slices → IsVerdict code t g (Err f) → IsRefusal code t g.core g.cutoff (g.slices * 2 ^ g.depth) f
refused_is_wrong code t g (Malformed pc) is some v = goes_wrong code _ (Malformed pc) is.forward v
refused_is_wrong code t g (DepthOver64 pc) is some v = v.overfills
refused_is_wrong code t g f is some v = all_found code t g is.forward some f v.found
