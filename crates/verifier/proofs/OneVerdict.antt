-- Two verdicts on one code are the same.
use Rattle.std.proofs.Common.{◌≡◌, ℕ, zero, suc, ◌+◌, ◌*◌, ◌/◌, ◌%◌, ◌<◌, ◌≤◌, List, length, Some, Result, Ok, Err, refl, sym, ap, ◌∙◌, subst, arith, ⊎_elim, ℤ, pos, ◌+ℤ◌, ◌-ℤ◌, max, slice_index_or, slice_get}
use Rattle.std.proofs.lemmas.Int.{ints}
use Rattle.std.proofs.lemmas.Bool.{cases_lt}
use Rattle.std.proofs.lemmas.Option.{slice_get-get_or, slice_get_within}
use Rattle.fixed.specs.Fractions.{bits_of}
use Rattle.fixed.specs.declared.faults.Fault.{Fault}
use Rattle.interval_domain.specs.declared.span.Span.{Span}
use Rattle.interval_domain.specs.Spans.{IsWithin, AreHalves}
use Rattle.kernel_code.specs.declared.instructions.Instr.{Instr}
use Rattle.kernel_code.specs.declared.traps.Trap.{Trap}
use Rattle.kernel_code.specs.Code.{JumpsForward}
use Rattle.kernel_code.specs.Tables.{Table, inputs_of}
use Rattle.kernel_code.proofs.Runs.{one_end}
use Rattle.verifier.specs.Misfits.{IsFirst}
use Rattle.verifier.proofs.OneJudgement.{one_judgement}
use Rattle.verifier.proofs.Refusals.{no_misfit}
use Rattle.verifier.specs.declared.faults.VerifyFault.{VerifyFault}
use Rattle.verifier.specs.declared.faults.VerifyFault.TheVariants as fault
use Rattle.verifier.specs.Safety.{input_count}
use Rattle.verifier.specs.Verdicts.{Answer, AreInputSpans, IsAtEnds, IsAtOne, IsBounded, IsEmptySlice, IsFoundOf, IsGreatest, IsInTurn, IsJoint, IsOneInput, IsPiece, IsPieceAnswer, IsRest, IsSearched, IsSlice, IsSliceAnswer, IsStopped, IsTold, IsVerdict, Range, bounded, empty, first, full, magnitude_of, neither, pair_answer, second, single, stopped}
use Rattle.verifier.proofs.Within.{AreInputsWithin, ones_within}
use Rattle.verifier.proofs.Determined.{gives_no_stop, gives_within, stops_same}

-- ---- spans of the same ends

ends_within : (s t : Span) → s.lo ≡ t.lo → s.hi ≡ t.hi → IsWithin s t
ends_within s t e f = record { members = λ x m. record { at_least = omega (arith, ints, e, m.at_least); at_most = omega (arith, ints, f, m.at_most) } }

same_magnitude : (s t : Span) → IsWithin s t → IsWithin t s → magnitude_of s ≡ magnitude_of t
same_magnitude s t p q =
    let sl = p.members s.lo (record { at_least = omega (arith, ints); at_most = s.ordered }) in
    let sh = p.members s.hi (record { at_least = s.ordered; at_most = omega (arith, ints) }) in
    let tl = q.members t.lo (record { at_least = omega (arith, ints); at_most = t.ordered }) in
    let th = q.members t.hi (record { at_least = t.ordered; at_most = omega (arith, ints) }) in
    let e : s.lo ≡ t.lo = omega (arith, ints, sl.at_least, tl.at_least) in
    let f : s.hi ≡ t.hi = omega (arith, ints, sh.at_most, th.at_most) in
    rw (e, f) refl

module _ (t : Table) (a b : ℕ) where
  one_input : (r r' : ℤ) (k : ℕ) (s s' : Span) → r ≡ r' → IsOneInput t a b r k s → IsOneInput t a b r' k s' → IsWithin s s'
  one_input r r' k s s' e p q =
      let there : slice_get (inputs_of t a b r') k ≡ Some p.value = subst (λ (x : ℤ). slice_get (inputs_of t a b x) k ≡ Some p.value) e p.there in
      let there' = q.there in
      let same : p.value ≡ q.value = cc in
      ones_within p.value q.value s s' same p.one q.one

  inputs_same : (d d' : Span) (xs ys : List Span) → d.lo ≡ d'.lo → d.hi ≡ d'.hi → AreInputSpans t a b d xs → AreInputSpans t a b d' ys → AreInputsWithin xs ys
  inputs_same d d' xs ys e f p q = record { each = each }
    where
      each : (k : ℕ) (s : Span) → slice_get xs k ≡ Some s → (u : Span) × (slice_get ys k ≡ Some u) × IsWithin s u
      each zero s at =
          let first = p.first in
          let same : d ≡ s = cc in
          (d', q.first, subst (λ (x : Span). IsWithin x d') same (ends_within d d' e f))
      each (suc k) s at =
          let short = slice_get_within xs (suc k) s at in
          let u = slice_index_or ys (suc k) s in
          let there = slice_get-get_or ys (suc k) s (omega (arith, short, p.long, q.long)) in
          (u, there, one_input d.lo d'.lo (suc k) s u e (p.others (suc k) s (omega arith) at) (q.others (suc k) u (omega arith) there))

-- ---- one distance

told_same : (a b : ℕ) (r : ℤ) (o : Result ℤ Trap) (x y : Answer) → IsTold a b r o x → IsTold a b r o y → x ≡ y
told_same a b r (Ok v) (Ok x) (Ok y) p q = ap Ok (p ∙ sym q)
told_same a b r (Err trap) (Err f) (Err g) p q = cc (p.1, p.2, q.1, q.2)
told_same a b r (Ok v) (Err f) y p q = absurd p
told_same a b r (Err trap) (Ok x) y p q = absurd p
told_same a b r _ _ _ p q = absurd q

module _ (code : List Instr) (t : Table) (a b : ℕ) where
  at_one_same : (r r' : ℤ) (x y : Answer) → r ≡ r' → IsAtOne code t a b r x → IsAtOne code t a b r' y → x ≡ y
  at_one_same r r' x y e p q =
      let p' : IsAtOne code t a b r' x = subst (λ (z : ℤ). IsAtOne code t a b z x) e p in
      let same = (one_end (bits_of t.frac) code (inputs_of t a b r') p'.n q.n p'.outcome q.outcome p'.ends q.ends).1 in
      told_same a b r' q.outcome x y (subst (λ (o : Result ℤ Trap). IsTold a b r' o x) same p'.told) q.told

  -- ---- pieces

  bounded_same : (s s' : Span) (x y : ℕ) → s.lo ≡ s'.lo → s.hi ≡ s'.hi → IsBounded code t a b s x → IsBounded code t a b s' y → x ≡ y
  bounded_same s s' x y e f p q =
      let w = inputs_same t a b s s' p.spans q.spans e f p.inputs q.inputs in
      let v = inputs_same t a b s' s q.spans p.spans (sym e) (sym f) q.inputs p.inputs in
      p.bound' ∙ same_magnitude p.result q.result (gives_within (bits_of t.frac) code p.spans q.spans w p.result q.result p.gives q.gives) (gives_within (bits_of t.frac) code q.spans p.spans v q.result p.result q.gives p.gives) ∙ sym q.bound'

  bounded_stopped : (s s' : Span) (x pc : ℕ) (kind : Fault) → s.lo ≡ s'.lo → s.hi ≡ s'.hi → IsBounded code t a b s x → IsStopped code t a b s' pc kind → ⊥
  bounded_stopped s s' x pc kind e f p q =
      gives_no_stop (bits_of t.frac) code q.spans p.spans (inputs_same t a b s' s q.spans p.spans (sym e) (sym f) q.inputs p.inputs) p.result pc kind q.stops p.gives

  stopped_same : (s s' : Span) (pc pc' : ℕ) (kind kind' : Fault) → s.lo ≡ s'.lo → s.hi ≡ s'.hi → IsStopped code t a b s pc kind → IsStopped code t a b s' pc' kind' → (pc ≡ pc') × (kind ≡ kind')
  stopped_same s s' pc pc' kind kind' e f p q =
      stops_same (bits_of t.frac) code p.spans q.spans (inputs_same t a b s s' p.spans q.spans e f p.inputs q.inputs) (inputs_same t a b s' s q.spans p.spans (sym e) (sym f) q.inputs p.inputs) pc pc' kind kind' p.stops q.stops

  in_turn : (A A' B B' : Answer → Type 0) (g g' : ℕ → ℕ → Answer) (x y : Answer) → ((x y : Answer) → A x → A' y → x ≡ y) → ((x y : Answer) → B x → B' y → x ≡ y) → ((x y : ℕ) → g x y ≡ g' x y) → IsInTurn A B g x → IsInTurn A' B' g' y → x ≡ y
  in_turn A A' B B' g g' x y da db dg (first {f = f} p) (first {f = f'} q) = da (Err f) (Err f') p q
  in_turn A A' B B' g g' x y da db dg (first {f = f} p) (second {x = m} q r) = absurd (cc (da (Err f) (Ok m) p q))
  in_turn A A' B B' g g' x y da db dg (first {f = f} p) (neither {x = m} q r) = absurd (cc (da (Err f) (Ok m) p q))
  in_turn A A' B B' g g' x y da db dg (second {x = m} p r) (first {f = f} q) = absurd (cc (da (Ok m) (Err f) p q))
  in_turn A A' B B' g g' x y da db dg (second {f = f} p r) (second {f = f'} q s) = db (Err f) (Err f') r s
  in_turn A A' B B' g g' x y da db dg (second {f = f} p r) (neither {y = m} q s) = absurd (cc (db (Err f) (Ok m) r s))
  in_turn A A' B B' g g' x y da db dg (neither {x = m} p r) (first {f = f} q) = absurd (cc (da (Ok m) (Err f) p q))
  in_turn A A' B B' g g' x y da db dg (neither {y = m} p r) (second {f = f} q s) = absurd (cc (db (Ok m) (Err f) r s))
  in_turn A A' B B' g g' x y da db dg (neither {x = m} {y = n} p r) (neither {x = m'} {y = n'} q s) =
      let e : m ≡ m' = cc (da (Ok m) (Ok m') p q) in
      let h : n ≡ n' = cc (db (Ok n) (Ok n') r s) in
      ap (λ (k : ℕ). g k n) e ∙ ap (g m') h ∙ dg m' n'

  halves_same : (s s' l l' u u' : Span) → s.lo ≡ s'.lo → s.hi ≡ s'.hi → AreHalves s l u → AreHalves s' l' u' → (l.lo ≡ l'.lo) × (l.hi ≡ l'.hi) × (u.lo ≡ u'.lo) × (u.hi ≡ u'.hi)
  halves_same s s' l l' u u' e f p q =
      let middle : l.hi ≡ l'.hi = p.middle ∙ rw (e, f) refl ∙ sym q.middle in
      (p.from ∙ e ∙ sym q.from, middle, p.next ∙ ap (λ (z : ℤ). z +ℤ pos 1) middle ∙ sym q.next, p.to ∙ f ∙ sym q.to)

  -- any two answers for the same possible fault on these intervals are equal
  abbrev AreRestsSame : (s s' : Span) (R R' : ℕ → Fault → Answer → Type 0) → Type 0
  AreRestsSame s s' R R' = (pc : ℕ) (kind : Fault) (x y : Answer) → R pc kind x → R' pc kind y → x ≡ y

  one_piece : (s s' : Span) (R R' : ℕ → Fault → Answer → Type 0) (x y : Answer) → AreRestsSame s s' R R' → s.lo ≡ s'.lo → s.hi ≡ s'.hi → IsPiece code t a b s R x → IsPiece code t a b s' R' y → x ≡ y
  one_piece s s' R R' x y same e f (single one p) (single one' q) = at_one_same s.lo s'.lo x y e p q
  one_piece s s' R R' x y same e f (single one p) (bounded lt q) = absurd (omega (arith, ints, e, f, one, lt))
  one_piece s s' R R' x y same e f (single one p) (stopped lt q r) = absurd (omega (arith, ints, e, f, one, lt))
  one_piece s s' R R' x y same e f (bounded lt p) (single one q) = absurd (omega (arith, ints, e, f, one, lt))
  one_piece s s' R R' x y same e f (bounded {bound = m} lt p) (bounded {bound = n} lt' q) = ap Ok (bounded_same s s' m n e f p q)
  one_piece s s' R R' x y same e f (bounded {bound = m} lt p) (stopped {pc = pc} {kind = kind} lt' q r) = absurd (bounded_stopped s s' m pc kind e f p q)
  one_piece s s' R R' x y same e f (stopped lt p r) (single one q) = absurd (omega (arith, ints, e, f, one, lt))
  one_piece s s' R R' x y same e f (stopped {pc = pc} {kind = kind} lt p r) (bounded {bound = n} lt' q) = absurd (bounded_stopped s' s n pc kind (sym e) (sym f) q p)
  one_piece s s' R R' x y same e f (stopped {pc = pc} {kind = kind} lt p r) (stopped {pc = pc'} {kind = kind'} lt' p' r') =
      let h = stopped_same s s' pc pc' kind kind' e f p p' in
      same pc kind x y r (subst (λ (k : ℕ). R' k kind y) (sym h.0) (subst (λ (k : Fault). R' pc' k y) (sym h.1) r'))

  ends_same : (s s' : Span) → s.lo ≡ s'.lo → s.hi ≡ s'.hi → AreRestsSame s s' (IsAtEnds code t a b s) (IsAtEnds code t a b s')
  ends_same s s' e f pc kind x y p q =
      in_turn (IsAtOne code t a b s.lo) (IsAtOne code t a b s'.lo) (IsAtOne code t a b s.hi) (IsAtOne code t a b s'.hi) (λ m n. Err (fault.Undecided a b s.lo s.hi pc kind)) (λ m n. Err (fault.Undecided a b s'.lo s'.hi pc kind)) x y
      (λ m n i j. at_one_same s.lo s'.lo m n e i j)
      (λ m n i j. at_one_same s.hi s'.hi m n f i j)
      (λ m n. ap (λ (z : ℤ). Err (fault.Undecided a b z s.hi pc kind)) e ∙ ap (λ (z : ℤ). Err (fault.Undecided a b s'.lo z pc kind)) f)
      p q

  rest_same : (depth : ℕ) (s s' : Span) → s.lo ≡ s'.lo → s.hi ≡ s'.hi → AreRestsSame s s' (IsRest code t a b depth s) (IsRest code t a b depth s')
  unfolding IsRest
  rest_same zero s s' e f = ends_same s s' e f
  rest_same (suc d) s s' e f = λ pc kind x y p q.
      let h = halves_same s s' p.lower q.lower p.upper q.upper e f p.halves q.halves in
      in_turn (IsPieceAnswer code t a b d p.lower) (IsPieceAnswer code t a b d q.lower) (IsPieceAnswer code t a b d p.upper) (IsPieceAnswer code t a b d q.upper) (λ m n. Ok (max m n)) (λ m n. Ok (max m n)) x y
      (λ m n i j. one_piece p.lower q.lower (IsRest code t a b d p.lower) (IsRest code t a b d q.lower) m n (rest_same d p.lower q.lower h.0 h.1) h.0 h.1 i j)
      (λ m n i j. one_piece p.upper q.upper (IsRest code t a b d p.upper) (IsRest code t a b d q.upper) m n (rest_same d p.upper q.upper h.2 h.3) h.2 h.3 i j)
      (λ m n. refl)
      p.both q.both

  -- two answers for intervals with the same ends and the same maximum depth are equal
  pub piece_same : (depth : ℕ) (s s' : Span) (x y : Answer) → s.lo ≡ s'.lo → s.hi ≡ s'.hi → IsPieceAnswer code t a b depth s x → IsPieceAnswer code t a b depth s' y → x ≡ y
  piece_same depth s s' x y e f p q = one_piece s s' (IsRest code t a b depth s) (IsRest code t a b depth s') x y (rest_same depth s s' e f) e f p q

-- ---- answers in their order

-- if each number has at most one answer, the joint result is unique
pub joint_same : (A : ℕ → Answer → Type 0) (n : ℕ) (x y : Answer) → ((i : ℕ) (x y : Answer) → A i x → A i y → x ≡ y) → IsJoint A n x → IsJoint A n y → x ≡ y
joint_same A n (Ok x) (Ok y) d p q =
    let le : x ≤ y = at x y p q in
    let ge : y ≤ x = at y x q p in
    let e : x ≡ y = omega (arith, le, ge) in
    ap Ok e
  where
    at : (x y : ℕ) → IsGreatest A n x → IsGreatest A n y → x ≤ y
    at x y p q =
        ⊎_elim
        (λ (none : x ≡ 0). omega (arith, none))
        (λ (b : (i : ℕ) × (i < n) × A i (Ok x)).
        let h = q.each b.0 b.1 in
        let same = d b.0 (Ok x) (Ok h.0) b.2 h.1 in
        let e : x ≡ h.0 = cc in
        let le = h.2 in
        omega (arith, e, le))
        p.attained
joint_same A n (Ok x) (Err f) d p q =
    let h = p.each q.at q.within in
    let same = d q.at (Ok h.0) (Err f) h.1 q.refuses in
    absurd cc
joint_same A n (Err f) (Ok y) d p q =
    let h = q.each p.at p.within in
    let same = d p.at (Err f) (Ok h.0) p.refuses h.1 in
    absurd cc
joint_same A n (Err f) (Err g) d p q =
    ⊎_elim
    (λ (lt : p.at < q.at). let h = q.before p.at lt in let same = d p.at (Err f) (Ok h.0) p.refuses h.1 in absurd cc)
    (λ (le : q.at ≤ p.at).
    ⊎_elim
    (λ (lt : q.at < p.at). let h = p.before q.at lt in let same = d q.at (Ok h.0) (Err g) h.1 q.refuses in absurd cc)
    (λ (ge : p.at ≤ q.at). let e : p.at ≡ q.at = omega (arith, le, ge) in d q.at (Err f) (Err g) (subst (λ (i : ℕ). A i (Err f)) e p.refuses) q.refuses)
    (cases_lt q.at p.at))
    (cases_lt p.at q.at)

module _ (code : List Instr) (t : Table) (g : Range) where
  same_width : (v w : ℕ) → (g.core +ℤ pos v) ≡ g.cutoff → (g.core +ℤ pos w) ≡ g.cutoff → v ≡ w
  same_width v w e f = omega (arith, ints, e, f)

  not_empty : (i : ℕ) (s : Span) → IsEmptySlice g i → IsSlice g i s → ⊥
  not_empty i s p q =
      let w : p.width ≡ q.width = same_width p.width q.width p.wide q.wide in
      let none : q.width * (i + 1) / g.slices ≤ q.width * i / g.slices = subst (λ (k : ℕ). k * (i + 1) / g.slices ≤ k * i / g.slices) w p.none in
      let low = q.low in
      let high = q.high in
      let o = s.ordered in
      omega (arith, ints, none, low, high, o)

  slice_same : (a b i : ℕ) (x y : Answer) → IsSliceAnswer code t g a b i x → IsSliceAnswer code t g a b i y → x ≡ y
  slice_same a b i x y (empty p) (empty q) = refl
  slice_same a b i x y (empty p) (full {s = s} q r) = absurd (not_empty i s p q)
  slice_same a b i x y (full {s = s} p r) (empty q) = absurd (not_empty i s q p)
  slice_same a b i x y (full {s = s} p r) (full {s = s'} q r') =
      let w : p.width ≡ q.width = same_width p.width q.width p.wide q.wide in
      let lo : s.lo ≡ s'.lo = p.low ∙ ap (λ (k : ℕ). g.core +ℤ pos (k * i / g.slices)) w ∙ sym q.low in
      let hi : s.hi ≡ s'.hi = p.high ∙ ap (λ (k : ℕ). g.core +ℤ pos (k * (i + 1) / g.slices) -ℤ pos 1) w ∙ sym q.high in
      piece_same code t a b g.depth s s' x y lo hi r r'

  pair_same : (a b : ℕ) (x y : Answer)
      → IsJoint (IsSliceAnswer code t g a b) g.slices x → IsJoint (IsSliceAnswer code t g a b) g.slices y → x ≡ y
  pair_same a b x y p q = joint_same (IsSliceAnswer code t g a b) g.slices x y (slice_same a b) p q

  found_same : (x y : Answer) → IsFoundOf code t g x → IsFoundOf code t g y → x ≡ y
  found_same x y p q =
      joint_same (pair_answer code t g) (length t.rows * length t.rows) x y (λ n. pair_same (n / length t.rows) (n % length t.rows)) p q

-- ---- verdicts

module _ (code : List Instr) (t : Table) (g : Range) where
  data Kind (x : Answer) : Type 0 where
    searched : IsSearched code t g x → Kind x
    misfit : (f : VerifyFault) → IsFirst code (input_count t) f → x ≡ Err f → Kind x

  kind_of : (x : Answer) → IsVerdict code t g x → Kind x
  kind_of (Err (fault.Malformed pc)) v = misfit (fault.Malformed pc) v refl
  kind_of (Err (fault.DepthOver64 pc)) v = misfit (fault.DepthOver64 pc) v refl
  kind_of _ v = searched v

  kind_same : (x y : Answer) → JumpsForward code → Kind x → Kind y → x ≡ y
  kind_same x y forward (searched p) (searched q) = found_same code t g x y p.found q.found
  kind_same x y forward (searched p) (misfit f wrong e) = absurd (no_misfit code (input_count t) f forward p.misses wrong)
  kind_same x y forward (misfit f wrong e) (searched p) = absurd (no_misfit code (input_count t) f forward p.misses wrong)
  kind_same x y forward (misfit f wrong e) (misfit f' wrong' e') =
      e ∙ one_judgement code (input_count t) (Err f') (Err f) forward wrong' wrong ∙ sym e'

  -- two verdicts on one code under one table and range are the same
  pub verdict_same : (x y : Answer) → JumpsForward code → IsVerdict code t g x → IsVerdict code t g y → x ≡ y
  verdict_same x y forward p q = kind_same x y forward (kind_of x p) (kind_of y q)

  -- accepted code has no other verdict
  pub accepted_alone : (bound : ℕ) (answer : Answer) → IsVerdict code t g (Ok bound) → IsVerdict code t g answer → answer ≡ Ok bound
  accepted_alone bound answer p q = verdict_same answer (Ok bound) p.is_code.forward q p
