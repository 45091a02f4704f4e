-- Two pairs of types with the same inputs at each distance have the same magnitudes.
use Rattle.std.proofs.Common.{◌≡◌, ℕ, zero, suc, List, Some, Result, Ok, Err, refl, subst, ℤ, max, slice_get}
use Rattle.fixed.specs.Fractions.{bits_of}
use Rattle.fixed.specs.declared.faults.Fault.{Fault}
use Rattle.interval_domain.specs.declared.span.Span.{Span}
use Rattle.kernel_code.specs.declared.instructions.Instr.{Instr}
use Rattle.kernel_code.specs.declared.traps.Trap.{Trap}
use Rattle.kernel_code.specs.Machine.{Ends}
use Rattle.kernel_code.specs.Tables.{Table, inputs_of, row_of}
use Rattle.verifier.specs.declared.faults.VerifyFault.{VerifyFault}
use Rattle.verifier.specs.Verdicts.{Answer, AreInputSpans, IsAtOne, IsBounded, IsInTurn, IsPiece, IsPieceAnswer, IsRest, IsSliceAnswer, IsStopped, IsTold, Range, bounded, empty, full, neither, single, stopped}

-- types with the same values give the same inputs
pub same_inputs : (t : Table) (a b c d : ℕ) (r : ℤ) → row_of t a ≡ row_of t c → row_of t b ≡ row_of t d
    → inputs_of t a b r ≡ inputs_of t c d r
same_inputs t a b c d r e f = rw (e, f) refl

-- the greater of two magnitudes is the answer of other relations too, if they have both magnitudes
in_turn : (Old New Old' New' : Answer → Type 0) (x : ℕ) → ((y : ℕ) → Old (Ok y) → New (Ok y)) → ((y : ℕ) → Old' (Ok y) → New' (Ok y))
    → IsInTurn Old Old' (λ m n. Ok (max m n)) (Ok x) → IsInTurn New New' (λ m n. Ok (max m n)) (Ok x)
in_turn Old New Old' New' x f g (neither {x = m} {y = n} p q) = neither (f m p) (g n q)

-- if the answer of neither is an error too, the answer in turn is no magnitude
no_magnitude : (First Second : Answer → Type 0) (make : ℕ → ℕ → VerifyFault) (x : ℕ)
    → IsInTurn First Second (λ m n. Err (make m n)) (Ok x) → ⊥
no_magnitude First Second make x h = elim h [ ]

module _ (code : List Instr) (t : Table) (a b c d : ℕ) (same : (r : ℤ) → inputs_of t a b r ≡ inputs_of t c d r) where
  told_too : (r : ℤ) (o : Result ℤ Trap) (x : ℕ) → IsTold a b r o (Ok x) → IsTold c d r o (Ok x)
  told_too r (Ok v) x h = h
  told_too r (Err trap) x h = h

  at_one_too : (r : ℤ) (x : ℕ) → IsAtOne code t a b r (Ok x) → IsAtOne code t c d r (Ok x)
  at_one_too r x h = record {
    outcome = h.outcome;
    n = h.n;
    ends = subst (λ (l : List ℤ). Ends (bits_of t.frac) code l h.n h.outcome) (same r) h.ends;
    told = told_too r h.outcome x h.told;
  }

  inputs_too : (s : Span) (spans : List Span) → AreInputSpans t a b s spans → AreInputSpans t c d s spans
  inputs_too s spans h = record {
    long = h.long;
    first = h.first;
    others = λ k u le at.
        let one = h.others k u le at in
        record { value = one.value; there = subst (λ (l : List ℤ). slice_get l k ≡ Some one.value) (same s.lo) one.there; one = one.one };
  }

  bounded_too : (s : Span) (x : ℕ) → IsBounded code t a b s x → IsBounded code t c d s x
  bounded_too s x h = record {
    spans = h.spans;
    inputs = inputs_too s h.spans h.inputs;
    result = h.result;
    gives = h.gives;
    bound' = h.bound';
  }

  stopped_too : (s : Span) (pc : ℕ) (kind : Fault) → IsStopped code t a b s pc kind → IsStopped code t c d s pc kind
  stopped_too s pc kind h = record { spans = h.spans; inputs = inputs_too s h.spans h.inputs; stops = h.stops }

  piece_of : (s : Span) (R R' : ℕ → Fault → Answer → Type 0) (x : ℕ) → ((pc : ℕ) (kind : Fault) → R pc kind (Ok x) → R' pc kind (Ok x))
      → IsPiece code t a b s R (Ok x) → IsPiece code t c d s R' (Ok x)
  piece_of s R R' x rest (single e h) = single e (at_one_too s.lo x h)
  piece_of s R R' x rest (bounded lt h) = bounded lt (bounded_too s x h)
  piece_of s R R' x rest (stopped {pc = pc} {kind = kind} lt p h) = stopped lt (stopped_too s pc kind p) (rest pc kind h)

  rest_too : (depth : ℕ) (s : Span) (pc : ℕ) (kind : Fault) (x : ℕ)
      → IsRest code t a b depth s pc kind (Ok x) → IsRest code t c d depth s pc kind (Ok x)
  unfolding IsRest
  rest_too zero s pc kind x h = absurd (no_magnitude _ _ _ x h)
  rest_too (suc n) s pc kind x h = record {
    lower = h.lower;
    upper = h.upper;
    halves = h.halves;
    both = in_turn (IsPieceAnswer code t a b n h.lower) (IsPieceAnswer code t c d n h.lower)
        (IsPieceAnswer code t a b n h.upper) (IsPieceAnswer code t c d n h.upper) x
        (λ y. piece_of h.lower (IsRest code t a b n h.lower) (IsRest code t c d n h.lower) y (λ pc kind. rest_too n h.lower pc kind y))
        (λ y. piece_of h.upper (IsRest code t a b n h.upper) (IsRest code t c d n h.upper) y (λ pc kind. rest_too n h.upper pc kind y))
        h.both;
  }

  -- the magnitude of the first pair in a slice is that of the second pair
  pub slice_too : (g : Range) (i x : ℕ) → IsSliceAnswer code t g a b i (Ok x) → IsSliceAnswer code t g c d i (Ok x)
  slice_too g i x (empty e) = empty e
  slice_too g i x (full {s = s} h p) =
      full h (piece_of s (IsRest code t a b g.depth s) (IsRest code t c d g.depth s) x (λ pc kind. rest_too g.depth s pc kind x) p)
