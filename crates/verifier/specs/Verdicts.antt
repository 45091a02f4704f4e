-- The verdict on code: the greatest magnitude in the intervals of its values, or the first error. It is a relation, not
-- a function, so that no order of iteration is fixed; a theorem shows that there is at most one verdict for each code,
-- table, range of distances, number of slices and depth.
use Rattle.std.specs.Prelude.{◌≡◌, ℕ, zero, suc, ◌+◌, ◌*◌, ◌/◌, ◌%◌, ◌<◌, ◌≤◌, ◌⊎◌, max, List, length, ℤ, pos, ◌+ℤ◌, ◌-ℤ◌, ◌<ℤ◌, Result, Ok, Err, Some, slice_get, unsigned_abs}
use Rattle.fallible.specs.declared.failure.Failure.{Failure}
use Rattle.fallible.specs.declared.failure.Failure.TheVariants.{Refused, Memory}
use Rattle.fixed.specs.Fractions.{bits_of}
use Rattle.fixed.specs.declared.faults.Fault.{Fault}
use Rattle.interval_domain.specs.declared.span.Span.{Span}
use Rattle.interval_domain.specs.Spans.{AreHalves}
use Rattle.kernel_code.specs.declared.instructions.Instr.{Instr}
use Rattle.kernel_code.specs.declared.traps.Trap.{Trap}
use Rattle.kernel_code.specs.declared.traps.TrapKind.TheVariants.{Operation}
use Rattle.kernel_code.specs.Code.{IsCode}
use Rattle.kernel_code.specs.Machine.{Ends}
use Rattle.kernel_code.specs.Paths.{MissesNothing}
use Rattle.kernel_code.specs.Tables.{Table, inputs_of}
use Rattle.verifier.specs.Misfits.{IsFirstMalformed, IsFirstOverfull}
use Rattle.verifier.specs.declared.faults.VerifyFault.{VerifyFault}
use Rattle.verifier.specs.declared.faults.VerifyFault.TheVariants as fault
use Rattle.verifier.specs.Safety.{input_count}
use Rattle.verifier.specs.AbstractStates.{IsOne, GivesSpan, StopsAt}

-- the result of a search: the greatest magnitude, or the first error
abbrev pub Answer : Type 0
Answer = Result ℕ VerifyFault

-- ---- an interval of distances, by interval analysis

-- the interval of an input other than the distance: its one value, which is the same at any distance
pub record IsOneInput (t : Table) (a b : ℕ) (r : ℤ) (k : ℕ) (s : Span) : Type 0 where
  pub value : ℤ
  pub there : slice_get (inputs_of t a b r) k ≡ Some value
  pub one : IsOne value s

-- the intervals of the first `count` inputs: the distances for input 0, its value for each other
pub record AreFirstSpans (t : Table) (a b count : ℕ) (distances : Span) (spans : List Span) : Type 0 where
  pub long : length spans ≡ count
  pub first : slice_get spans 0 ≡ Some distances
  pub others : (k : ℕ) (s : Span) → 1 ≤ k → slice_get spans k ≡ Some s → IsOneInput t a b distances.lo k s

-- the intervals of all inputs
abbrev pub AreInputSpans : Table → (a b : ℕ) → Span → List Span → Type 0
AreInputSpans t a b distances spans = AreFirstSpans t a b (input_count t) distances spans

-- the greatest magnitude in an interval
abbrev pub magnitude_of : Span → ℕ
magnitude_of s = max (unsigned_abs s.lo) (unsigned_abs s.hi)

-- no fault is possible, and the bound is the magnitude of the value's interval
pub record IsBounded (code : List Instr) (t : Table) (a b : ℕ) (distances : Span) (bound : ℕ) : Type 0 where
  pub spans : List Span
  pub inputs : AreInputSpans t a b distances spans
  pub result : Span
  pub gives : GivesSpan (bits_of t.frac) code spans result
  pub bound' : bound ≡ magnitude_of result

-- the first operation that may fault
pub record IsStopped (code : List Instr) (t : Table) (a b : ℕ) (distances : Span) (pc : ℕ) (fault : Fault) : Type 0 where
  pub spans : List Span
  pub inputs : AreInputSpans t a b distances spans
  pub stops : StopsAt (bits_of t.frac) code spans pc fault

-- ---- a single distance, by the machine

-- the answer for a run's outcome: a value's magnitude, or an operation's fault
abbrev pub IsTold : (a b : ℕ) → ℤ → Result ℤ Trap → Answer → Type 0
IsTold a b r (Ok value) (Ok bound) = bound ≡ unsigned_abs value
IsTold a b r (Err trap) (Err f) = (kind : Fault) × (trap.kind ≡ Operation kind) × (f ≡ fault.Fault a b r trap.pc kind)
IsTold a b r _ _ = ⊥

-- the answer of the machine's run at one distance
pub record IsAtOne (code : List Instr) (t : Table) (a b : ℕ) (r : ℤ) (answer : Answer) : Type 0 where
  pub outcome : Result ℤ Trap
  pub n : ℕ
  pub ends : Ends (bits_of t.frac) code (inputs_of t a b r) n outcome
  pub told : IsTold a b r outcome answer

-- ---- an interval of distances, bisected at most `depth` times while a fault is possible

-- the first's error, else the second's error, else the result made of both magnitudes
pub data IsInTurn (First Second : Answer → Type 0) (make : ℕ → ℕ → Answer) : Answer → Type 0 where
  first : {f : VerifyFault} → First (Err f) → IsInTurn First Second make (Err f)
  second : {x : ℕ} {f : VerifyFault} → First (Ok x) → Second (Err f) → IsInTurn First Second make (Err f)
  neither : {x y : ℕ} → First (Ok x) → Second (Ok y) → IsInTurn First Second make (make x y)

-- a single distance is run; else the intervals give a bound, or `Rest` gives the answer for a possible fault
pub data IsPiece (code : List Instr) (t : Table) (a b : ℕ) (s : Span) (Rest : ℕ → Fault → Answer → Type 0) : Answer → Type 0 where
  single : {answer : Answer} → s.lo ≡ s.hi → IsAtOne code t a b s.lo answer → IsPiece code t a b s Rest answer
  bounded : {bound : ℕ} → s.lo <ℤ s.hi → IsBounded code t a b s bound → IsPiece code t a b s Rest (Ok bound)
  stopped : {pc : ℕ} {kind : Fault} {answer : Answer}
      → s.lo <ℤ s.hi → IsStopped code t a b s pc kind → Rest pc kind answer
      → IsPiece code t a b s Rest answer

-- not bisected further: the fault at the least distance, else at the greatest, else undecided
abbrev pub IsAtEnds : List Instr → Table → (a b : ℕ) → Span → ℕ → Fault → Answer → Type 0
IsAtEnds code t a b s pc kind answer =
    IsInTurn (IsAtOne code t a b s.lo) (IsAtOne code t a b s.hi) (λ x y. Err (fault.Undecided a b s.lo s.hi pc kind)) answer

-- bisected, the lower half first
pub record IsOfHalves (Piece : Span → Answer → Type 0) (s : Span) (answer : Answer) : Type 0 where
  pub lower : Span
  pub upper : Span
  pub halves : AreHalves s lower upper
  pub both : IsInTurn (Piece lower) (Piece upper) (λ x y. Ok (max x y)) answer

-- the answer for distances with a possible fault, bisected at most `depth` times
unfoldable pub IsRest : List Instr → Table → (a b depth : ℕ) → Span → ℕ → Fault → Answer → Type 0
IsRest code t a b zero s pc kind answer = IsAtEnds code t a b s pc kind answer
IsRest code t a b (suc depth) s pc kind answer = IsOfHalves (λ h. IsPiece code t a b h (IsRest code t a b depth h)) s answer

-- the answer for an interval of distances
abbrev pub IsPieceAnswer : List Instr → Table → (a b depth : ℕ) → Span → Answer → Type 0
IsPieceAnswer code t a b depth s answer = IsPiece code t a b s (IsRest code t a b depth s) answer

-- ---- answers in order

-- the first `count` answers are magnitudes, and this is the greatest; 0 if there are none
pub record IsGreatest (answers : ℕ → Answer → Type 0) (count bound : ℕ) : Type 0 where
  pub each : (i : ℕ) → i < count → (x : ℕ) × answers i (Ok x) × (x ≤ bound)
  pub attained : (bound ≡ 0) ⊎ ((i : ℕ) × (i < count) × answers i (Ok bound))

-- one answer is this error, and all before it are magnitudes
pub record IsFirstRefused (answers : ℕ → Answer → Type 0) (count : ℕ) (f : VerifyFault) : Type 0 where
  pub at : ℕ
  pub within : at < count
  pub refuses : answers at (Err f)
  pub before : (i : ℕ) → i < at → (x : ℕ) × answers i (Ok x)

-- the answers' joint result: the greatest magnitude, or the first error
abbrev pub IsJoint : (ℕ → Answer → Type 0) → ℕ → Answer → Type 0
IsJoint answers count (Ok bound) = IsGreatest answers count bound
IsJoint answers count (Err f) = IsFirstRefused answers count f

-- ---- slices and pairs of types

-- the distances to search, the number of slices, and the maximum depth of bisection
pub record Range : Type 0 where
  pub core : ℤ
  pub cutoff : ℤ
  pub slices : ℕ
  pub depth : ℕ

abbrev pub range : (core cutoff : ℤ) → (slices depth : ℕ) → Range
range core cutoff slices depth = record { core = core; cutoff = cutoff; slices = slices; depth = depth }

-- the distances of slice i, if the range is divided into slices
pub record IsSlice (g : Range) (i : ℕ) (s : Span) : Type 0 where
  pub width : ℕ
  pub wide : (g.core +ℤ pos width) ≡ g.cutoff
  pub low : s.lo ≡ (g.core +ℤ pos (width * i / g.slices))
  pub high : s.hi ≡ (g.core +ℤ pos (width * (i + 1) / g.slices) -ℤ pos 1)

-- the slice has no distances
pub record IsEmptySlice (g : Range) (i : ℕ) : Type 0 where
  pub width : ℕ
  pub wide : (g.core +ℤ pos width) ≡ g.cutoff
  pub none : width * (i + 1) / g.slices ≤ width * i / g.slices

-- the answer for one slice of one pair; 0 for an empty slice
pub data IsSliceAnswer (code : List Instr) (t : Table) (g : Range) (a b i : ℕ) : Answer → Type 0 where
  empty : IsEmptySlice g i → IsSliceAnswer code t g a b i (Ok 0)
  full : {s : Span} {answer : Answer} → IsSlice g i s → IsPieceAnswer code t a b g.depth s answer → IsSliceAnswer code t g a b i answer

-- The answer for all slices, in ascending order of distance, of the pair of types with this number. Pairs are numbered by
-- first type, then by second type.
abbrev pub pair_answer : List Instr → Table → Range → (number : ℕ) → Answer → Type 0
pair_answer code t g number answer = IsJoint (IsSliceAnswer code t g (number / length t.rows) (number % length t.rows)) g.slices answer

-- the answer for all pairs
abbrev pub IsFoundOf : List Instr → Table → Range → Answer → Type 0
IsFoundOf code t g answer = IsJoint (pair_answer code t g) (length t.rows * length t.rows) answer

-- ---- the verdict

-- the search's answer, for code none of whose paths lacks anything
pub record IsSearched (code : List Instr) (t : Table) (g : Range) (answer : Answer) : Type 0 where
  pub is_code : IsCode code
  pub misses : MissesNothing code (input_count t)
  pub found : IsFoundOf code t g answer

-- the verdict: the bound of accepted code, or the first error of paths, else the first error of the search
abbrev pub IsVerdict : List Instr → Table → Range → Answer → Type 0
IsVerdict code t g (Err (fault.Malformed pc)) = IsFirstMalformed code (input_count t) pc
IsVerdict code t g (Err (fault.DepthOver64 pc)) = IsFirstOverfull code (input_count t) pc
IsVerdict code t g answer = IsSearched code t g answer

-- ---- out of memory

-- the result satisfies the relation, or memory ran out before there was one
abbrev pub UnlessMemory : (Answer → Type 0) → Result ℕ (Failure VerifyFault) → Type 0
UnlessMemory holds (Ok bound) = holds (Ok bound)
UnlessMemory holds (Err (Refused f)) = holds (Err f)
UnlessMemory holds (Err Memory) = Unit {0}
