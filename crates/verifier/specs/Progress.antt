-- The slices that the verifier reports to a watcher: each slice that is accepted, in the order of the search. Slices
-- are numbered by pair of types, then by distance.
use Rattle.std.specs.Prelude.{◌≡◌, ℕ, ◌*◌, ◌/◌, ◌%◌, ◌≤◌, List, length}
use Rattle.fallible.specs.declared.failure.Failure.{Failure}
use Rattle.fallible.specs.declared.failure.Failure.TheVariants.{Refused, Memory}
use Rattle.kernel_code.specs.declared.instructions.Instr.{Instr}
use Rattle.kernel_code.specs.Tables.{Table}
use Rattle.verifier.specs.declared.faults.VerifyFault.{VerifyFault}
use Rattle.verifier.specs.declared.faults.VerifyFault.TheVariants as fault
use Rattle.verifier.specs.Verdicts.{Answer, IsFirstRefused, IsSliceAnswer, Range}

-- the number of slices of all ordered pairs of types
abbrev pub slice_count : Table → (slices : ℕ) → ℕ
slice_count t slices = length t.rows * length t.rows * slices

-- the answer for the slice with this number, among the slices of all pairs
abbrev pub slice_answer : List Instr → Table → Range → (number : ℕ) → Answer → Type 0
slice_answer code t g n answer =
    IsSliceAnswer code t g (n / g.slices / length t.rows) (n / g.slices % length t.rows) (n % g.slices) answer

-- the answer with number n is this error, and all before it are magnitudes
abbrev pub IsRefusedAt : (answers : ℕ → Answer → Type 0) → (count n : ℕ) → VerifyFault → Type 0
IsRefusedAt answers count n f = (first : IsFirstRefused answers count f) × (first.at ≡ n)

-- n answers are magnitudes before this failure; if memory ran out, some number of them
abbrev pub StopsAfter : (answers : ℕ → Answer → Type 0) → (count n : ℕ) → Failure VerifyFault → Type 0
StopsAfter answers count n (Refused f) = IsRefusedAt answers count n f
StopsAfter answers count n Memory = n ≤ count

-- The number n of slices that are reported before a failure: none before an error of paths, all slices before the
-- rejected one, or some number of slices if memory ran out.
abbrev pub PassedBefore : List Instr → Table → Range → (n : ℕ) → Failure VerifyFault → Type 0
PassedBefore code t g n (Refused (fault.Malformed pc)) = n ≡ 0
PassedBefore code t g n (Refused (fault.DepthOver64 pc)) = n ≡ 0
PassedBefore code t g n failure = StopsAfter (slice_answer code t g) (slice_count t g.slices) n failure
