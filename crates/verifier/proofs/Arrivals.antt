-- Paths of code with forward jumps only: their predecessors, their lengths, and the locals that they set.
use Rattle.std.proofs.Common.{◌≡◌, ℕ, ◌<◌, ◌≤◌, ◌⊎◌, inl, inr, Bool, true, false, List, length, replicate, refl, sym, ◌∙◌, arith, slice_index_or, slice_set, ⊎_elim, length-set, ◌≢◌, get_or-set_other}
use Rattle.std.proofs.lemmas.Grind.{get_or-set_at}
use Rattle.std.proofs.lemmas.Bool.{cases_eq, cases_lt}
use Rattle.std.proofs.lemmas.List.{get_or_past, length-replicate}
use Rattle.kernel_code.specs.declared.instructions.Instr.{Instr}
use Rattle.kernel_code.specs.declared.instructions.Instr.TheVariants.{Keep}
use Rattle.kernel_code.specs.Code.{JumpsForward}
use Rattle.kernel_code.specs.Paths.{IsPath, begins, goes, set_after}
use Rattle.kernel_code.proofs.PathLaws.{leads_there}
use Rattle.verifier.specs.Meetings.{Arrives, first, later}

-- ---- predecessors of a path's end

-- a path to an index arrives from a lower index, or begins there
pub arrives_here : (code : List Instr) {n pc height : ℕ} {set : List Bool} → JumpsForward code → IsPath code n pc height set → Arrives code pc n pc height set
arrives_here code forward begins = first
arrives_here code forward (goes {pc = from} {i = i} {to = to} path here go) =
    later path here go (leads_there code i from to forward here go).0

-- a path that arrives from below an index is a path
pub is_path : (code : List Instr) {below n pc height : ℕ} {set : List Bool} → Arrives code below n pc height set → IsPath code n pc height set
is_path code first = begins
is_path code (later path here go lt) = goes path here go

-- the beginning of all paths
pub record IsStart (n pc height : ℕ) (set : List Bool) : Type 0 where
  pub n' : n ≡ 0
  pub pc' : pc ≡ 0
  pub height' : height ≡ 0
  pub set' : set ≡ replicate 256 false

-- a path that arrives from below index 0 is the beginning of all paths
pub only_start : (code : List Instr) {n pc height : ℕ} {set : List Bool} → Arrives code 0 n pc height set → IsStart n pc height set
only_start code first = record { n' = refl; pc' = refl; height' = refl; set' = refl }
only_start code (later path here go lt) = absurd (omega arith)

-- the number of instructions on a path is at most the index that it reaches
pub few_steps : (code : List Instr) {n pc height : ℕ} {set : List Bool} → JumpsForward code → IsPath code n pc height set → n ≤ pc
few_steps code forward begins = omega arith
few_steps code forward (goes {pc = from} {i = i} {to = to} path here go) =
    let before = few_steps code forward path in
    let on = (leads_there code i from to forward here go).0 in
    omega arith

-- ---- locals

set_long : (i : Instr) (set : List Bool) → length (set_after i set) ≡ length set
set_long (Keep k) set = length-set set k true
set_long _ set = refl

-- an instruction keeps the list of locals at 256 entries
pub long_after : (i : Instr) (set : List Bool) → length set ≡ 256 → length (set_after i set) ≡ 256
long_after i set h = set_long i set ∙ h

-- each path has 256 locals, set or not
pub path_long : (code : List Instr) {n pc height : ℕ} {set : List Bool} → IsPath code n pc height set → length set ≡ 256
path_long code begins = length-replicate 256 false
path_long code (goes {set = set} {i = i} path here go) = long_after i set (path_long code path)

-- an instruction keeps a local's flag in every set, or sets it in every set
pub kept_or_set : (i : Instr) (j : ℕ)
    → ((set : List Bool) → length set ≡ 256 → slice_index_or (set_after i set) j false ≡ slice_index_or set j false)
    ⊎ ((set : List Bool) → length set ≡ 256 → slice_index_or (set_after i set) j false ≡ true)
kept_or_set (Keep k) j =
    ⊎_elim
    (λ (e : j ≡ k).
    ⊎_elim
    (λ (lt : k < 256). inr (λ set long. get_or-set_at set k j true false e (omega arith)))
    (λ (le : 256 ≤ k). inl (λ set long.
    let same = length-set set k true in
    get_or_past (slice_set set k true) j false (omega arith) ∙ sym (get_or_past set j false (omega arith))))
    (cases_lt k 256))
    (λ (n : j ≢ k). inl (λ set long. get_or-set_other set k j true false n))
    (cases_eq j k)
kept_or_set _ j = inl (λ set long. refl)
