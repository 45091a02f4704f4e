-- The fault of a text that isn't a job, and what reading any text gives: its job or its fault. A line's fault follows
-- from the line and the lines above it; a missing part follows from all lines. The first fault from the top counts.
use Rattle.std.specs.Prelude.{◌≡◌, ◌≢◌, ◌⊎◌, ℕ, ℤ, List, [], ◌∷◌, ◌++◌, length, int_lt, Option, Some, None, Result, Ok, Err, All, if◌then◌else◌}
use Rattle.fixed.specs.declared.frac.Frac.{Frac}
use Rattle.job.specs.Bits.{frac_in}
use Rattle.job.specs.Faults.{Refusal, AreFaultless, Said, TypeLine, bad_line, line_fault, missing, out_of_range, summary}
use Rattle.job.specs.JobLines.{header}
use Rattle.job.specs.JobText.{IsJobText}
use Rattle.job.specs.Values.{Counts, JobValue}
use Rattle.job.specs.Words.{lines_of}
use Rattle.job.specs.declared.faults.Key.TheVariants as keys

-- ---- the first line with a fault

-- a line has the fault f, and the lines above it have none
pub record HasBadLine (most : Counts) (frac : Frac) (lines : List (List ℕ)) (f : Refusal) : Type 0 where
  pub above : List (List ℕ)
  pub line : List ℕ
  pub below : List (List ℕ)
  pub parts : lines ≡ above ++ line ∷ below
  pub faultless : AreFaultless most frac [] above
  pub fault : line_fault most frac above line ≡ Some f

-- ---- what lines without a fault lack together

-- a core, a cutoff and a time step, which are missing in this order, or a cutoff above the core
abbrev pub numbers_lack : Option ℤ → Option ℤ → Option ℕ → Option Refusal
numbers_lack None cutoff time_step = Some (missing keys.Core)
numbers_lack (Some core) None time_step = Some (missing keys.Cutoff)
numbers_lack (Some core) (Some cutoff) None = Some (missing keys.TimeStep)
numbers_lack (Some core) (Some cutoff) (Some time_step) = if int_lt core cutoff then None else Some (out_of_range keys.Cutoff)

-- an energy, or else this
abbrev pub energy_lacks : Option (List ℕ) → Option Refusal → Option Refusal
energy_lacks None others = Some (missing keys.Energy)
energy_lacks (Some text) others = others

-- a required key, or a cutoff above the core
abbrev pub keys_lack : Said → Option Refusal
keys_lack s = energy_lacks s.energy (numbers_lack s.core s.cutoff s.time_step)

-- a type doesn't have this number of values, and the types before it have; the fault names the type's line
pub record HasOtherCount (count : ℕ) (types : List TypeLine) (f : Refusal) : Type 0 where
  pub before : List TypeLine
  pub other : TypeLine
  pub after : List TypeLine
  pub parts : types ≡ before ++ other ∷ after
  pub whole : All (λ t. length t.value.values ≡ count) before
  pub differs : length other.value.values ≢ count
  pub fault : f ≡ bad_line other.line

-- f is the first part that the lines lack: a required key or a cutoff above the core, then a value for each parameter
abbrev pub LacksPart : Said → Refusal → Type 0
LacksPart s f = (keys_lack s ≡ Some f) ⊎ ((keys_lack s ≡ None) × HasOtherCount (length s.parameters) s.types f)

-- ---- the fault of a text

-- the first line isn't the first line of a job
abbrev pub HasNoHeader : List ℕ → Refusal → Type 0
HasNoHeader text f = ((lines : List (List ℕ)) → lines_of text ≡ header ∷ lines → ⊥) × (f ≡ bad_line 1)

-- the lines after the first have the fault f; numerals are read with these fraction bits
abbrev pub HaveFault : Counts → Frac → List (List ℕ) → Refusal → Type 0
HaveFault most frac lines f =
    HasBadLine most frac lines f ⊎ (AreFaultless most frac [] lines × LacksPart (summary frac lines) f)

-- the text isn't a job, for the reason f
abbrev pub IsJobFault : Counts → List ℕ → Refusal → Type 0
IsJobFault most text f = HasNoHeader text f
    ⊎ ((lines : List (List ℕ)) × (lines_of text ≡ header ∷ lines) × HaveFault most (frac_in lines) lines f)

-- ---- what reading gives

-- reading the text gives the job that it represents, or its fault
abbrev pub JobReadsAs : Counts → List ℕ → Result JobValue Refusal → Type 0
JobReadsAs most text (Ok job) = IsJobText most text job
JobReadsAs most text (Err f) = IsJobFault most text f

-- reading a text gives one result
abbrev pub JobReadsOnce : Type 0
JobReadsOnce = (most : Counts) (text : List ℕ) (r s : Result JobValue Refusal) → JobReadsAs most text r → JobReadsAs most text s → r ≡ s

-- each text has a result
abbrev pub JobReadsAlways : Type 0
JobReadsAlways = (most : Counts) (text : List ℕ) → (r : Result JobValue Refusal) × JobReadsAs most text r
