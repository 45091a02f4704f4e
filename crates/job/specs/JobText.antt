-- Texts of jobs, as a relation between a text and the job that it represents.
use Rattle.std.specs.Prelude.{◌≡◌, ◌⊎◌, ℕ, List, [], ◌∷◌, length, map, filter_map, ◌≤◌, AllPairs, ◌<ℤ◌, All}
use Rattle.std.specs.List.{AllZip}
use Rattle.fixed.specs.declared.frac.Frac.TheVariants.{F32}
use Rattle.job.specs.Words.{lines_of}
use Rattle.job.specs.JobLines.{header, LineValue, LineSays, said_energy, said_core, said_cutoff, said_time_step, said_slices, said_bits, said_parameter, said_global, said_type}
use Rattle.job.specs.Values.{JobValue, Counts}

-- ---- the meaning of all lines together

-- no two names are equal
abbrev pub AreApart : List (List ℕ) → Type 0
AreApart names = AllPairs (λ a b. a ≡ b → ⊥) names

-- no two parameters, no two globals and no two types of the job have the same name
pub record HasNamesOnce (job : JobValue) : Type 0 where
  pub parameters : AreApart job.parameters
  pub globals : AreApart (map (λ g. g.name) job.globals)
  pub types : AreApart (map (λ t. t.name) job.types)

-- the job has at most this number of parameters, globals and types
pub record HasAtMost (most : Counts) (job : JobValue) : Type 0 where
  pub parameters : length job.parameters ≤ most.parameters
  pub globals : length job.globals ≤ most.globals
  pub types : length job.types ≤ most.types

-- one line has the value x; or no line has a value, and x is the default
abbrev pub IsSaidOr : {X : Type 0} → X → List X → X → Type 0
IsSaidOr default said x = (said ≡ x ∷ []) ⊎ ((said ≡ []) × (x ≡ default))

-- The values of a job's lines, in their order. Energy, core, cutoff and time step occur once. Slices and fraction bits
-- occur at most once, with the defaults 64 and 32. Parameters, globals and types are the job's. The core is below the
-- cutoff, and each type has one value per parameter.
pub record SayJob (most : Counts) (values : List LineValue) (job : JobValue) : Type 0 where
  pub energy : filter_map said_energy values ≡ job.energy ∷ []
  pub core : filter_map said_core values ≡ job.core ∷ []
  pub cutoff : filter_map said_cutoff values ≡ job.cutoff ∷ []
  pub below_cutoff : job.core <ℤ job.cutoff
  pub time_step : filter_map said_time_step values ≡ job.time_step ∷ []
  pub slices : IsSaidOr 64 (filter_map said_slices values) job.slices
  pub frac : IsSaidOr F32 (filter_map said_bits values) job.frac
  pub parameters : filter_map said_parameter values ≡ job.parameters
  pub globals : filter_map said_global values ≡ job.globals
  pub types : filter_map said_type values ≡ job.types
  pub few : HasAtMost most job
  pub apart : HasNamesOnce job
  pub whole : All (λ t. length t.values ≡ length job.parameters) job.types

-- The text represents the job. Each line after the first has a value, with numerals read at the job's fraction bits,
-- and together the values give the job. A `bits` line has the same value for any fraction bits, so the definition isn't
-- circular.
pub record IsJobText (most : Counts) (text : List ℕ) (job : JobValue) : Type 0 where
  pub lines : List (List ℕ)
  pub first_line : lines_of text ≡ header ∷ lines
  pub values : List LineValue
  pub each : AllZip (LineSays job.frac) lines values
  pub say : SayJob most values job

-- the limits of the number of parameters, globals and types
abbrev pub limits : Counts
limits = record { parameters = 8; globals = 16; types = 64 }
