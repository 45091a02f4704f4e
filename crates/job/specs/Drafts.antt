-- Drafts of a job: the values of the lines read so far, with one more line, and when they are the values of a job.
use Rattle.std.specs.Prelude.{◌≡◌, ◌⊎◌, ℕ, List, [], ◌∷◌, ◌++◌, length, map, option_and_then, Option, Some, None, Result, Ok, Err, ◌<ℤ◌, All}
use Rattle.std.specs.Option.{unwrap_or}
use Rattle.fixed.specs.declared.frac.Frac.{Frac}
use Rattle.job.specs.declared.faults.Key.{Key}
use Rattle.job.specs.Faults.{Refusal, Said, bad_line, entry_fault, once, type_in}
use Rattle.job.specs.JobLines.{LineValue, said_energy, said_core, said_cutoff, said_time_step, said_slices, said_bits, said_parameter, said_global}
use Rattle.job.specs.Numbers.{Reading}
use Rattle.job.specs.Statements.{Statement, value_said}
use Rattle.job.specs.Values.{Counts, JobValue}

-- ---- one more line

-- the first value so far, or this value
abbrev pub kept_first : {X : Type 0} → Option X → X → Option X
kept_first None x = Some x
kept_first (Some y) x = Some y

-- the first value so far, or the value of one more line, if it has one
abbrev pub or_first : {X : Type 0} → Option X → Option X → Option X
or_first o None = o
or_first o (Some x) = kept_first o x

-- the list with an optional element appended
abbrev pub and_one : {X : Type 0} → List X → Option X → List X
and_one xs None = xs
and_one xs (Some x) = xs ++ x ∷ []

-- the draft of lines, joined with the value of one more line, number n
abbrev pub joined : ℕ → Said → Option LineValue → Said
joined n s v = record {
  frac = s.frac;
  energy = or_first s.energy (option_and_then said_energy v);
  core = or_first s.core (option_and_then said_core v);
  cutoff = or_first s.cutoff (option_and_then said_cutoff v);
  time_step = or_first s.time_step (option_and_then said_time_step v);
  slices = or_first s.slices (option_and_then said_slices v);
  parameters = and_one s.parameters (option_and_then said_parameter v);
  globals = and_one s.globals (option_and_then said_global v);
  types = and_one s.types (type_in n v);
  bits = or_first s.bits (option_and_then said_bits v);
}

-- the fault if there is one, otherwise the value
abbrev pub outcome : {S : Type 0} → Option Refusal → S → Result S Refusal
outcome None s = Ok s
outcome (Some fault) s = Err fault

-- the draft with the statement of line n, or the line's fault
abbrev pub said_after : Counts → ℕ → Said → Option Statement → Result Said Refusal
said_after most n s e = outcome (entry_fault most n s e) (joined n s (option_and_then value_said e))

-- the value of a key that may have only one line, after line n of this key with this number, or the line's fault
abbrev pub slot_after : {X : Type 0} → ℕ → Key → Option X → Option (Option X) → Result (Option X) Refusal
slot_after n key old None = Err (bad_line n)
slot_after n key old (Some v) = outcome (once key old v) (or_first old v)

-- the slot is unchanged, or holds the number that was read
abbrev pub IsPut : {X : Type 0} → Option X → Option X → Reading X → Type 0
IsPut {X = X} old new reading = (new ≡ old) ⊎ ((v : X) × (new ≡ Some v) × (reading ≡ Ok v))

-- ---- the first and the last draft

-- the empty draft
abbrev pub nothing : Frac → Said
nothing frac = record {
  frac = frac;
  energy = None;
  core = None;
  cutoff = None;
  time_step = None;
  slices = None;
  parameters = [];
  globals = [];
  types = [];
  bits = None;
}

-- The draft has the values of this job. Without a `slices` line there are 64 slices. Each type has one value per
-- parameter.
pub record GivesJob (s : Said) (job : JobValue) : Type 0 where
  pub frac : s.frac ≡ job.frac
  pub energy : s.energy ≡ Some job.energy
  pub core : s.core ≡ Some job.core
  pub cutoff : s.cutoff ≡ Some job.cutoff
  pub below_cutoff : job.core <ℤ job.cutoff
  pub time_step : s.time_step ≡ Some job.time_step
  pub slices : unwrap_or s.slices 64 ≡ job.slices
  pub parameters : s.parameters ≡ job.parameters
  pub globals : s.globals ≡ job.globals
  pub types : map (λ t. t.value) s.types ≡ job.types
  pub whole : All (λ t. length t.values ≡ length job.parameters) job.types
