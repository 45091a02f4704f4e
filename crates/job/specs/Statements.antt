-- The statements of a job's lines, as functions of their words.
use Rattle.std.specs.Prelude.{ℕ, ℤ, List, [], ◌∷◌, Option, Some, None, Ok, Err, option_map, option_and_then, ◌==◌, slice_index, codes, bytes_eq, if◌then◌else◌}
use Rattle.fixed.specs.declared.constants.Constant.{Constant}
use Rattle.fixed.specs.declared.frac.Frac.{Frac}
use Rattle.fixed.specs.declared.faults.NumFault.TheVariants.{BadNumber, NumberRange}
use Rattle.job.specs.declared.faults.Key.{Key}
use Rattle.job.specs.declared.faults.Key.TheVariants as keys
use Rattle.line_text.specs.Identifiers.{is_identifier}
use Rattle.job.specs.Forms.{is_type_name}
use Rattle.line_text.specs.Words.{words, without_blanks, after_word}
use Rattle.job.specs.JobLines.{LineValue, says_nothing, says_energy, says_core, says_cutoff, says_time_step, says_slices, says_bits, says_parameter, says_global, says_type}
use Rattle.job.specs.Numbers.{Reading, both, only, alone, numeral_of, signed_of, values_of, cutoff_of, whole_of, frac_of, mass_of}

-- a line's key and value; None is a number out of range
pub data Statement : Type 0 where
  skipped : Statement
  energy_is : List ℕ → Statement
  core_is : Option ℤ → Statement
  cutoff_is : Option ℤ → Statement
  time_step_is : Option ℕ → Statement
  slices_is : Option ℕ → Statement
  parameter_is : List ℕ → Statement
  global_is : List ℕ → Option Constant → Statement
  type_is : List ℕ → Option (ℕ × List Constant) → Statement
  bits_is : Option Frac → Statement

-- the value of a statement; None if its number is out of range
abbrev pub value_said : Statement → Option LineValue
value_said skipped = Some says_nothing
value_said (energy_is text) = Some (says_energy text)
value_said (core_is o) = option_map says_core o
value_said (cutoff_is o) = option_map says_cutoff o
value_said (time_step_is o) = option_map says_time_step o
value_said (slices_is o) = option_map says_slices o
value_said (bits_is o) = option_map says_bits o
value_said (parameter_is name) = Some (says_parameter name)
value_said (global_is name o) = option_map (λ v. says_global (record { name = name; value = v })) o
value_said (type_is name o) = option_map (λ v. says_type (record { name = name; mass = v.0; values = v.1 })) o

-- None for a malformed number, Some None for a number out of range
abbrev pub well_formed : {X : Type 0} → Reading X → Option (Option X)
well_formed (Ok x) = Some (Some x)
well_formed (Err NumberRange) = Some None
well_formed (Err BadNumber) = None

-- the statement of an energy line with this text
abbrev pub energy_statement : List ℕ → Option Statement
energy_statement [] = None
energy_statement (b ∷ bs) = Some (energy_is (b ∷ bs))

-- the statement of a parameter line, from the only word after the key
abbrev pub parameter_statement : Reading (List ℕ) → Option Statement
parameter_statement (Ok name) = if is_identifier name then Some (parameter_is name) else None
parameter_statement (Err e) = None

-- the statement of a line of a global, from the words after the key
abbrev pub global_statement : Frac → List (List ℕ) → Option Statement
global_statement frac [] = None
global_statement frac (name ∷ []) = None
global_statement frac (name ∷ x ∷ []) = if is_identifier name then option_map (global_is name) (well_formed (signed_of frac x)) else None
global_statement frac (name ∷ x ∷ w ∷ ws) = None

-- the statement of a line of a type, from the words after the key
abbrev pub type_statement : Frac → List (List ℕ) → Option Statement
type_statement frac [] = None
type_statement frac (name ∷ []) = None
type_statement frac (name ∷ mass ∷ values) =
    if is_type_name name then option_map (type_is name) (well_formed (both (mass_of mass) (values_of frac values))) else None

-- the key of the first table entry with this word
abbrev pub key_among : List (List ℕ × Key) → List ℕ → Option Key
key_among [] word = None
key_among (e ∷ es) word = if bytes_eq word e.0 then Some e.1 else key_among es word

-- the keys and their words
abbrev pub words_of_keys : List (List ℕ × Key)
words_of_keys =
    (codes "energy", keys.Energy) ∷ (codes "core", keys.Core) ∷ (codes "cutoff", keys.Cutoff) ∷ (codes "dt", keys.TimeStep)
    ∷ (codes "slices", keys.Slices) ∷ (codes "parameter", keys.Parameter) ∷ (codes "global", keys.Global)
    ∷ (codes "type", keys.Types) ∷ (codes "bits", keys.Bits) ∷ []

-- the key with this word
unfoldable pub key_of : List ℕ → Option Key
key_of word = key_among words_of_keys word

-- the statement of a line with this key and this text after it; numerals are read with these fraction bits
abbrev pub key_statement : Frac → Option Key → List ℕ → Option Statement
key_statement frac None text = None
key_statement frac (Some keys.Energy) text = energy_statement (without_blanks text)
key_statement frac (Some keys.Core) text = option_map core_is (well_formed (alone (numeral_of frac) (words text)))
key_statement frac (Some keys.Cutoff) text = option_map cutoff_is (well_formed (alone (cutoff_of frac) (words text)))
key_statement frac (Some keys.TimeStep) text = option_map time_step_is (well_formed (alone (whole_of 1 1000) (words text)))
key_statement frac (Some keys.Slices) text = option_map slices_is (well_formed (alone (whole_of 1 65536) (words text)))
key_statement frac (Some keys.Parameter) text = parameter_statement (only (words text))
key_statement frac (Some keys.Global) text = global_statement frac (words text)
key_statement frac (Some keys.Types) text = type_statement frac (words text)
key_statement frac (Some keys.Bits) text = option_map bits_is (well_formed (alone frac_of (words text)))

-- the statement of a line with these words
abbrev pub words_statement : Frac → List (List ℕ) → List ℕ → Option Statement
words_statement frac [] text = Some skipped
words_statement frac (word ∷ ws) text = key_statement frac (key_of word) text

-- the statement of a line, None if it is malformed; lines that start with `#` (35) and blank lines are skipped
unfoldable pub entry_of : Frac → List ℕ → Option Statement
entry_of frac line = if slice_index line 0 == 35 then Some skipped else words_statement frac (words line) (after_word line)

-- the value of a line; None if the line is malformed, or a number on it is out of range
abbrev pub value_of : Frac → List ℕ → Option LineValue
value_of frac line = option_and_then value_said (entry_of frac line)
