-- Faults of single lines, given the lines above.
use Rattle.std.specs.Prelude.{◌≡◌, ℕ, ℤ, Bool, ◌&&◌, List, [], ◌∷◌, ◌++◌, ◌+◌, length, map, Option, Some, None, is_some, filter_map, nat_lt, bytes_eq, if◌then◌else◌}
use Rattle.std.specs.List.{list_any, cons_option}
use Rattle.fixed.specs.declared.frac.Frac.{Frac}
use Rattle.job.specs.declared.faults.Key.{Key}
use Rattle.job.specs.declared.faults.Key.TheVariants as keys
use Rattle.job.specs.JobLines.{LineValue, says_type, said_energy, said_core, said_cutoff, said_time_step, said_slices, said_bits, said_parameter, said_global}
use Rattle.job.specs.Statements.{Statement, skipped, energy_is, core_is, cutoff_is, time_step_is, slices_is, parameter_is, global_is, type_is, bits_is, entry_of, value_of}
use Rattle.job.specs.Values.{GlobalValue, TypeValue, Counts}

-- a fault of a job's text
pub data Refusal : Type 0 where
  bad_line : ℕ → Refusal
  missing : Key → Refusal
  repeated : Key → Refusal
  repeated_name : List ℕ → Refusal
  out_of_range : Key → Refusal
  repeated_type : List ℕ → Refusal

-- ---- the values of lines

-- a type, with the number of its line
pub record TypeLine : Type 0 where
  pub line : ℕ
  pub value : TypeValue

-- The values of lines read so far. Numerals are read with the fraction bits `frac`; `bits` is the value of the `bits`
-- line.
pub record Said : Type 0 where
  pub frac : Frac
  pub energy : Option (List ℕ)
  pub core : Option ℤ
  pub cutoff : Option ℤ
  pub time_step : Option ℕ
  pub slices : Option ℕ
  pub parameters : List (List ℕ)
  pub globals : List GlobalValue
  pub types : List TypeLine
  pub bits : Option Frac

-- the type in the value of line n
abbrev pub type_in : ℕ → Option LineValue → Option TypeLine
type_in n (Some (says_type t)) = Some (record { line = n; value = t })
type_in n _ = None

-- the first item; None if there is none
abbrev pub first : {X : Type 0} → List X → Option X
first [] = None
first (x ∷ xs) = Some x

-- the types in these lines, the first of which has the number n
abbrev pub type_lines : Frac → ℕ → List (List ℕ) → List TypeLine
type_lines frac n [] = []
type_lines frac n (line ∷ lines) = cons_option (type_in n (value_of frac line)) (type_lines frac (n + 1) lines)

-- the draft with these values and types
abbrev pub summary_of : Frac → List LineValue → List TypeLine → Said
summary_of frac values types = record {
  frac = frac;
  energy = first (filter_map said_energy values);
  core = first (filter_map said_core values);
  cutoff = first (filter_map said_cutoff values);
  time_step = first (filter_map said_time_step values);
  slices = first (filter_map said_slices values);
  parameters = filter_map said_parameter values;
  globals = filter_map said_global values;
  types = types;
  bits = first (filter_map said_bits values);
}

-- the values of the lines after the first line of a text; numerals are read with these fraction bits
unfoldable pub summary : Frac → List (List ℕ) → Said
summary frac lines = summary_of frac (filter_map (value_of frac) lines) (type_lines frac 2 lines)

-- ---- the fault of a line

-- the fault of a key that may have only one line: repeated, or else a number out of range
abbrev pub once : {X : Type 0} → Key → Option X → Option X → Option Refusal
once key (Some old) v = Some (repeated key)
once key None None = Some (out_of_range key)
once key None (Some v) = None

-- whether the name is among the names
abbrev pub knows : List (List ℕ) → List ℕ → Bool
knows names name = list_any (λ n. bytes_eq n name) names

-- the fault of a key that may have several lines: a repeated name, or else a number or the count out of range
abbrev pub listed : Bool → Refusal → Bool → Key → Option Refusal
listed known repetition fits key = if known then Some repetition else if fits then None else Some (out_of_range key)

-- the fault of a statement after lines with the values s
abbrev pub statement_fault : Counts → Said → Statement → Option Refusal
statement_fault most s skipped = None
statement_fault most s (energy_is text) = once keys.Energy s.energy (Some text)
statement_fault most s (core_is v) = once keys.Core s.core v
statement_fault most s (cutoff_is v) = once keys.Cutoff s.cutoff v
statement_fault most s (time_step_is v) = once keys.TimeStep s.time_step v
statement_fault most s (slices_is v) = once keys.Slices s.slices v
statement_fault most s (parameter_is name) =
    listed (knows s.parameters name) (repeated_name name) (nat_lt (length s.parameters) most.parameters) keys.Parameter
statement_fault most s (global_is name v) =
    listed (knows (map (λ g. g.name) s.globals) name) (repeated_name name) (is_some v && nat_lt (length s.globals) most.globals) keys.Global
statement_fault most s (type_is name v) =
    listed (knows (map (λ t. t.value.name) s.types) name) (repeated_type name) (is_some v && nat_lt (length s.types) most.types) keys.Types
statement_fault most s (bits_is v) = once keys.Bits s.bits v

-- the fault of a line from its statement: malformed, or else the fault of the statement; n is the number of the line
abbrev pub entry_fault : Counts → ℕ → Said → Option Statement → Option Refusal
entry_fault most n s None = Some (bad_line n)
entry_fault most n s (Some statement) = statement_fault most s statement

-- the fault of the line that follows the first line and the lines `above`
unfoldable pub line_fault : Counts → Frac → List (List ℕ) → List ℕ → Option Refusal
line_fault most frac above line = entry_fault most (length above + 2) (summary frac above) (entry_of frac line)

-- no line has a fault, given the lines `above` and the lines between
abbrev pub AreFaultless : Counts → Frac → List (List ℕ) → List (List ℕ) → Type 0
AreFaultless most frac above [] = Unit {0}
AreFaultless most frac above (line ∷ lines) = (line_fault most frac above line ≡ None) × AreFaultless most frac (above ++ line ∷ []) lines
