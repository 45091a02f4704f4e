-- The meaning of a job's lines, defined from their words, which spaces and tabs separate.
use Rattle.std.specs.Prelude.{◌≡◌, ◌⊎◌, ◌≤◌, ◌<◌, ◌≤ℤ◌, ℕ, ℤ, pos, ◌-◌, ◌*◌, ◌^◌, true, List, [], ◌∷◌, length, Option, Some, None, codes}
use Rattle.std.specs.List.{AllZip}
use Rattle.fixed.specs.Arithmetic.{in_range}
use Rattle.fixed.specs.Constants.{IsConstantOf, negated}
use Rattle.fixed.specs.Fractions.{bits_of}
use Rattle.fixed.specs.Numerals.{Numeral, IsNumeral, numeral_text, mantissa_of, power_of_ten, nearest_fixed}
use Rattle.fixed.specs.declared.constants.Constant.{Constant}
use Rattle.fixed.specs.declared.frac.Frac.{Frac}
use Rattle.line_text.specs.Identifiers.{is_identifier}
use Rattle.line_text.specs.Words.{words, without_blanks, after_word}
use Rattle.line_text.specs.Written.{WritesDecimal, WritesWhole}
use Rattle.job.specs.Forms.{is_type_name}
use Rattle.job.specs.Values.{GlobalValue, TypeValue}

-- the first line of a job
abbrev pub header : List ℕ
header = codes "pairmd job 1"

-- ---- numbers

-- The whole word is a numeral, and v is the nearest number with these fraction bits, in range. So `1e3.2` and `1.5e3.2`
-- aren't numbers.
pub record IsNumber (frac : Frac) (word : List ℕ) (v : ℤ) : Type 0 where
  pub numeral : Numeral
  pub well_formed : IsNumeral numeral
  pub text : numeral_text numeral ≡ word
  pub nearest : nearest_fixed (bits_of frac) (mantissa_of numeral) (power_of_ten numeral) ≡ v
  pub fits : in_range v ≡ true

-- The whole word is a numeral, and c is its decimal as it is read with these fraction bits: the nearest number, in
-- range, and the error of reading.
pub record IsConstant (frac : Frac) (word : List ℕ) (c : Constant) : Type 0 where
  pub numeral : Numeral
  pub well_formed : IsNumeral numeral
  pub text : numeral_text numeral ≡ word
  pub read : IsConstantOf (bits_of frac) (mantissa_of numeral) (power_of_ten numeral) c
  pub fits : in_range c.value ≡ true

-- a numeral with its constant; or a minus (45) and a numeral, with the negative of the numeral's constant
pub data IsSignedConstant (frac : Frac) (word : List ℕ) (c : Constant) : Type 0 where
  plain : IsConstant frac word c → IsSignedConstant frac word c
  minus : (numeral : List ℕ) (d : Constant) → word ≡ 45 ∷ numeral → IsConstant frac numeral d → c ≡ negated d → IsSignedConstant frac word c

-- The word is a mass in u: digits, or digits, a point and one to five digits. m is the mass in 10^-5 u.
pub data IsMass (word : List ℕ) (m : ℕ) : Type 0 where
  digits_alone : (n : ℕ) → WritesWhole word n → n * 100000 ≡ m → IsMass word m
  with_point : (decimals n : ℕ) → 1 ≤ decimals → decimals ≤ 5 → WritesDecimal decimals word n → n * 10 ^ (5 - decimals) ≡ m → IsMass word m

-- ---- lines

-- the meaning of a line: a value for its key, or no value
pub data LineValue : Type 0 where
  says_nothing : LineValue
  says_energy : List ℕ → LineValue
  says_core : ℤ → LineValue
  says_cutoff : ℤ → LineValue
  says_time_step : ℕ → LineValue
  says_slices : ℕ → LineValue
  says_bits : Frac → LineValue
  says_parameter : List ℕ → LineValue
  says_global : GlobalValue → LineValue
  says_type : TypeValue → LineValue

-- The line has no meaning: it is a comment, whose first byte is `#` (35), or it has no words. A line ` # x` with a
-- space in front is neither.
abbrev pub IsSilent : List ℕ → Type 0
IsSilent line = ((rest : List ℕ) × (line ≡ 35 ∷ rest)) ⊎ (words line ≡ [])

-- An energy line: the key, and the text from the next byte that isn't blank. Blanks at the end belong to the text.
pub record IsEnergyLine (line text : List ℕ) : Type 0 where
  pub others : List (List ℕ)
  pub key : words line ≡ codes "energy" ∷ others
  pub text_is : without_blanks (after_word line) ≡ text
  pub some : 0 < length text

-- the line is this key and one word with the property `Is`
abbrev pub HasOneWord : List ℕ → List ℕ → (List ℕ → Type 0) → Type 0
HasOneWord line key Is = (word : List ℕ) × (words line ≡ key ∷ word ∷ []) × Is word

-- a line of a global: the key, its name and its value
pub record IsGlobalLine (frac : Frac) (line : List ℕ) (g : GlobalValue) : Type 0 where
  pub word : List ℕ
  pub words_are : words line ≡ codes "global" ∷ g.name ∷ word ∷ []
  pub named : is_identifier g.name ≡ true
  pub number : IsSignedConstant frac word g.value

-- a line of a type: the key, its name, its mass from 0.00001 to 1000 u, and its values
pub record IsTypeLine (frac : Frac) (line : List ℕ) (t : TypeValue) : Type 0 where
  pub mass : List ℕ
  pub numerals : List (List ℕ)
  pub words_are : words line ≡ codes "type" ∷ t.name ∷ mass ∷ numerals
  pub named : is_type_name t.name ≡ true
  pub mass_is : IsMass mass t.mass
  pub some_mass : 1 ≤ t.mass
  pub most_mass : t.mass ≤ 100000000
  pub numbers : AllZip (IsSignedConstant frac) numerals t.values

-- The line has this meaning, with numerals read at these fraction bits. A core and a cutoff have no sign; a cutoff is
-- above 0 and at most 80 nm after rounding. A time step is 1 to 1000 fs, and slices are 1 to 65,536. Fraction bits are
-- 24, 32 or 40. A parameter is an identifier.
abbrev pub LineSays : Frac → List ℕ → LineValue → Type 0
LineSays frac line says_nothing = IsSilent line
LineSays frac line (says_energy text) = IsEnergyLine line text
LineSays frac line (says_core v) = HasOneWord line (codes "core") (λ word. IsNumber frac word v)
LineSays frac line (says_cutoff v) =
    HasOneWord line (codes "cutoff") (λ word. IsNumber frac word v × (pos 1 ≤ℤ v) × (v ≤ℤ pos (80 * 2 ^ bits_of frac)))
LineSays frac line (says_time_step n) = HasOneWord line (codes "dt") (λ word. WritesWhole word n × (1 ≤ n) × (n ≤ 1000))
LineSays frac line (says_slices n) = HasOneWord line (codes "slices") (λ word. WritesWhole word n × (1 ≤ n) × (n ≤ 65536))
LineSays frac line (says_bits said) = HasOneWord line (codes "bits") (λ word. WritesWhole word (bits_of said))
LineSays frac line (says_parameter name) = HasOneWord line (codes "parameter") (λ word. (word ≡ name) × (is_identifier name ≡ true))
LineSays frac line (says_global g) = IsGlobalLine frac line g
LineSays frac line (says_type t) = IsTypeLine frac line t

-- ---- the value of a line for one key; None if the line has another meaning

abbrev pub said_energy : LineValue → Option (List ℕ)
said_energy (says_energy text) = Some text
said_energy _ = None

abbrev pub said_core : LineValue → Option ℤ
said_core (says_core v) = Some v
said_core _ = None

abbrev pub said_cutoff : LineValue → Option ℤ
said_cutoff (says_cutoff v) = Some v
said_cutoff _ = None

abbrev pub said_time_step : LineValue → Option ℕ
said_time_step (says_time_step n) = Some n
said_time_step _ = None

abbrev pub said_slices : LineValue → Option ℕ
said_slices (says_slices n) = Some n
said_slices _ = None

abbrev pub said_bits : LineValue → Option Frac
said_bits (says_bits frac) = Some frac
said_bits _ = None

abbrev pub said_parameter : LineValue → Option (List ℕ)
said_parameter (says_parameter name) = Some name
said_parameter _ = None

abbrev pub said_global : LineValue → Option GlobalValue
said_global (says_global g) = Some g
said_global _ = None

abbrev pub said_type : LineValue → Option TypeValue
said_type (says_type t) = Some t
said_type _ = None
