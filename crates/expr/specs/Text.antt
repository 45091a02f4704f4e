-- The lexical grammar: which bytes spell which tokens. Operators and names are taken from OpenMM's custom force
-- expressions (OpenMM User Guide).
use Rattle.std.specs.Prelude.{◌≡◌, ℕ, ◌+◌, Bool, true, false, List, [], ◌∷◌, ◌++◌, length, Err}
use Rattle.fixed.specs.declared.constants.Constant.{Constant}
use Rattle.fixed.specs.declared.faults.NumFault.TheVariants.{NumberRange}
use Rattle.fixed.specs.Arithmetic.{in_range}
use Rattle.fixed.specs.Constants.{IsConstantOf}
use Rattle.fixed.specs.Numerals.{Numeral, IsNumeral, numeral_text, mantissa_of, power_of_ten, value_of, EndsBefore, BeginsWith}
use Rattle.expr.specs.Tokens.{Lexeme, Lexed, whole_in}
use Rattle.expr.specs.Tokens as t
use Rattle.line_text.specs.Identifiers.{is_identifier_start, is_identifier_continue}
use Rattle.expr.specs.Bytes.{is_space, begins_number}

-- all bytes pass the test
abbrev pub Every : (ℕ → Bool) → List ℕ → Type 0
Every test [] = Unit {0}
Every test (b ∷ bs) = (test b ≡ true) × Every test bs

-- the first byte, if any, fails the test
abbrev pub Stops : (ℕ → Bool) → List ℕ → Type 0
Stops test [] = Unit {0}
Stops test (b ∷ bs) = test b ≡ false

-- The bytes spell the token, if `rest` follows them: numerals and identifiers are as long as possible (maximal munch).
-- Numbers have `bits` fraction bits: the token of a numeral is its decimal as it is read, with the error of reading.
pub data IsToken (bits : ℕ) (rest : List ℕ) : List ℕ → Lexeme → Type 0 where
  plus : IsToken bits rest (43 ∷ []) t.Plus
  minus : IsToken bits rest (45 ∷ []) t.Minus
  star : IsToken bits rest (42 ∷ []) t.Star
  slash : IsToken bits rest (47 ∷ []) t.Slash
  caret : IsToken bits rest (94 ∷ []) t.Caret
  open_parenthesis : IsToken bits rest (40 ∷ []) t.Open
  close_parenthesis : IsToken bits rest (41 ∷ []) t.Close
  comma : IsToken bits rest (44 ∷ []) t.Comma
  semicolon : IsToken bits rest (59 ∷ []) t.Semicolon
  equals : IsToken bits rest (61 ∷ []) t.Equals
  number : {n : Numeral} {c : Constant} → IsNumeral n → EndsBefore n rest
      → IsConstantOf bits (mantissa_of n) (power_of_ten n) c → in_range c.value ≡ true
      → IsToken bits rest (numeral_text n) (t.Number c (whole_in (numeral_text n)))
  name : {b : ℕ} {bs : List ℕ} → is_identifier_start b ≡ true → Every is_identifier_continue bs
      → Stops is_identifier_continue rest → IsToken bits rest (b ∷ bs) (t.Name (b ∷ bs))

-- From the first offset on, the text begins with these tokens, lexed; the rest begins at the second offset.
pub data IsFront (bits : ℕ) : ℕ → List ℕ → List Lexed → ℕ → List ℕ → Type 0 where
  done : {at : ℕ} {rest : List ℕ} → IsFront bits at rest [] at rest
  space : {at b end : ℕ} {text rest : List ℕ} {ts : List Lexed} → is_space b ≡ true
      → IsFront bits (at + 1) text ts end rest → IsFront bits at (b ∷ text) ts end rest
  token : {at end : ℕ} {a text rest : List ℕ} {k : Lexeme} {ts : List Lexed} → IsToken bits text a k
      → IsFront bits (at + length a) text ts end rest → IsFront bits at (a ++ text) ((k, at) ∷ ts) end rest

-- the text splits into these tokens
abbrev pub IsText : ℕ → List ℕ → List Lexed → Type 0
IsText bits text ts = IsFront bits 0 text ts (length text) []

-- the byte begins no token and is no space
pub record BeginsNone (b : ℕ) : Type 0 where
  pub no_space : is_space b ≡ false
  pub no_number : begins_number b ≡ false
  pub no_token : (bits : ℕ) (a rest : List ℕ) (k : Lexeme) → IsToken bits rest (b ∷ a) k → ⊥

abbrev pub BeginsBadly : List ℕ → Type 0
BeginsBadly [] = ⊥
BeginsBadly (b ∷ rest) = BeginsNone b

-- the text begins with a numeral whose rounded value is out of range
pub record BeginsTooGreat (bits : ℕ) (text : List ℕ) : Type 0 where
  pub numeral : Numeral
  pub rest : List ℕ
  pub begins : BeginsWith text numeral rest
  pub too_great : value_of bits numeral ≡ Err NumberRange

-- the text begins with a digit or a point, but with no numeral
pub record BeginsMalformed (text : List ℕ) : Type 0 where
  pub byte : ℕ
  pub rest : List ℕ
  pub parts : text ≡ byte ∷ rest
  pub begins : begins_number byte ≡ true
  pub no_numeral : (n : Numeral) (after : List ℕ) → BeginsWith text n after → ⊥

-- after some tokens, at this offset, the rest of the text has the property
pub record IsWrongAt (bits : ℕ) (Wrong : List ℕ → Type 0) (text : List ℕ) (at : ℕ) : Type 0 where
  pub tokens : List Lexed
  pub rest : List ℕ
  pub front : IsFront bits 0 text tokens at rest
  pub wrong : Wrong rest
