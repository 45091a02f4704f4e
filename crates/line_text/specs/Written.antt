-- Forms of the parts of a line, each as a relation between a text and the value that it denotes.
use Rattle.std.specs.Prelude.{◌≡◌, ℕ, ◌+◌, ◌*◌, ◌^◌, ◌<◌, List, ◌∷◌, ◌++◌, length, replicate, ℤ, pos, neg_ℤ, IsTrue}
use Rattle.std.specs.Str.{all_ascii_digits}
use Rattle.std.specs.Str.Parse.{digits_value}
use Rattle.line_text.specs.Parts.{is_name}

-- ---- padding

-- the column is the text after any number of spaces
pub record IsRight (column text : List ℕ) : Type 0 where
  pub before : ℕ
  pub whole : column ≡ replicate before 32 ++ text

-- the column is the text with any number of spaces before and after it
pub record IsPadded (column text : List ℕ) : Type 0 where
  pub before : ℕ
  pub behind : ℕ
  pub whole : column ≡ replicate before 32 ++ (text ++ replicate behind 32)

-- the column is a name with any number of spaces around it
pub record WritesName (column name : List ℕ) : Type 0 where
  pub padded : IsPadded column name
  pub named : IsTrue (is_name name)

-- ---- numbers

-- the text is one or more digits
pub record IsDigits (text : List ℕ) : Type 0 where
  pub some : 0 < length text
  pub digits : IsTrue (all_ascii_digits text)

-- the text is one or more digits, and n their value; leading zeros are allowed
pub record WritesWhole (text : List ℕ) (n : ℕ) : Type 0 where
  pub form : IsDigits text
  pub value : digits_value 10 text ≡ n

-- the text is one or more digits, a point and `decimals` digits, and n its value in units of the last digit
pub record WritesDecimal (decimals : ℕ) (text : List ℕ) (n : ℕ) : Type 0 where
  pub whole : List ℕ
  pub part : List ℕ
  pub parts : text ≡ whole ++ 46 ∷ part
  pub whole_form : IsDigits whole
  pub part_digits : IsTrue (all_ascii_digits part)
  pub part_length : length part ≡ decimals
  pub value : digits_value 10 whole * 10 ^ decimals + digits_value 10 part ≡ n

-- the text has the form P, with value z; or a minus and then the form P, with value -z
pub data WritesSigned (P : List ℕ → ℕ → Type 0) (text : List ℕ) (z : ℤ) : Type 0 where
  plain : (n : ℕ) → P text n → z ≡ pos n → WritesSigned P text z
  minus : (magnitude : List ℕ) (n : ℕ) → text ≡ 45 ∷ magnitude → P magnitude n → z ≡ neg_ℤ (pos n) → WritesSigned P text z

-- the column is decimals, possibly with a minus, after any number of spaces, as C's %8.3f prints them
pub record WritesColumn (decimals : ℕ) (column : List ℕ) (z : ℤ) : Type 0 where
  pub text : List ℕ
  pub padded : IsRight column text
  pub number : WritesSigned (WritesDecimal decimals) text z
