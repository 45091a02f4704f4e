-- Lines that the private functions of `next_text` take from a source.
use Rattle.std.specs.Prelude.{◌≡◌, ◌⊎◌, ◌<◌, ◌-◌, ℕ, suc, Bool, true, false, List, [], ◌++◌, length, Option, Some, None}
use Rattle.std.specs.List.{AllByRecursion, flat_map}
use Rattle.line_text.specs.Parts.{◌>>=◌, split_once, ended, lacks}
use Rattle.state.specs.Sources.{IsAtEnd, IsLine, Left, Takes}
use Rattle.state.specs.StateReading.{count_number, count_of, head_of}
use Rattle.state.specs.declared.versions.Version.{Version}

-- the text is `count` lines, each with its LF
pub record AreLines (count : ℕ) (text : List ℕ) : Type 0 where
  pub lines : List (List ℕ)
  pub many : length lines ≡ count
  pub whole : AllByRecursion (λ line. lacks 10 line ≡ true) lines
  pub joined : text ≡ flat_map ended lines

-- fewer lines than `count`, each with its LF, and then the last bytes of the source, without an LF
pub record AreFewer (count : ℕ) (text : List ℕ) (after : Left) : Type 0 where
  pub whole : ℕ
  pub front : List ℕ
  pub last : List ℕ
  pub fewer : whole < count
  pub joined : text ≡ front ++ last
  pub lines : AreLines whole front
  pub part : lacks 10 last ≡ true
  pub end : IsAtEnd after

-- If `all` is true, `count` lines, each with its LF. If `all` is false, fewer.
abbrev pub AreTaken : (all : Bool) → (count : ℕ) → (text : List ℕ) → (after : Left) → Type 0
AreTaken true count text after = AreLines count text
AreTaken false count text after = AreFewer count text after

-- bytes that have this property were taken, and appended to `text`
pub record Taken (before after : Left) (text text' : List ℕ) (Are : List ℕ → Type 0) : Type 0 where
  pub bytes : List ℕ
  pub appended : text' ≡ text ++ bytes
  pub taken : Takes before after bytes
  pub are : Are bytes

-- Up to `count` lines were taken, and appended to `text`. If `all` is true, all of them have their LF.
abbrev pub TakesLines : (all : Bool) → (count : ℕ) → (before after : Left) → (text text' : List ℕ) → Type 0
TakesLines all count before after text text' = Taken before after text text' (λ lines. AreTaken all count lines after)

-- the version in a line with its LF
abbrev pub version_in : List ℕ → Option Version
version_in line = split_once 10 line >>= λ parts. head_of parts.0

-- the number of lines that follow the number of atoms, if there is one
abbrev pub lines_after : Option ℕ → ℕ
lines_after None = 0
lines_after (Some count) = suc count

-- the number of atoms in a line with its LF
abbrev pub count_in : List ℕ → Option ℕ
count_in line = split_once 10 line >>= λ parts. count_of parts.0

-- the number of lines that follow this line: the box and the atoms; 0 if the number of atoms can't be read
abbrev pub lines_behind : List ℕ → ℕ
lines_behind line = lines_after (count_in line)

-- a first line with this version was taken
pub record TakesHead (version : Option Version) (before after : Left) (text : List ℕ) : Type 0 where
  pub taken : Takes before after text
  pub line : IsLine text after
  pub version' : version ≡ version_in text

-- the line with the number of atoms was taken, and appended to `text`; `more` lines follow
abbrev pub TakesCountLine : (more : ℕ) → (before after : Left) → (text text' : List ℕ) → Type 0
TakesCountLine more before after text text' = Taken before after text text' (λ line. IsLine line after × (more ≡ lines_behind line))

-- `between` lines, and the line with the number of atoms; `more` lines follow
pub record HasCountLine (between more : ℕ) (text : List ℕ) (after : Left) : Type 0 where
  pub front : List ℕ
  pub line : List ℕ
  pub joined : text ≡ front ++ line
  pub lines : AreLines between front
  pub is : IsLine line after
  pub more' : more ≡ lines_behind line

-- the lines up to the number of atoms, or fewer lines at the end of the source, which no line follows
abbrev pub IsCounted : (between more : ℕ) → (text : List ℕ) → (after : Left) → Type 0
IsCounted between more text after = HasCountLine between more text after ⊎ ((more ≡ 0) × AreFewer between text after)

-- the lines between the first one and the end of the line with the number of atoms were taken, and appended to `text`
abbrev pub TakesCount : Version → (more : ℕ) → (before after : Left) → (text text' : List ℕ) → Type 0
TakesCount version more before after text text' =
    Taken before after text text' (λ lines. IsCounted (count_number version - 2) more lines after)

-- a first line with a version, and the lines up to the number of atoms; `more` lines follow
pub record HasHead (more : ℕ) (text : List ℕ) (after : Left) : Type 0 where
  pub bare : List ℕ
  pub rest : List ℕ
  pub version : Version
  pub joined : text ≡ ended bare ++ rest
  pub whole : lacks 10 bare ≡ true
  pub head : head_of bare ≡ Some version
  pub are : IsCounted (count_number version - 2) more rest after

-- the lines up to the number of atoms, or a line without a version, which no line follows
abbrev pub IsFront : (more : ℕ) → (text : List ℕ) → (after : Left) → Type 0
IsFront more text after = HasHead more text after ⊎ ((more ≡ 0) × IsLine text after × (version_in text ≡ None))

-- the lines of a text up to the number of atoms were taken; `more` lines follow
pub record TakesFront (more : ℕ) (before after : Left) (text : List ℕ) : Type 0 where
  pub taken : Takes before after text
  pub front : IsFront more text after
  pub last : text ≡ [] → IsAtEnd before
