-- Sources of lines, and the texts of states in them, one after another. Contracts see the bytes that a source has left,
-- if they are known.
use Rattle.std.specs.Prelude.{◌≡◌, ◌≢◌, ◌⊎◌, ℕ, List, [], ◌++◌, Option, Some, None, Err, option_map, true}
use Rattle.line_text.specs.Parts.{ended, lacks}
use Rattle.state.specs.StateFaults.{ReadsAs}
use Rattle.state.specs.StateText.{IsState, StateView, state_text}
use Rattle.state.specs.declared.faults.StateFault.{StateFault}
use Rattle.state.specs.declared.faults.StateFault.TheVariants.{Trailing}

-- the bytes that are left, if known
abbrev pub Left : Type 0
Left = Option (List ℕ)

-- no known byte is left
abbrev pub IsAtEnd : Left → Type 0
IsAtEnd None = Unit {0}
IsAtEnd (Some rest) = rest ≡ []

-- what was left before this text was taken
abbrev pub with_text : List ℕ → Left → Left
with_text text left = option_map (λ rest. text ++ rest) left

-- this text was taken from what was left before
abbrev pub Takes : (before after : Left) → List ℕ → Type 0
Takes before after text = before ≡ with_text text after

-- a line with its LF; or the last bytes, without an LF
abbrev pub IsLine : List ℕ → (after : Left) → Type 0
IsLine line after = ((bare : List ℕ) × (lacks 10 bare ≡ true) × (line ≡ ended bare))
    ⊎ ((lacks 10 line ≡ true) × IsAtEnd after)

-- the next line was taken, and appended to `text`
pub record TakesLine (before after : Left) (text text' : List ℕ) : Type 0 where
  pub line : List ℕ
  pub appended : text' ≡ text ++ line
  pub taken : Takes before after line
  pub is : IsLine line after

-- If the text is no state's, then the text with what follows has the same fault, so it doesn't start with a state's
-- text. That the text is too long is never its fault.
abbrev pub KeepsFault : (text rest : List ℕ) → Type 0
KeepsFault text rest = (f : StateFault) → ReadsAs text (Err f) → ReadsAs (text ++ rest) (Err f) × (f ≢ Trailing)

-- the same for what is left, of which nothing is assumed if it is unknown
abbrev pub KeepsFaultBefore : (text : List ℕ) → Left → Type 0
KeepsFaultBefore text None = KeepsFault text []
KeepsFaultBefore text (Some rest) = KeepsFault text rest

-- The next text was taken: that of a state, or one whose fault doesn't change with what follows. It is empty only at the
-- end.
pub record TakesText (before after : Left) (text : List ℕ) : Type 0 where
  pub taken : Takes before after text
  pub keeps : KeepsFaultBefore text after
  pub last : text ≡ [] → IsAtEnd before

-- a state's text isn't empty
abbrev pub NoTextIsEmpty : Type 0
NoTextIsEmpty = (s : StateView) → state_text s ≢ []

-- no state's text is a beginning of these bytes
abbrev pub StartsNoState : List ℕ → Type 0
StartsNoState bytes = (s : StateView) (more : List ℕ) → IsState s → bytes ≡ state_text s ++ more → ⊥

-- bytes with a fault other than too many bytes don't start with a state's text
abbrev pub FaultsStartNoState : Type 0
FaultsStartNoState = (bytes : List ℕ) (f : StateFault) → ReadsAs bytes (Err f) → f ≢ Trailing → StartsNoState bytes

-- bytes start with at most one state's text
abbrev pub StartsOneState : Type 0
StartsOneState = (s t : StateView) (more others : List ℕ) → IsState s → IsState t
    → state_text s ++ more ≡ state_text t ++ others → (s ≡ t) × (more ≡ others)
