-- The text that `explain` prints. `Wrote` is the property that the output has for the printed text.
use Rattle.std.specs.Prelude.{◌≡◌, ℕ, List, Option, Some}
use Rattle.command_line.specs.Explanations.{text_for}

-- the explanation for this code was written, or without a code the overview of all codes
pub record IsExplanation (code : Option (List ℕ)) (Wrote : List ℕ → Type 0) : Type 0 where
  pub text : List ℕ
  pub known : text_for code ≡ Some text
  pub written : Wrote text
