-- Identifiers: the names of parameters, globals, variables and definitions.
use Rattle.std.specs.Prelude.{ℕ, Bool, false, ◌&&◌, ◌||◌, ◌==◌, List, [], ◌∷◌}
use Rattle.std.specs.Char.{is_ascii_alphabetic, is_ascii_digit}
use Rattle.std.specs.List.{list_all}

-- whether the byte is `_` or a letter, `A` to `Z` or `a` to `z`
abbrev pub is_identifier_start : ℕ → Bool
is_identifier_start b = b == 95 || is_ascii_alphabetic b

-- whether the byte is `_`, a letter or a digit
abbrev pub is_identifier_continue : ℕ → Bool
is_identifier_continue b = is_identifier_start b || is_ascii_digit b

-- whether the text is an identifier: `_` or a letter, then any number of `_`, letters and digits
unfoldable pub is_identifier : List ℕ → Bool
is_identifier [] = false
is_identifier (b ∷ bs) = is_identifier_start b && list_all is_identifier_continue bs
