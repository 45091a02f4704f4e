-- Checks of definitions' names: none is reserved or a variable's, and none is defined twice.
use Rattle.std.specs.Prelude.{◌≡◌, ℕ, Bool, false, ◌||◌, if◌then◌else◌, List, [], ◌∷◌, ◌++◌, Option, is_some, Result, Ok, Err}
use Rattle.std.specs.List.{position_from}
use Rattle.std.specs.Str.{bytes_eq}
use Rattle.energy_program.specs.Faults.{Refusal, RepeatedDefinition, ReservedName}
use Rattle.energy_program.specs.Names.{input_of, is_reserved}

-- the number of the first of these names that is this one, if they are numbered from i
abbrev pub number_from : ℕ → List (List ℕ) → List ℕ → Option ℕ
number_from i names name = position_from (λ n. bytes_eq n name) i names

-- the name is reserved or one of these variables', so that no definition may have it
abbrev pub is_taken : List (List ℕ) → List ℕ → Bool
is_taken variables name = is_reserved name || is_some (input_of variables name)

-- the name is one of these
abbrev pub is_given : List (List ℕ) → List ℕ → Bool
is_given names name = is_some (number_from 0 names name)

-- a definition after definitions with the names `before` may have the name
pub record IsNew (variables before : List (List ℕ)) (name : List ℕ) : Type 0 where
  pub free : is_taken variables name ≡ false
  pub first : is_given before name ≡ false

-- each of these names, in order, may be defined after the names `before`
abbrev pub AreNew : List (List ℕ) → List (List ℕ) → List (List ℕ) → Type 0
AreNew variables before [] = Unit {0}
AreNew variables before (name ∷ names) = IsNew variables before name × AreNew variables (before ++ (name ∷ [])) names

-- all names, or the error of the first that may not be defined after those before it
unfoldable pub checked : List (List ℕ) → List (List ℕ) → List (List ℕ) → Result (List (List ℕ)) Refusal
checked variables before [] = Ok before
checked variables before (name ∷ names) =
    if is_taken variables name then Err (ReservedName name)
    else (if is_given before name then Err (RepeatedDefinition name)
    else checked variables (before ++ (name ∷ [])) names)
