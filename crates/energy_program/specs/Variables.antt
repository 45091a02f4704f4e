-- Variables as lists of names, and the order in which a program's variables are collected.
use Rattle.std.specs.Prelude.{ℕ, ◌||◌, if◌then◌else◌, List, [], ◌∷◌, ◌++◌, map, Result, Ok, Err}
use Rattle.std.specs.HashSet.{HashSet}
use Rattle.std.specs.declared.vec.Vec.{Vec}
use Rattle.energy_program.specs.declared.variables.Names.{Names}
use Rattle.line_text.specs.Steps.{◌>>=◌}
use Rattle.energy_program.specs.Faults.{Refusal, ReservedName}
use Rattle.energy_program.specs.Names.{is_among, is_reserved}

-- the names in a set, in the order of insertion
abbrev pub names_in : {A S : Type 0} → HashSet (Vec ℕ A) S → List (List ℕ)
names_in s = map (λ v. v.items) s.keys

-- the names of the variables, in the order of their input numbers
abbrev pub names_of : {A : Type 0} → Names A → List (List ℕ)
names_of n = names_in n.variables

-- the list with one more variable at its end; an error if its name is reserved or in the list
abbrev pub added : List (List ℕ) → List ℕ → Result (List (List ℕ)) Refusal
added names name = if is_reserved name || is_among names name then Err (ReservedName name) else Ok (names ++ name ∷ [])

-- the list with more variables added one after the other
abbrev pub filled : List (List ℕ) → List (List ℕ) → Result (List (List ℕ)) Refusal
filled names [] = Ok names
filled names (v ∷ vs) = added names v >>= λ more. filled more vs
