-- The names of the language: variables, functions and reserved names, and which lists of names a program may have.
-- Declared with the code: a Callee is One with a function of one argument, Two with the operator of `min` or `max`, or
-- Three, which is `select`.
use Rattle.std.specs.Prelude.{ℕ, Bool, ◌||◌, ◌&&◌, nat_le, if◌then◌else◌, List, [], ◌∷◌, ◌++◌, length, map, position, Option, Some, None, is_some, Result, Ok, Err, codes}
use Rattle.std.specs.List.{list_any}
use Rattle.std.specs.Str.{bytes_eq}
use Rattle.fixed.specs.declared.operations.Function.{Function}
use Rattle.fixed.specs.declared.operations.Operator.TheVariants as op
use Rattle.fixed.specs.Operations.{function_of_word}
use Rattle.energy_program.specs.declared.callees.Callee.{Callee}
use Rattle.energy_program.specs.declared.callees.Callee.TheVariants as takes
use Rattle.energy_program.specs.Faults.{Refusal, UnknownName, LeftOutFunction, RepeatedDefinition, ReservedName, TooLarge}

-- ---- the variables

-- the variables of the first particle: each parameter's name followed by 1
abbrev pub first_particle : List (List ℕ) → List (List ℕ)
first_particle parameters = map (λ p. p ++ codes "1") parameters

-- the variables of the second particle: each parameter's name followed by 2
abbrev pub second_particle : List (List ℕ) → List (List ℕ)
second_particle parameters = map (λ p. p ++ codes "2") parameters

-- all variables except the distance: the parameters of the first particle, the parameters of the second, the globals
abbrev pub parameters_and_globals : List (List ℕ) → List (List ℕ) → List (List ℕ)
parameters_and_globals parameters globals = first_particle parameters ++ (second_particle parameters ++ globals)

-- the variables of a program with these parameters and globals, in the order of their input numbers, the distance first
abbrev pub variables_of : List (List ℕ) → List (List ℕ) → List (List ℕ)
variables_of parameters globals = codes "r" ∷ parameters_and_globals parameters globals

-- the input number of the variable with this name: its index in the list
abbrev pub input_of : List (List ℕ) → List ℕ → Option ℕ
input_of variables name = position (bytes_eq name) variables

-- ---- the functions

-- the function of one argument, if there is one, else the other function with this name
abbrev pub callee_of : Option Function → List ℕ → Option Callee
callee_of (Some g) name = Some (takes.One g)
callee_of None name =
    if bytes_eq name (codes "min") then Some (takes.Two op.Minimum)
    else if bytes_eq name (codes "max") then Some (takes.Two op.Maximum)
    else if bytes_eq name (codes "select") then Some takes.Three
    else None

-- the function of the language with this name
unfoldable pub function_of : List ℕ → Option Callee
function_of name = callee_of (function_of_word name) name

-- the name is a function of OpenMM's custom force expressions (OpenMM User Guide) that the language leaves out
unfoldable pub is_left_out : List ℕ → Bool
is_left_out name = list_any (bytes_eq name) (
    codes "exp" ∷ codes "log" ∷ codes "sin" ∷ codes "cos" ∷ codes "sec" ∷ codes "csc" ∷ codes "tan" ∷ codes "cot" ∷ codes "asin"
    ∷ codes "acos" ∷ codes "atan" ∷ codes "atan2" ∷ codes "sinh" ∷ codes "cosh" ∷ codes "tanh" ∷ codes "erf" ∷ codes "erfc" ∷ []
    )

-- the error of a name before a parenthesis that isn't a function
abbrev pub call_refusal : List ℕ → Refusal
call_refusal name = if is_left_out name then LeftOutFunction name else UnknownName name

-- ---- the names of a program's variables

-- The name is reserved: `r`, a function, or a function left out. No definition has such a name, and no variable except
-- the distance.
unfoldable pub is_reserved : List ℕ → Bool
is_reserved name = bytes_eq name (codes "r") || is_some (function_of name) || is_left_out name

-- the name is in the list
abbrev pub is_among : List (List ℕ) → List ℕ → Bool
is_among names name = list_any (bytes_eq name) names

-- the first name that appears again later in the list
abbrev pub first_repeated : List (List ℕ) → Option (List ℕ)
first_repeated [] = None
first_repeated (n ∷ ns) = if is_among ns n then Some n else first_repeated ns

-- the first of these variables whose name is reserved, in `taken`, or an earlier one's
abbrev pub first_clash : List (List ℕ) → List (List ℕ) → Option (List ℕ)
first_clash taken [] = None
first_clash taken (v ∷ vs) = if is_reserved v || is_among taken v then Some v else first_clash (taken ++ v ∷ []) vs

-- at most 8 parameters and 16 globals
abbrev pub are_few : List (List ℕ) → List (List ℕ) → Bool
are_few parameters globals = nat_le (length parameters) 8 && nat_le (length globals) 16

-- the error of a name if there is one, else the other result
abbrev pub refused_for : {A : Type 0} → (List ℕ → Refusal) → Option (List ℕ) → Result A Refusal → Result A Refusal
refused_for why (Some name) otherwise = Err (why name)
refused_for why None otherwise = otherwise

-- The variables of a program with these parameters and globals. Errors, in this order: too many names, a name twice
-- among the parameters, a name twice among the globals, a variable whose name is reserved or an earlier variable's. The
-- error carries the first such name.
unfoldable pub names_from : List (List ℕ) → List (List ℕ) → Result (List (List ℕ)) Refusal
names_from parameters globals =
    if are_few parameters globals
    then refused_for RepeatedDefinition (first_repeated parameters)
    (refused_for RepeatedDefinition (first_repeated globals)
    (refused_for ReservedName (first_clash (codes "r" ∷ []) (parameters_and_globals parameters globals))
    (Ok (variables_of parameters globals))))
    else Err TooLarge
