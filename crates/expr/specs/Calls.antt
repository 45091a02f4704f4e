-- Syntax trees of calls.
use Rattle.std.specs.Prelude.{ℕ, List, Result, Ok, Err}
use Rattle.energy_program.specs.declared.callees.Callee.{Callee}
use Rattle.energy_program.specs.declared.callees.Callee.TheVariants as takes
use Rattle.energy_program.specs.Faults.{Refusal, WrongArgumentCount}
use Rattle.expr.specs.Syntax.{Syntax, Binary, Applied, Select, Arguments, One, Two, Three}

-- the tree of a call of the named function, or the error of a wrong number of arguments
abbrev pub called : List ℕ → Callee → Arguments → Result Syntax Refusal
called name (takes.One f) (One x) = Ok (Applied f x)
called name (takes.Two o) (Two x y) = Ok (Binary o x y)
called name takes.Three (Three x y z) = Ok (Select x y z)
called name _ _ = Err (WrongArgumentCount name)
