-- The names before are new, and those that are left decide.
use Rattle.std.proofs.Common.{◌≡◌, [], drop, map, take}
use Rattle.energy_program.specs.Variables.{names_of}
use Rattle.expr.specs.Definitions.{checked}
use Rattle.expr.specs.Syntax.{definition_of, defined_names}
use Rattle.expr.proofs.definitions.check_names.Given as goal

abbrev pub invariant-loop-number : goal.invariant-loop-number
invariant-loop-number g l =
    checked (names_of l.names) [] (defined_names (map definition_of l.definitions))
    ≡ checked (names_of l.names) (defined_names (map definition_of (take l.number l.definitions))) (defined_names (map definition_of (drop l.number l.definitions)))
