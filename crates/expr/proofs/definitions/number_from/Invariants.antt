-- Searching all definitions equals searching the remaining ones, which are numbered from `number`.
use Rattle.std.proofs.Common.{◌≡◌, ◌+◌, drop, map}
use Rattle.expr.specs.Definitions.{number_from}
use Rattle.expr.specs.Syntax.{definition_of, defined_names}
use Rattle.expr.proofs.definitions.number_from.Given as goal

abbrev pub invariant-loop-definition : goal.invariant-loop-definition
invariant-loop-definition g l = record {
  at : l.number ≡ l.first + l.definition-index;
  left : number_from l.first (defined_names (map definition_of l.definitions)) l.name ≡ number_from l.number (defined_names (map definition_of (drop l.definition-index l.definitions))) l.name;
}
