-- Resolving all definitions returns the trees so far, followed by the trees of the remaining definitions.
use Rattle.std.proofs.Common.{◌≡◌, IsTrue, drop, length, map}
use Rattle.energy_program.specs.Tree.{variable_count, tree_of}
use Rattle.energy_program.specs.Variables.{names_of}
use Rattle.energy_program.proofs.Scopes.{scoped_below}
use Rattle.expr.specs.Syntax.{definition_of}
use Rattle.expr.specs.Uses.{all_resolved}
use Rattle.expr.proofs.Resolving.{behind}
use Rattle.expr.proofs.uses.resolve_all.Given as goal

abbrev pub invariant-loop-number : goal.invariant-loop-number
invariant-loop-number g l = record {
  count : length l.trees.items ≡ l.number;
  left : all_resolved (names_of l.names) 0 (map definition_of l.definitions) ≡ behind (map tree_of l.trees.items) (all_resolved (names_of l.names) l.number (map definition_of (drop l.number l.definitions)));
  scoped : IsTrue (scoped_below (variable_count l.names.parameters l.names.globals) (length l.definitions) 0 (map tree_of l.trees.items));
}
