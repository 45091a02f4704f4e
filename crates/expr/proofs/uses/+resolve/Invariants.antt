-- Each part has fewer nodes than the whole.
use Rattle.std.proofs.Common.{◌+◌, ◌*◌}
use Rattle.expr.specs.Syntax.{syntax_of}
use Rattle.expr.proofs.Counts.{nodes}
use Rattle.expr.proofs.uses.+resolve.Given as goal

abbrev pub decreases-resolve_into : goal.decreases-resolve_into
decreases-resolve_into g l = 2 * nodes (syntax_of l.syntax.now)

abbrev pub decreases-resolve_operation : goal.decreases-resolve_operation
decreases-resolve_operation g l = 2 * nodes (syntax_of l.right.now) + 1

abbrev pub decreases-resolve_choice : goal.decreases-resolve_choice
decreases-resolve_choice g l = 2 * (nodes (syntax_of l.chosen.now) + nodes (syntax_of l.otherwise.now)) + 1
