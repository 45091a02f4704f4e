use Rattle.std.proofs.Common.{◌≤◌}
use Rattle.expr.specs.declared.syntax.Syntax.TheBlock.{the_depth, member-Syntax}
use Rattle.expr.proofs.syntax.Syntax.+drop.Given as goal

abbrev pub invariant-loop-self : goal.invariant-loop-self
invariant-loop-self g l = the_depth g.row.A.Denot member-Syntax l.self ≤ the_depth g.row.A.Denot member-Syntax l.initial.self

abbrev pub decreases-loop-self : goal.decreases-loop-self
decreases-loop-self g l = the_depth g.row.A.Denot member-Syntax l.self
