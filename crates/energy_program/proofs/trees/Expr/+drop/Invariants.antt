use Rattle.std.proofs.Common.{◌≤◌}
use Rattle.energy_program.proofs.trees.Expr.TheLaws.{the_size}
use Rattle.energy_program.proofs.trees.Expr.+drop.Given as goal

abbrev pub invariant-loop-self : goal.invariant-loop-self
invariant-loop-self g l = the_size g.row.A g.A.Allocator g.A.laws l.self ≤ the_size g.row.A g.A.Allocator g.A.laws l.initial.self

abbrev pub decreases-loop-self : goal.decreases-loop-self
decreases-loop-self g l = the_size g.row.A g.A.Allocator g.A.laws l.self
