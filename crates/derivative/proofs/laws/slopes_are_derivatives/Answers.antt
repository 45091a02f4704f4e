use Rattle.derivative.proofs.DualComplete.{derivative}
use Rattle.derivative.proofs.DualPrograms.{derivative_program}
use Rattle.derivative.proofs.DualRing.{dual_is_ring}
use Rattle.derivative.proofs.WholeNumbers.{are_exact}
use Rattle.derivative.proofs.laws.slopes_are_derivatives.Goals as goal

pub returns-clause-whole : goal.returns-clause-whole
returns-clause-whole g c = are_exact

pub returns-clause-duals : goal.returns-clause-duals
returns-clause-duals g c r is_ring = dual_is_ring r is_ring

pub returns-clause-table : goal.returns-clause-table
returns-clause-table g c k exact inputs tree = derivative k exact inputs tree

pub returns-clause-program : goal.returns-clause-program
returns-clause-program g c k exact bits stands inputs count program slope scoped e = derivative_program k exact bits stands inputs count program slope scoped e
