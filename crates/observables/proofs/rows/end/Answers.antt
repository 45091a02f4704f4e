use Rattle.std.proofs.Common.{length, ap, arith, length-take}
use Rattle.observables.proofs.rows.end.Goals as goal

pub push-requires : goal.push-requires
push-requires c = omega (arith, simp length-take at (ap length c.pop.ensures.rest))
