use Rattle.std.proofs.Common.{◌*◌, rules}
use Rattle.integrator.proofs.StepLemmas.{cancelled}
use Rattle.integrator.proofs.displacement.displacement.Goals as goal

pub returns-clause-value : goal.returns-clause-value
returns-clause-value c =
    let e = cancelled c.args.frac c.args.force (c.args.time_step * c.args.time_step * 10000) (c.args.mass * c.args.side) in
    rw (← e) (search rules)
