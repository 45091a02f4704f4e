use Rattle.interval_domain.proofs.MemberLemmas.{hull_is}
use Rattle.interval_domain.proofs.joins.hull.Goals as goal

pub returns-clause-least : goal.returns-clause-least
returns-clause-least c = hull_is c.args.a c.args.b _ c.min.ensures c.max.ensures
