use Rattle.std.proofs.Common.{rules}
use Rattle.interval_domain.proofs.MemberLemmas.{half_of}
use Rattle.interval_domain.proofs.joins.half_way.Goals as goal

pub returns-clause-value : goal.returns-clause-value
returns-clause-value c = search rules

pub returns-clause-low : goal.returns-clause-low
returns-clause-low c = (half_of c.args.lo c.args.hi _ c.requires (returns-clause-value c)).0

pub returns-clause-high : goal.returns-clause-high
returns-clause-high c = (half_of c.args.lo c.args.hi _ c.requires (returns-clause-value c)).1
