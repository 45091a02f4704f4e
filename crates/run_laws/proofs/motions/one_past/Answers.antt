use Rattle.run_laws.proofs.LeadLaws.{one_future, one_past}
use Rattle.run_laws.proofs.motions.one_past.Goals as goal

pub returns-clause-past : goal.returns-clause-past
returns-clause-past c = one_past

pub returns-clause-future : goal.returns-clause-future
returns-clause-future c = one_future
