-- the verdict is on the listing if there is one
use Rattle.cli.proofs.execution.perform_check.Goals as goal

pub returns-in-None-clause-performs : goal.returns-in-None-clause-performs
returns-in-None-clause-performs g c = rw c.in-None.is c.judge_slope.ensures.performs

pub returns-in-Some-clause-performs : goal.returns-in-Some-clause-performs
returns-in-Some-clause-performs g c = rw c.in-Some.is c.judge_listing.ensures.performs
