use Rattle.float_filters.proofs.VectorLaws.{both_set, full_both}
use Rattle.float_filters.proofs.vectors.both.Goals as goal

pub returns-clause-set : goal.returns-clause-set
returns-clause-set c k l s = both_set c.args.m c.args.n k s

pub returns-clause-full : goal.returns-clause-full
returns-clause-full c k l s t = full_both c.args.m c.args.n k s t
