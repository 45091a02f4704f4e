use Rattle.std.proofs.Common.{eqb→eq, eq-eqb}
use Rattle.std.proofs.lemmas.Float.{T_from_true}
use Rattle.float_filters.proofs.VectorLaws.{all_set, all_full}
use Rattle.float_filters.proofs.vectors.are_all_set.Goals as goal

pub returns-clause-set : goal.returns-clause-set
returns-clause-set c is k l = all_set c.args.m (eqb→eq _ _ (T_from_true _ is)) k l

pub returns-clause-full : goal.returns-clause-full
returns-clause-full c full = eq-eqb _ _ (all_full c.args.m full)
