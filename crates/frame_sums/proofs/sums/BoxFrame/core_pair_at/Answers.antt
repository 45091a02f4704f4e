use Rattle.std.proofs.Common.{◌∙◌}
use Rattle.frame_sums.proofs.CoreLaws.{core_pair_is}
use Rattle.frame_sums.proofs.sums.BoxFrame.core_pair_at.Goals as goal

pub returns-clause-value : goal.returns-clause-value
returns-clause-value c =
    let f = c.args.self.now in
    c.from.ensures ∙ core_pair_is f.frac c.args.square f.core_limit f.core f.positive f.limit
