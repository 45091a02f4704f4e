use Rattle.std.proofs.Common.{zero, suc, arith}
use Rattle.float_filters.proofs.VectorLaws.{signed_again}
use Rattle.float_filters.proofs.floor_lanes.integers.Goals as goal

pub returns : goal.returns
returns c zero l n i = signed_again _ n i.high i.low (c.signed.ensures n i.low i.high (c.patterns.ensures 0 l n i))
returns c (suc zero) l n i = signed_again _ n i.high i.low (c.signed-2.ensures n i.low i.high (c.patterns.ensures 1 l n i))
returns c (suc (suc zero)) l n i = signed_again _ n i.high i.low (c.signed-3.ensures n i.low i.high (c.patterns.ensures 2 l n i))
returns c (suc (suc (suc zero))) l n i = signed_again _ n i.high i.low (c.signed-4.ensures n i.low i.high (c.patterns.ensures 3 l n i))
returns c (suc (suc (suc (suc k)))) l n i = absurd (omega arith)
