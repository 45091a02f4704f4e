use Rattle.std.proofs.Common.{Fits, w64, arith}
use Rattle.std.proofs.lemmas.Simd.{Each1-get_or}
use Rattle.float_filters.proofs.OppositeLaws.{low_full, low_set}
use Rattle.float_filters.proofs.force_lanes.are_low.Goals as goal

pub returns-clause-set : goal.returns-clause-set
returns-clause-set c k l s =
    let f = Each1-get_or (Fits w64) c.args.n k 0 (omega (arith, c.fits-n.0)) c.fits-n.1 in
    low_set c.args.n k c.fits-n.0 l f.fits s

pub returns-clause-full : goal.returns-clause-full
returns-clause-full c k l h = low_full c.args.n k c.fits-n.0 l h
