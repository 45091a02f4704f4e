use Rattle.std.proofs.Common.{arith, refl}
use Rattle.std.proofs.lemmas.Nat.{and_mask}
use Rattle.float_filters.proofs.ConversionLaws.{near_halves}
use Rattle.float_filters.proofs.conversions.near_u128.Goals as goal

pub returns : goal.returns
returns c =
    near_halves c.args.n _ _ c.near_u64.result c.near_u64-2.result (omega arith) refl (and_mask c.args.n 64) c.near_u64.ensures c.near_u64-2.ensures
