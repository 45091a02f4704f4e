use Rattle.std.proofs.Common.{arith, pow_mono}
use Rattle.float_filters.proofs.QuotientLaws.{power_small}
use Rattle.float_filters.proofs.quotient_lanes.power.Goals as goal

pub exact_u64-requires : goal.exact_u64-requires
exact_u64-requires c = omega (arith, power_small c.args.bits c.requires, pow_mono {i = c.args.bits} {j = 53} c.requires)

pub returns : goal.returns
returns c = rw (power_small c.args.bits c.requires) at c.exact_u64.ensures
