use Rattle.std.proofs.Common.{ℕ, ◌+◌, ◌-◌, ◌%◌, ◌^◌}
use Rattle.float_filters.proofs.OppositeLaws.{with_natural}
use Rattle.float_filters.proofs.force_lanes.below_bias.Goals as goal

pub returns : goal.returns
returns c k l = with_natural (λ (a b : ℕ). (a + (2 ^ 64 - b)) % 2 ^ 64) c.args.bits 2251799813685248 k c.fits-bits.0 l
