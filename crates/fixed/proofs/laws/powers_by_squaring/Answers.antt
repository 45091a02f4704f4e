use Rattle.fixed.proofs.PowerLemmas.{signed_power_is}
use Rattle.fixed.proofs.laws.powers_by_squaring.Goals as goal

pub returns : goal.returns
returns c = signed_power_is
