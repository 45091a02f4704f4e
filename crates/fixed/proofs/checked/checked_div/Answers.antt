use Rattle.std.proofs.Common.{rules}
use Rattle.fixed.specs.Fractions.{bits_of}
use Rattle.fixed.proofs.FloorLemmas.{quotient_floor}
use Rattle.fixed.proofs.checked.checked_div.Goals as goal

pub returns-clause-floor : goal.returns-clause-floor
returns-clause-floor c = quotient_floor (bits_of c.args.frac) c.args.a c.args.b _ (search rules)
