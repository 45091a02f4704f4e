use Rattle.std.proofs.Common.{refl, sym}
use Rattle.command_line.proofs.parsing.listing_of.Goals as goal

pub returns : goal.returns
returns c = (_, sym c.in_ok-job.ensures, (_, c.is_given-energy.ensures, refl))
