use Rattle.std.proofs.Common.{refl, sym}
use Rattle.command_line.proofs.parsing.check_of.Goals as goal

pub returns : goal.returns
returns c = (_, sym c.in_ok-job.ensures, (_, sym c.path_of-listing.ensures, (_, c.is_given-progress.ensures, refl)))
