use Rattle.place_blocks.proofs.LaneLemmas.{within}
use Rattle.place_blocks.proofs.lanes.at_most.Goals as goal

pub returns-clause-bound : goal.returns-clause-bound
returns-clause-bound c = within c.args.a c.args.limit c.fits-a.0
