use Rattle.std.proofs.Common.{replicate}
use Rattle.place_blocks.specs.Blocks.{behind}
use Rattle.place_blocks.proofs.LaneLemmas.{itself, splat, zipped}
use Rattle.std.proofs.Common.{ℕ, get_or}
use Rattle.place_blocks.proofs.lanes.less_round.Goals as goal

pub returns : goal.returns
returns c = zipped behind c.args.a (replicate 16 c.args.b) (λ (k : ℕ). get_or c.args.a k 0) (λ k. c.args.b) (itself c.args.a c.fits-a.0) (splat c.args.b)
