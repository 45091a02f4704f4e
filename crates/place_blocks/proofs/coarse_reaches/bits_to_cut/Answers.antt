use Rattle.place_blocks.proofs.BlockLemmas.{cut_is}
use Rattle.place_blocks.proofs.coarse_reaches.bits_to_cut.Goals as goal

pub returns-else-n-lt65536-clause-cut : goal.returns-else-n-lt65536-clause-cut
returns-else-n-lt65536-clause-cut c = cut_is c.args.n c.if-n-lt65536.false c.requires
