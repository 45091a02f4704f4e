use Rattle.std.proofs.Common.{◌∙◌, sym}
use Rattle.frame_sums.proofs.RowLaws.{adds_length}
use Rattle.frame_sums.proofs.frame_pairs.FramePairsRowWorkScratch.count.Goals as goal

pub returns : goal.returns
returns g c = c.len.ensures.value ∙ sym (adds_length 0 c.args.scratch.now.found.pairs c.args.scratch.now.forces)
