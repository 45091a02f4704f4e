use Rattle.std.proofs.Common.{◌∙◌, ◌<◌, leb, get_or, refl, sym, arith}
use Rattle.place_blocks.proofs.BlockLemmas.{far_lane, unset}
use Rattle.place_blocks.proofs.coarse_reaches.CoarseReach.near_cell.Goals as goal

pub returns-clause-left_out : goal.returns-clause-left_out
returns-clause-left_out c d b coarse k p q lt in_span lane z =
    let r = c.args.self.now in
    let s = get_or c.squares.result k 0 in
    let e = c.squares.ensures.value.each k lt in
    let small = c.squares.ensures.small k lt in
    let above : r.limit < s = unset s r.limit (leb s r.limit) refl (sym (c.at_most.ensures.bits k lt) ∙ z) in
    far_lane d b r c.args.span.now c.args.block.now k p q coarse in_span lane (omega arith) (omega arith)
