use Rattle.std.proofs.Common.{◌≤◌, ◌+◌, ◌*◌}
use Rattle.ring_box.specs.Acting.{limit_of}
use Rattle.ring_box.proofs.GapLemmas.{beyond}
use Rattle.ring_box.proofs.boxes.RingBox.is_cell_far.Goals as goal

pub returns : goal.returns
returns c told q h =
    let d = c.args.reach.now in
    let b = c.args.self.now in
    let u = c.gap.result in
    let v = c.gap-2.result in
    let w = c.gap-3.result in
    let far : limit_of d.frac d.cutoff ≤ u * b.x * (u * b.x) + v * b.y * (v * b.y) + w * b.z * (w * b.z) =
    rw c.limit.ensures.value at (c.are_far.ensures (u * b.x) (v * b.y) (w * b.z) told c.coarse_length.ensures.below c.coarse_length-2.ensures.below c.coarse_length-3.ensures.below) in
    beyond d b c.args.p q u v w c.limit.ensures.reach (c.gap.ensures.between q.x h.0) (c.gap-2.ensures.between q.y h.1) (c.gap-3.ensures.between q.z h.2) far
