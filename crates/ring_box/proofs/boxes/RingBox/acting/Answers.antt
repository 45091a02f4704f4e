use Rattle.std.proofs.Common.{rules, ◌∙◌, ◌≡◌, ◌<◌, to_z, of_z, w64}
use Rattle.ring_box.specs.Acting.{limit_of}
use Rattle.ring_box.proofs.ActingLemmas.{acts}
use Rattle.ring_box.proofs.boxes.RingBox.acting.Goals as goal

pub returns-clause-value : goal.returns-clause-value
returns-clause-value c =
    let d = c.args.reach.now in
    let s = c.separation-separation.result in
    let p = c.separation-separation.ensures in
    let ex : to_z w64 (of_z w64 s.x) ≡ s.x = search rules in
    let ey : to_z w64 (of_z w64 s.y) ≡ s.y = search rules in
    let ez : to_z w64 (of_z w64 s.z) ≡ s.z = search rules in
    let near : c.square-s.result < limit_of d.frac d.cutoff = search rules in
    acts d c.args.self.now c.args.p c.args.q c.square-s.result c.line_near-line.result.length (to_z w64 (of_z w64 s.x)) (to_z w64 (of_z w64 s.y)) (to_z w64 (of_z w64 s.z)) c.distance.result
    c.limit.ensures.reach (ex ∙ p.x) (ey ∙ p.y) (ez ∙ p.z) (rw (ex, ey, ez) c.square-s.ensures.value) near
    c.line_near-line.ensures.length c.distance.ensures.value
