use Rattle.std.proofs.Common.{rules, ◌∙◌, ◌≡◌, ◌<◌, to_z, of_z}
use Rattle.std.specs.Int.{w128}
use Rattle.ring_box.proofs.DistanceLemmas.{length_apart}
use Rattle.ring_box.proofs.ForceLemmas.{force_along_is, force_is_along}
use Rattle.ring_box.proofs.boxes.RingBox.force_along.Goals as goal

pub returns-clause-value : goal.returns-clause-value
returns-clause-value c =
    let p = c.separation-separation.ensures in
    let l = c.line_near.ensures in
    let e : to_z w128 (of_z w128 c.args.minus_slope) ≡ c.args.minus_slope = search rules in
    let some : 0 < c.square-s.result = search rules in
    (rw e at c.force.ensures.value)
    ∙ force_along_is c.args.self.now c.args.minus_slope c.args.p c.args.q c.line_near.result.x c.line_near.result.y c.line_near.result.z c.square-s.result c.line_near.result.length
    (l.x ∙ p.x) (l.y ∙ p.y) (l.z ∙ p.z) (search rules) some (l.length ∙ length_apart c.square-s.result some)

pub returns-clause-along : goal.returns-clause-along
returns-clause-along c = force_is_along c.args.self.now c.args.minus_slope c.args.p c.args.q c.force.result (returns-clause-value c)
