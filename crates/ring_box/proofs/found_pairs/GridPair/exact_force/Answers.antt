use Rattle.std.proofs.Common.{◌≡◌, ◌∙◌, neg_ℤ, of_z, rules, to_z, w64}
use Rattle.ring_box.specs.FoundPairs.{scaled, squared}
use Rattle.ring_box.proofs.FoundLemmas.{line_force_same}
use Rattle.ring_box.proofs.found_pairs.GridPair.exact_force.Goals as goal

pub returns : goal.returns
returns c =
    let p = scaled c.args.ring.now c.args.self in
    let at = c.scaled-separation.ensures in
    let line = c.line_near-line.result in
    let is = c.line_near-line.ensures in
    let g = c.opposite-g.result in
    let eg : to_z w64 (of_z w64 g) ≡ g = search rules in
    let es : c.square.result ≡ squared p = rw (at.x, at.y, at.z) at c.square.ensures.value in
    c.force_near.ensures.value
    ∙ line_force_same p (to_z w64 (of_z w64 g)) (neg_ℤ c.args.slope) line.x line.y line.z c.square.result line.length (eg ∙ c.opposite-g.ensures.value)
    (is.x ∙ at.x) (is.y ∙ at.y) (is.z ∙ at.z) es is.length
