use Rattle.std.proofs.Common.{◌≡◌, ◌+ℤ◌, refl, rules, to_z, of_z}
use mir.Syntax.{w128}
use Rattle.frame_sums.proofs.sums.plus.Goals as goal

pub returns : goal.returns
returns c =
    let a = c.args.a in
    let b = c.args.b in
    let x : to_z w128 (of_z w128 (to_z w128 (of_z w128 a.x) +ℤ to_z w128 (of_z w128 b.x))) ≡ a.x +ℤ b.x = search rules in
    let y : to_z w128 (of_z w128 (to_z w128 (of_z w128 a.y) +ℤ to_z w128 (of_z w128 b.y))) ≡ a.y +ℤ b.y = search rules in
    let z : to_z w128 (of_z w128 (to_z w128 (of_z w128 a.z) +ℤ to_z w128 (of_z w128 b.z))) ≡ a.z +ℤ b.z = search rules in
    rw (x, y, z) refl
