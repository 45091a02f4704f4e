use Rattle.std.proofs.Common.{arith, ◌<◌, ◌+◌, ◌*◌, ◌^◌}
use Rattle.std.proofs.lemmas.Nat.{mul-le}
use Rattle.ring_box.proofs.DistanceLemmas.{far_is}
use Rattle.ring_box.proofs.acting.are_far.Goals as goal

pub returns : goal.returns
returns c a b e told p q r =
    let x = c.args.x in
    let y = c.args.y in
    let z = c.args.z in
    let h = mul-le x x 31250 31250 c.requires.x c.requires.x in
    let i = mul-le y y 31250 31250 c.requires.y c.requires.y in
    let j = mul-le z z 31250 31250 c.requires.z c.requires.z in
    let fits : x * x + y * y + z * z < 2 ^ 32 = omega (arith, h, i, j) in
    let above : c.upper_limit.result < x * x + y * y + z * z = grind (arith, told) in
    far_is x y z a b e c.args.limit (omega (arith, c.upper_limit.ensures)) p q r
