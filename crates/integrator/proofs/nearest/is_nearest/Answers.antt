use Rattle.std.proofs.Common.{◌≡◌, rules, to_z, of_z}
use mir.Syntax.{w64, w128}
use Rattle.integrator.proofs.NearestLaws.{nearest_by_rest}
use Rattle.integrator.proofs.nearest.is_nearest.Goals as goal

pub returns : goal.returns
returns c t =
    let x : to_z w128 (of_z w128 c.twice_plus.result) ≡ c.twice_plus.result = search rules in
    let d : to_z w64 (of_z w64 c.twice.result) ≡ c.twice.result = search rules in
    let l = rw x at (c.is_rest.ensures.low t) in
    let u = rw (x, d) at (c.is_rest.ensures.high t) in
    nearest_by_rest c.args.a c.args.b c.args.q c.error.result c.twice_plus.result c.twice.result (search rules) (search rules) (search rules) l u
