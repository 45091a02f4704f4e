use Rattle.std.proofs.Common.{◌≡◌, rules, to_z, of_z}
use mir.Syntax.{w64}
use Rattle.integrator.proofs.NearestLaws.{nearest_unique}
use Rattle.integrator.proofs.nearest.nearest_from.Goals as goal

pub returns-in-Some-clause-value : goal.returns-in-Some-clause-value
returns-in-Some-clause-value c =
    let b : to_z w64 (of_z w64 c.args.b) ≡ c.args.b = search rules in
    let h = c.is_nearest.ensures c.if-is_nearest.true in
    let e = nearest_unique _ _ _ c.requires.positive (rw b at h) in
    search rules
