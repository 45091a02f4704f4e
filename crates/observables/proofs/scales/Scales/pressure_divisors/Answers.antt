use Rattle.std.proofs.Common.{◌≡◌, ◌^◌, rules}
use Rattle.fixed.specs.Fractions.{bits_of}
use Rattle.observables.proofs.ObservableLaws.{pressure_factors}
use Rattle.observables.proofs.scales.Scales.pressure_divisors.Goals as goal

pub returns-clause-value : goal.returns-clause-value
returns-clause-value c =
    let s = c.args.self.now in
    let dt : c.from-dt.result ≡ s.time_step = search rules in
    let x : c.from-x.result ≡ s.ring.x = search rules in
    let y : c.from-y.result ≡ s.ring.y = search rules in
    let z : c.from-z.result ≡ s.ring.z = search rules in
    rw (dt, x, y, z, c.one.ensures.value) (pressure_factors s.time_step (2 ^ bits_of s.frac) c.args.orders c.args.volumes s.ring.x s.ring.y s.ring.z)
