use Rattle.std.proofs.Common.{◌≡◌, ◌^◌, ◌+ℤ◌, ◌*ℤ◌, pos, refl, lit<}
use Rattle.observables.proofs.ObservableLaws.{held, mag_within, places_within_volume}
use Rattle.observables.proofs.observations.Observation.virial_lengths.Goals as goal

pub returns-clause-by_volume : goal.returns-clause-by_volume
returns-clause-by_volume c =
    let w = c.args.self.now.pairs.sums.virial in
    let r = c.args.scales.now.ring in
    let small = c.args.self.now.pairs.small_sums.virial in
    let e : c.plus-2.result ≡ w.x.x *ℤ pos r.x +ℤ w.y.y *ℤ pos r.y +ℤ w.z.z *ℤ pos r.z = rw (c.plus-2.ensures, c.plus.ensures, c.length_on-x.ensures.value, c.length_on-y.ensures.value, c.length_on-z.ensures.value, held w.x.x (mag_within w.x.x (2 ^ 126) small.x.x (lit< tt)), held w.y.y (mag_within w.y.y (2 ^ 126) small.y.y (lit< tt)), held w.z.z (mag_within w.z.z (2 ^ 126) small.z.z (lit< tt))) refl in
    rw e (places_within_volume w.x.x w.y.y w.z.z r.x r.y r.z small.x.x small.y.y small.z.z c.length_on-x.ensures.positive c.length_on-y.ensures.positive c.length_on-z.ensures.positive)
