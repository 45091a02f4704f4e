use Rattle.std.proofs.Common.{◌≡◌, ◌+◌, ◌*◌, pos, refl}
use Rattle.observables.proofs.ObservableLaws.{squares_within_volume}
use Rattle.observables.proofs.observations.Observation.square_lengths.Goals as goal

pub returns-clause-by_volume : goal.returns-clause-by_volume
returns-clause-by_volume c =
    let k = c.args.self.now.squares in
    let r = c.args.scales.now.ring in
    let small = c.args.self.now.small_squares in
    let e : c.plus-2.result ≡ pos (k.x * (r.x * r.x) + k.y * (r.y * r.y) + k.z * (r.z * r.z)) = rw (c.plus-2.ensures, c.plus.ensures, c.squares_on-x.ensures.value, c.squares_on-y.ensures.value, c.squares_on-z.ensures.value) refl in
    rw e (squares_within_volume k.x k.y k.z r.x r.y r.z small.x small.y small.z c.squares_on-x.ensures.positive c.squares_on-y.ensures.positive c.squares_on-z.ensures.positive c.squares_on-x.ensures.most c.squares_on-y.ensures.most c.squares_on-z.ensures.most)
