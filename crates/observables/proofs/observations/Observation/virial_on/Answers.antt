use Rattle.std.proofs.Common.{◌≡◌, ◌≤◌, ◌^◌, pos, unsigned_abs, rules, arith}
use Rattle.std.proofs.lemmas.Int.{unsigned_abs-mul}
use Rattle.std.proofs.lemmas.Nat.{mul-le}
use Rattle.observables.specs.Observables.{volume}
use Rattle.observables.proofs.ObservableLaws.{entry_within, virial_by_side}
use Rattle.observables.proofs.observations.Observation.virial_on.Goals as goal
use Rattle.observables.proofs.observations.Observation.virial_on.Goals.{After-times}

small : (c : After-times) → unsigned_abs c.of.result ≤ 2 ^ 126
small c =
    let pairs = c.args.self.now.pairs in
    let e : c.of.result ≡ c.along-2.result = search rules in
    rw (e, c.along-2.ensures, c.along.ensures) (entry_within (2 ^ 126) c.args.a c.args.b pairs.sums.virial pairs.small_sums.virial)

pub returns-clause-bound : goal.returns-clause-bound
returns-clause-bound c =
    let h = mul-le (unsigned_abs c.of.result) c.side.result (2 ^ 126) 16000000 (small (goal.at.returns-clause-bound c).After-times) c.side.ensures.most in
    rw (c.times.ensures, unsigned_abs-mul c.of.result (pos c.side.result)) (omega (arith, h))

pub returns-clause-by_volume : goal.returns-clause-by_volume
returns-clause-by_volume c =
    rw c.times.ensures (virial_by_side c.of.result c.side.result (volume c.args.scales.now.ring) (small (goal.at.returns-clause-by_volume c).After-times) c.side.ensures.by_volume)
