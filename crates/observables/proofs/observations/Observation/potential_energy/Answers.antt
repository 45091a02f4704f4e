use Rattle.std.proofs.Common.{◌≡◌, ◌^◌, [], ◌∷◌, ℤ, pos, ◌*ℤ◌, ap, ◌∙◌, lit<, rules, arith}
use Rattle.fixed.specs.Fractions.{bits_of}
use Rattle.observables.specs.Products.{product_of}
use Rattle.observables.specs.Observables.{potential_energy}
use Rattle.observables.proofs.ObservableLaws.{decimal_ready, held, potential_within}
use Rattle.observables.proofs.observations.Observation.potential_energy.Goals as goal
use Rattle.observables.proofs.observations.Observation.potential_energy.Goals.{After-one}

numerator : (c : After-one) → c.times.result ≡ c.args.self.now.pairs.energy *ℤ pos 1000000
numerator c =
    let is : c.of.result ≡ c.args.self.now.pairs.energy = search rules in
    c.times.ensures ∙ ap (λ (z : ℤ). z *ℤ pos 1000000) is

denominator : (c : After-one) → product_of (c.one.result ∷ []) ≡ 2 ^ bits_of c.args.scales.now.frac
denominator c = omega (arith, c.one.ensures.value)

pub nearest-requires-clause-fits : goal.nearest-requires-clause-fits
nearest-requires-clause-fits c =
    let s = c.args.scales.now in
    let o = c.args.self.now in
    let steps = (goal.at.nearest-requires-clause-fits c).After-one in
    let least = rw c.one.ensures.value at c.one.ensures.least in
    (decimal_ready 6 (2 ^ 76) (potential_energy s o) c.times.result _ (numerator steps) (denominator steps) (omega (arith, least)) (omega (arith, rw c.one.ensures.value at c.one.ensures.most)) (lit< tt)
    (potential_within o.pairs.energy (2 ^ bits_of s.frac) o.pairs.small_energy least)).fits

pub returns : goal.returns
returns c =
    let steps = (goal.at.returns c).After-one in
    held c.nearest.result c.nearest.type_inv ∙ rw (numerator steps, denominator steps) at c.nearest.ensures.value
