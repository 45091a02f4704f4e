use Rattle.std.proofs.Common.{◌≡◌, ◌≤◌, ◌*◌, ◌^◌, pos, unsigned_abs, rules, arith}
use Rattle.std.proofs.lemmas.Int.{unsigned_abs-mul}
use Rattle.std.proofs.lemmas.Nat.{mul-le}
use Rattle.observables.specs.Observables.{volume}
use Rattle.observables.proofs.ObservableLaws.{product_by_volume}
use Rattle.observables.proofs.observations.Observation.product_lengths.Goals as goal
use Rattle.observables.proofs.observations.Observation.product_lengths.Goals.{After-side-2}

small : (c : After-side-2) → unsigned_abs c.of-products.result ≤ 2 ^ 107
small c = let e : c.of-products.result ≡ c.products_of.result = search rules in rw e c.products_of.ensures.bound

pub times-requires-2 : goal.times-requires-2
times-requires-2 c =
    let h = mul-le (unsigned_abs c.of-products.result) c.side.result (2 ^ 107) 16000000 (small (goal.at.times-requires-2 c).After-side-2) c.side.ensures.most in
    let e : unsigned_abs c.times.result ≡ unsigned_abs c.of-products.result * c.side.result = rw c.times.ensures (unsigned_abs-mul c.of-products.result (pos c.side.result)) in
    omega (arith, mul-le (unsigned_abs c.times.result) c.side-2.result (2 ^ 107 * 16000000) 16000000 (omega (arith, h, e)) c.side-2.ensures.most)

pub returns-clause-by_volume : goal.returns-clause-by_volume
returns-clause-by_volume c =
    rw (c.times-2.ensures, c.times.ensures)
    (product_by_volume c.of-products.result c.side.result c.side-2.result (volume c.args.scales.now.ring) (small (goal.at.returns-clause-by_volume c).After-side-2) c.side.ensures.most c.side-2.ensures.by_volume)
