use Rattle.std.proofs.Common.{◌≡◌, ◌∙◌, arith, refl}
use Rattle.std.proofs.lemmas.Bool.Decides.{nat_tests}
use Rattle.ring_box.specs.FoundPairs.{scaled, squared}
use Rattle.ring_box.proofs.reaches.Reach.exact_distance.Goals as goal

pub returns : goal.returns
returns c =
    let at = c.scaled.ensures in
    let e : c.square-s.result ≡ squared (scaled c.args.ring.now c.args.pair) = rw (at.x, at.y, at.z) at c.square-s.ensures.value in
    record {
      taken = c.distance.ensures.value ∙ rw e refl;
      apart' = λ is. grind (arith, nat_tests, is, e);
    }
