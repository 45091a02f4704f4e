use Rattle.std.proofs.Common.{◌*◌, ◌^◌, ◌≤◌}
use Rattle.std.proofs.lemmas.Nat.{mul-le}
use Rattle.std.specs.Prelude.{unsigned_abs}
use Rattle.float_filters.proofs.SeparationLaws.{near_integer_square, near_squares}
use Rattle.float_filters.proofs.separations.near_square.Goals as goal

pub returns : goal.returns
returns s a b c p q r f g h =
    let x : unsigned_abs a * unsigned_abs a ≤ 2 ^ 180 = mul-le (unsigned_abs a) (unsigned_abs a) (2 ^ 90) (2 ^ 90) p p in
    let y : unsigned_abs b * unsigned_abs b ≤ 2 ^ 180 = mul-le (unsigned_abs b) (unsigned_abs b) (2 ^ 90) (2 ^ 90) q q in
    let z : unsigned_abs c * unsigned_abs c ≤ 2 ^ 180 = mul-le (unsigned_abs c) (unsigned_abs c) (2 ^ 90) (2 ^ 90) r r in
    near_squares _ _ _ _ _ _ x y z (near_integer_square s.args.x a p f) (near_integer_square s.args.y b q g) (near_integer_square s.args.z c r h)
