-- A value paired with the result of the reading after it.
use Rattle.std.proofs.Common.{◌≡◌, Result, Ok, Err, refl, sym, ap}
use Rattle.line_text.proofs.StepLaws.{same_ok}
use Rattle.expr.specs.Parsing.{beside}

-- if pairing a value with a result gives `Ok (p, y)`, the value is `p` and the result is `Ok y`
pub beside_ok : {X Y E : Type 0} (x p : X) (r : Result Y E) (y : Y) → Ok (p, y) ≡ beside x r → (p ≡ x) × (r ≡ Ok y)
beside_ok x p (Ok z) y e = let h = same_ok (p, y) (x, z) e in let k : z ≡ y = sym (ap (λ q. q.1) h) in (ap (λ q. q.0) h, rw k refl)
beside_ok x p (Err f) y e = absurd cc

-- if pairing a value with a result gives an error, the result is that error
pub beside_err : {X Y E : Type 0} (x : X) (r : Result Y E) (f : E) → Err f ≡ beside x r → r ≡ Err f
beside_err x (Ok z) f e = absurd cc
beside_err x (Err k) f e = cc
