-- Each fact on near floats holds in at most one way, so that it may be a ghost field of a struct.
use Rattle.std.specs.Prelude.{ℕ, Bool}
use Rattle.std.specs.Float.Ieee.{Float, nan, inf, fin}
use mathlib.Core.Bool.{Bool-set}
use native.Mathlib.Bridge.{le_prop}
use Rattle.float_filters.specs.Near.{IsFractionNear, IsNearSigned, IsNearRoot, HasSign}

sign_prop : (s : Bool) (x : Float) → IsProp (HasSign s x)
sign_prop s nan a b = absurd a
sign_prop s (inf t) a b = absurd a
sign_prop s (fin t m e) a b = Bool-set t s a b

fraction_prop : (k n d a c : ℕ) → IsProp (IsFractionNear k n d a c)
fraction_prop k n d a c x y = λ i. record { low = le_prop x.low y.low i; high = le_prop x.high y.high i }

-- a float is near a number in at most one way
pub near_prop : (k : ℕ) (s : Bool) (x : Float) (a c : ℕ) → IsProp (IsNearSigned k s x a c)
near_prop k s x a c f g = λ i. record { sign = sign_prop s x f.sign g.sign i; near = fraction_prop k _ _ a c f.near g.near i }

-- a float is near a root in at most one way
pub near_root_prop : (k : ℕ) (x : Float) (a c : ℕ) → IsProp (IsNearRoot k x a c)
near_root_prop k x a c f g = λ i. record { sign = sign_prop _ x f.sign g.sign i; near = fraction_prop k _ _ a c f.near g.near i }
