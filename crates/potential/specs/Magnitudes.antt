-- Bounds on the magnitude of an optional integer.
use Rattle.std.specs.Prelude.{ℕ, ℤ, unsigned_abs, nat_le, Bool, false, Option, Some, None}

-- there is a value, and its magnitude is at most the bound
abbrev pub is_small : ℕ → Option ℤ → Bool
is_small bound None = false
is_small bound (Some v) = nat_le (unsigned_abs v) bound
