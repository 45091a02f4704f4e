-- Integers as a sign and limbs of 64 bits.
use Rattle.std.specs.Prelude.{ℕ, ◌+◌, ◌*◌, ◌^◌, List, [], ◌∷◌, ℤ, pos, negsuc, Bool, true, false}

-- the natural number with these limbs of 64 bits, the least significant first
abbrev pub limbs_value : List ℕ → ℕ
limbs_value [] = 0
limbs_value (limb ∷ limbs) = limb + 2 ^ 64 * limbs_value limbs

-- the integer with this sign flag and magnitude; if the flag is true, n represents -(n + 1)
abbrev pub signed_value : Bool → ℕ → ℤ
signed_value false n = pos n
signed_value true n = negsuc n
