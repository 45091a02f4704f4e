-- Residue numbers, of -9999 to 99999, fit a column of five bytes.
use Rattle.std.proofs.Common.{◌≡◌, suc, ◌≤◌, ◌<◌, ◌^◌, Bool, true, false, ℤ, pos, negsuc, ◌≤ℤ◌, length, T, refl, arith}
use Rattle.std.specs.Prelude.{int_le}
use Rattle.std.specs.Fmt.{signed_decimal}
use lib.Signed.{mag}
use mir.Syntax.{w32}
use mir.Val.{SFits}
use Rattle.std.proofs.lemmas.Bool.{and_parts, and_from}
use Rattle.std.proofs.lemmas.Fmt.{length-decimal-le}
use Rattle.std.proofs.lemmas.Int.{ints}
use Rattle.std.specs.Int.Signed.{le_z_yes}
use Rattle.line_text.specs.Columns.{is_residue_number}

-- a residue number has at most five bytes
pub number_short : (z : ℤ) → negsuc 9998 ≤ℤ z → z ≤ℤ pos 99999 → length (signed_decimal z) ≤ 5
number_short (pos n) low high = length-decimal-le 5 n (omega arith) (omega (arith, ints)) (omega (arith, ints))
number_short (negsuc n) low high = omega (arith, length-decimal-le 4 (suc n) (omega arith) (omega (arith, ints)) (omega (arith, ints)))

-- a residue number fits 32 bits
pub number_fits_32 : (z : ℤ) → negsuc 9998 ≤ℤ z → z ≤ℤ pos 99999 → SFits w32 z
number_fits_32 (pos n) low high = record { sfits = omega (arith, ints) }
number_fits_32 (negsuc n) low high = record { sfits = omega (arith, ints) }

-- a residue number fits 64 bits
pub number_small : (z : ℤ) → negsuc 9998 ≤ℤ z → z ≤ℤ pos 99999 → mag z < 2 ^ 63
number_small (pos n) low high = omega (arith, ints)
number_small (negsuc n) low high = omega (arith, ints)

-- if a test is true, `T` of the test holds
pub true_T : (b : Bool) → b ≡ true → T b
true_T true e = tt
true_T false e = absurd cc

-- a residue number is from -9999 to 99999
pub number_in_range : (z : ℤ) → is_residue_number z ≡ true → (negsuc 9998 ≤ℤ z) × (z ≤ℤ pos 99999)
number_in_range z h =
    let p = and_parts (int_le (negsuc 9998) z) (int_le z (pos 99999)) h in
    (le_z_yes (true_T (int_le (negsuc 9998) z) p.0), le_z_yes (true_T (int_le z (pos 99999)) p.1))

-- if `T` of a test holds, the test is true
pub T_true : (b : Bool) → T b → b ≡ true
T_true true h = refl
T_true false h = absurd h

-- a number from -9999 to 99999 is a residue number
pub number_is : (z : ℤ) → negsuc 9998 ≤ℤ z → z ≤ℤ pos 99999 → is_residue_number z ≡ true
number_is z low high = and_from (int_le (negsuc 9998) z) (int_le z (pos 99999)) (T_true (int_le (negsuc 9998) z) low.le) (T_true (int_le z (pos 99999)) high.le)
