-- Numbers with decimals: a number written in a column is read back.
use Rattle.std.proofs.Common.{◌≡◌, ℕ, zero, suc, ◌+◌, ◌-◌, ◌*◌, ◌/◌, ◌%◌, ◌^◌, ◌<◌, ◌≤◌, true, List, ◌∷◌, ◌++◌, length, get_or, replicate, Some, ℤ, pos, negsuc, decimal, refl, sym, ap, subst, ◌∙◌, arith, lit<}
use Rattle.std.specs.Int.{IsInRange}
use Rattle.std.specs.Str.{all_ascii_digits}
use Rattle.std.specs.Str.Parse.{digits_value}
use Rattle.std.proofs.lemmas.Bool.{ne_eqb, le-ltb}
use Rattle.std.proofs.lemmas.Fmt.{digits_decimal, digits_value-decimal, decimal_is_IsNumeral, decimal_nonempty, length-decimal-le}
use Rattle.std.proofs.lemmas.Str.Parse.{digit_at}
use Rattle.std.proofs.lemmas.List.{take_at, get_or_at, get_or_append_left, length-append, length-replicate}
use Rattle.std.proofs.lemmas.Nat.{div-add-mod', mod_below}
use Rattle.std.proofs.Math.Nat.{one-le-pow, div-le_self}
use Rattle.std.proofs.Math.Seq.{drop-append-add}
use lib.Signed.{mag}
use Rattle.line_text.specs.Parts.{lacks, right_in, without_spaces}
use Rattle.line_text.specs.Columns.{digits_of, decimals_of, decimal_column_of, zeros_in, with_decimals, decimals_text}
use Rattle.line_text.proofs.DigitLaws.{own}
use Rattle.line_text.proofs.LineLaws.{copies_lack, lacks_append, decimal_lacks, right_again}

-- ---- digits

zeros_are_digits : (k : ℕ) (text : List ℕ) → all_ascii_digits (replicate k 48 ++ text) ≡ all_ascii_digits text
zeros_are_digits zero text = refl
zeros_are_digits (suc k) text = zeros_are_digits k text

zeros_add_none : (k : ℕ) (text : List ℕ) → digits_value 10 (replicate k 48 ++ text) ≡ digits_value 10 text
zeros_add_none zero text = refl
zeros_add_none (suc k) text = zeros_add_none k text

-- leading zeros are allowed
pub digits_again : (width n : ℕ) → n < 2 ^ 64 → digits_of (zeros_in width (decimal n)) ≡ Some n
unfolding digits_of
digits_again width n fits =
    rw (zeros_are_digits (width - length (decimal n)) (decimal n) ∙ digits_decimal own n fits)
    (ap (λ (m : ℕ). Some m) (zeros_add_none (width - length (decimal n)) (decimal n) ∙ digits_value-decimal own n fits))

-- the decimal of a 64-bit number with zeros before it is digits, and they write that number
pub zeros_value : (width n : ℕ) → n < 2 ^ 64 → (all_ascii_digits (zeros_in width (decimal n)) ≡ true) × (digits_value 10 (zeros_in width (decimal n)) ≡ n)
zeros_value width n fits = (
  zeros_are_digits (width - length (decimal n)) (decimal n) ∙ digits_decimal own n fits,
  zeros_add_none (width - length (decimal n)) (decimal n) ∙ digits_value-decimal own n fits,
)

-- the decimal of a 64-bit number is read as that number
pub decimal_digits_again : (n : ℕ) → n < 2 ^ 64 → digits_of (decimal n) ≡ Some n
unfolding digits_of
decimal_digits_again n fits = rw (digits_decimal own n fits) (ap (λ (m : ℕ). Some m) (digits_value-decimal own n fits))

-- a text no longer than the column fills it with the zeros before it
pub length-zeros_in : (width : ℕ) (text : List ℕ) → length text ≤ width → length (zeros_in width text) ≡ width
length-zeros_in width text h = omega (arith, length-append (replicate (width - length text) 48) text, length-replicate {A = ℕ} (width - length text) 48)

-- ---- the two sides of the point

mod_small : (n m : ℕ) → n % m ≤ n
mod_small n m = omega (arith, div-add-mod' n m)

-- digits, a point and n digits are read as a number in units of the last decimal
pub parts_read : (decimals : ℕ) (front back : List ℕ) (whole part : ℕ) → 0 < length front → length back ≡ decimals → digits_of front ≡ Some whole → digits_of back ≡ Some part
    → decimals_of decimals (front ++ 46 ∷ back) ≡ Some (whole * 10 ^ decimals + part)
unfolding decimals_of
parts_read decimals front back whole part some len f b =
    let total : length (front ++ 46 ∷ back) ≡ length front + suc (length back) = length-append front (46 ∷ back) in
    let long : decimals + 2 ≤ length (front ++ 46 ∷ back) = omega (arith, total) in
    let point : length (front ++ 46 ∷ back) - (decimals + 1) ≡ length front = omega (arith, total) in
    let rest : length (front ++ 46 ∷ back) - decimals ≡ length front + 1 = omega (arith, total) in
    rw (le-ltb (length (front ++ 46 ∷ back)) (decimals + 2) long, point, rest, get_or_at front 46 back 0 (length front) refl, take_at front (46 ∷ back) (length front) refl, drop-append-add front (46 ∷ back) 1, f, b) refl

-- a 64-bit number written with at least one decimal is read back
pub decimals_again : (decimals n : ℕ) → 0 < decimals → n < 2 ^ 64 → decimals_of decimals (with_decimals decimals n) ≡ Some n
decimals_again decimals n some fits =
    let unit : 0 < 10 ^ decimals = one-le-pow decimals 10 (omega arith) in
    let whole : n / 10 ^ decimals < 2 ^ 64 = omega (arith, div-le_self n (10 ^ decimals)) in
    let part : n % 10 ^ decimals < 2 ^ 64 = omega (arith, mod_small n (10 ^ decimals)) in
    let short : length (decimal (n % 10 ^ decimals)) ≤ decimals = length-decimal-le decimals (n % 10 ^ decimals) some (mod_below n (10 ^ decimals) unit) part in
    parts_read decimals (decimal (n / 10 ^ decimals)) (zeros_in decimals (decimal (n % 10 ^ decimals))) (n / 10 ^ decimals) (n % 10 ^ decimals)
    (decimal_nonempty (n / 10 ^ decimals) whole) (length-zeros_in decimals (decimal (n % 10 ^ decimals)) short) (decimal_digits_again (n / 10 ^ decimals) whole) (digits_again decimals (n % 10 ^ decimals) part)
    ∙ ap (λ (m : ℕ). Some m) (div-add-mod' n (10 ^ decimals))

-- the first byte is a digit
first_is_digit : (decimals n : ℕ) → n < 2 ^ 64 → IsInRange 48 57 (get_or (with_decimals decimals n) 0 0)
first_is_digit decimals n fits =
    let whole : n / 10 ^ decimals < 2 ^ 64 = omega (arith, div-le_self n (10 ^ decimals)) in
    let is = decimal_is_IsNumeral (n / 10 ^ decimals) whole in
    let first : get_or (with_decimals decimals n) 0 0 ≡ get_or (decimal (n / 10 ^ decimals)) 0 0 =
    get_or_append_left (decimal (n / 10 ^ decimals)) (46 ∷ zeros_in decimals (decimal (n % 10 ^ decimals))) 0 0 (decimal_nonempty (n / 10 ^ decimals) whole) in
    subst (λ (b : ℕ). IsInRange 48 57 b) (sym first) (digit_at (decimal (n / 10 ^ decimals)) 0 is.0.1 is.0.0)

-- the length, from the number of digits before the point
pub length-with_decimals-le : (decimals ahead n : ℕ) → 0 < decimals → 0 < ahead → n < 2 ^ 64 → n / 10 ^ decimals < 10 ^ ahead → length (with_decimals decimals n) ≤ ahead + 1 + decimals
length-with_decimals-le decimals ahead n some front fits below =
    let unit : 0 < 10 ^ decimals = one-le-pow decimals 10 (omega arith) in
    let whole : n / 10 ^ decimals < 2 ^ 64 = omega (arith, div-le_self n (10 ^ decimals)) in
    let part : n % 10 ^ decimals < 2 ^ 64 = omega (arith, mod_small n (10 ^ decimals)) in
    let short : length (decimal (n % 10 ^ decimals)) ≤ decimals = length-decimal-le decimals (n % 10 ^ decimals) some (mod_below n (10 ^ decimals) unit) part in
    omega (arith, length-append (decimal (n / 10 ^ decimals)) (46 ∷ zeros_in decimals (decimal (n % 10 ^ decimals))), length-zeros_in decimals (decimal (n % 10 ^ decimals)) short, length-decimal-le ahead (n / 10 ^ decimals) front below whole)

-- a signed 64-bit number with one to five decimals has at most 32 bytes
pub length-decimals_text-le : (decimals : ℕ) (z : ℤ) → 0 < decimals → decimals ≤ 5 → mag z < 2 ^ 63 → length (decimals_text decimals z) ≤ 32
length-decimals_text-le decimals (pos n) some few fits = omega (arith, length-with_decimals-le decimals 20 n some (lit< tt) (omega arith) (omega (arith, div-le_self n (10 ^ decimals))))
length-decimals_text-le decimals (negsuc n) some few fits =
    omega (arith, length-with_decimals-le decimals 20 (suc n) some (lit< tt) (omega arith) (omega (arith, div-le_self (suc n) (10 ^ decimals))))

-- ---- bytes that it lacks

with_decimals_lacks : (c decimals n : ℕ) → c < 45 → n < 2 ^ 64 → lacks c (with_decimals decimals n) ≡ true
with_decimals_lacks c decimals n low fits =
    let whole : n / 10 ^ decimals < 2 ^ 64 = omega (arith, div-le_self n (10 ^ decimals)) in
    let part : n % 10 ^ decimals < 2 ^ 64 = omega (arith, mod_small n (10 ^ decimals)) in
    let zeros : List ℕ = replicate (decimals - length (decimal (n % 10 ^ decimals))) 48 in
    let back : lacks c (zeros ++ decimal (n % 10 ^ decimals)) ≡ true =
    lacks_append c zeros (decimal (n % 10 ^ decimals)) (copies_lack c 48 (decimals - length (decimal (n % 10 ^ decimals))) (λ e. omega arith)) (decimal_lacks c (n % 10 ^ decimals) (omega arith) part) in
    lacks_append c (decimal (n / 10 ^ decimals)) (46 ∷ zeros ++ decimal (n % 10 ^ decimals)) (decimal_lacks c (n / 10 ^ decimals) (omega arith) whole) (rw (ne_eqb 46 c (λ e. omega arith), back) refl)

-- a signed 64-bit number with decimals has no byte below the minus
pub decimals_text_lacks : (c decimals : ℕ) (z : ℤ) → c < 45 → mag z < 2 ^ 63 → lacks c (decimals_text decimals z) ≡ true
decimals_text_lacks c decimals (pos n) low fits = with_decimals_lacks c decimals n low (omega arith)
decimals_text_lacks c decimals (negsuc n) low fits = rw (ne_eqb 45 c (λ e. omega arith), with_decimals_lacks c decimals (suc n) low (omega arith)) refl

-- ---- in a column

-- a signed 64-bit number written with at least one decimal is read back from a column in which it is right-aligned
pub decimal_column_again : (decimals width : ℕ) (z : ℤ) → 0 < decimals → mag z < 2 ^ 63 → decimal_column_of decimals (right_in width (decimals_text decimals z)) ≡ Some z
unfolding decimal_column_of
decimal_column_again decimals width (pos n) some fits =
    let first = first_is_digit decimals n (omega arith) in
    let bare : without_spaces (right_in width (with_decimals decimals n)) ≡ with_decimals decimals n = right_again width (with_decimals decimals n) (λ e. omega (arith, first)) in
    rw (bare, ne_eqb (get_or (with_decimals decimals n) 0 0) 45 (λ e. omega (arith, first)), decimals_again decimals n some (omega arith)) refl
decimal_column_again decimals width (negsuc n) some fits =
    let bare : without_spaces (right_in width (45 ∷ with_decimals decimals (suc n))) ≡ 45 ∷ with_decimals decimals (suc n) = right_again width (45 ∷ with_decimals decimals (suc n)) (λ e. omega (arith, e)) in
    rw (bare, decimals_again decimals (suc n) some (omega arith)) refl
