-- The number that digits write.
use Rattle.std.proofs.Common.{◌≡◌, ℕ, zero, suc, ◌+◌, ◌-◌, ◌*◌, ◌^◌, ◌<◌, ◌≤◌, true, false, List, [], ◌∷◌, length, take, get_or, Some, None, refl, sym, ap, subst, ◌∙◌, arith}
use Rattle.std.specs.Char.{digit_value, is_ascii_digit}
use Rattle.std.specs.Str.{all_ascii_digits}
use Rattle.std.specs.Str.Parse.{digits_value, AllDigits}
use Rattle.std.proofs.lemmas.Bool.{and_left, and_right, le-ltb, lt-ltb}
use Rattle.std.specs.Int.{IsInRange}
use Rattle.std.proofs.lemmas.Int.Digits.{digits_value-lt, digits_value_more}
use Rattle.std.proofs.lemmas.Str.Parse.{IsNumeralModel, numerals_by_value, tells_all_ascii_digits}
use Rattle.std.proofs.lemmas.List.{take_all, length-take-le}
use Rattle.std.proofs.Math.Nat.{pow-le-pow_right}
use Rattle.line_text.specs.Columns.{digits_of}

-- texts of ASCII digits are numerals of base ten, and the value of the digits is theirs
pub own : IsNumeralModel (λ ds. all_ascii_digits ds ≡ true) (digits_value 10)
own = numerals_by_value (λ ds. all_ascii_digits ds ≡ true) tells_all_ascii_digits

-- if i is at most k, the value of the first i digits is below 10^k
pub below : (text : List ℕ) (i n k : ℕ) → i ≤ length text → i ≤ k → n ≡ digits_value 10 (take i text) → AllDigits 10 (take i text) → n < 10 ^ k
below text i n k le small is digits =
    let len : length (take i text) ≡ i = length-take-le i text le in
    let lt : digits_value 10 (take i text) < 10 ^ i = subst (λ (m : ℕ). digits_value 10 (take i text) < 10 ^ m) len (digits_value-lt 10 (take i text) digits) in
    omega (arith, lt, is, pow-le-pow_right {n = 10} (omega arith) small)

-- if all bytes have been read as digits, the accumulated number is the number that the text writes
pub all_read : (text : List ℕ) (n : ℕ) (i : ℕ) → length text ≤ i → n ≡ digits_value 10 (take i text) → AllDigits 10 (take i text) → Some n ≡ digits_of text
unfolding digits_of
all_read text n i le is digits =
    let whole : take i text ≡ text = take_all i text le in
    let all : all_ascii_digits text ≡ true = subst (λ (t : List ℕ). all_ascii_digits t ≡ true) whole (own.from (take i text) digits) in
    rw all (ap (λ (m : ℕ). Some m) (is ∙ ap (digits_value 10) whole))

not_all : (text : List ℕ) (i : ℕ) → i < length text → is_ascii_digit (get_or text i 0) ≡ false → all_ascii_digits text ≡ false
not_all [] i lt e = absurd (omega arith)
not_all (x ∷ xs) zero lt e = and_left (is_ascii_digit x) (all_ascii_digits xs) e
not_all (x ∷ xs) (suc i) lt e = and_right (is_ascii_digit x) (all_ascii_digits xs) (not_all xs i (omega arith) e)

-- a text with a byte that is no digit writes no number
pub none_read : (text : List ℕ) (i : ℕ) → i < length text → is_ascii_digit (get_or text i 0) ≡ false → None ≡ digits_of text
unfolding digits_of
none_read text i lt e = rw (not_all text i lt e) refl

digit_is : (c : ℕ) → 48 ≤ c → c ≤ 57 → digit_value c ≡ c - 48
digit_is c low high = rw (le-ltb c 48 low, lt-ltb c 58 (omega arith)) refl

-- one digit more makes the number ten times itself and the digit
pub one_more : (text : List ℕ) (i n : ℕ) → i < length text → IsInRange 48 57 (get_or text i 0) → n ≡ digits_value 10 (take i text)
    → n * 10 + (get_or text i 0 - 48) ≡ digits_value 10 (take (i + 1) text)
one_more text i n lt r is =
    sym (digits_value_more 10 text i lt ∙ ap (λ (m : ℕ). m * 10 + digit_value (get_or text i 0)) (sym is) ∙ ap (λ (d : ℕ). n * 10 + d) (digit_is (get_or text i 0) (omega (arith, r)) (omega (arith, r))))
