-- Parts of lines: a part is read as a number within the limit if and only if the part is the number's decimal text.
use Rattle.std.proofs.Common.{◌≡◌, ℕ, suc, ◌^◌, ◌<◌, ◌≤◌, Bool, true, false, ◌&&◌, cond, eqb, ltb, List, get_or, Option, Some, None, ℤ, pos, negsuc, MatchOption, decimal, bytes_eq, refl, sym, ap, subst, ◌∙◌, arith}
use Rattle.std.specs.Fmt.{signed_decimal}
use Rattle.std.specs.Str.Parse.{digits_value, signed_digits_value}
use Rattle.std.proofs.lemmas.Bool.{and_parts, and_from, ltb-true, lt-ltb, ne_eqb, cond-true}
use Rattle.std.proofs.lemmas.Slice.Eq.{bytes_eq-Decides}
use Rattle.std.proofs.lemmas.Str.Parse.{digit_at, without_leading_plus_none}
use Rattle.std.proofs.lemmas.Fmt.{decimal_is_IsNumeral}
use Rattle.std.specs.Int.{IsInRange}
use lib.Signed.{mag}
use mir.Syntax.{w64}
use mir.Val.{SFits as FitsSigned}
use Rattle.line_text.specs.Parts.{natural_of, integer_of, fits_signed}

-- a test that let a value through, and one that did not
pub some_of : {A : Type 0} (b : Bool) (x y : A) → cond b (Some x) None ≡ Some y → (b ≡ true) × (x ≡ y)
some_of true x y e = (refl, cc)
some_of false x y e = absurd cc

-- if a value passes a test that would replace it by `None`, the test is false and the value is unchanged
pub none_of : {A : Type 0} (b : Bool) (x y : A) → cond b None (Some x) ≡ Some y → (b ≡ false) × (x ≡ y)
none_of true x y e = absurd cc
none_of false x y e = (refl, cc)

-- if an option passes such a test with a value, the test is false and the option is unchanged
pub none_or : {A : Type 0} (b : Bool) (o : Option A) (y : A) → cond b None o ≡ Some y → (b ≡ false) × (o ≡ Some y)
none_or true o y e = absurd cc
none_or false o y e = (refl, e)

-- texts that compare equal are the same text
pub same_bytes : (xs ys : List ℕ) → bytes_eq xs ys ≡ true → xs ≡ ys
same_bytes xs ys e = (bytes_eq-Decides xs ys).0 e

-- the same text compares equal
pub bytes_same : (xs ys : List ℕ) → xs ≡ ys → bytes_eq xs ys ≡ true
bytes_same xs ys e = (bytes_eq-Decides xs ys).1 e

-- ---- numbers

-- a number that is read from a text is below the limit, and the text is its decimal
pub natural_found : (limit : ℕ) (text : List ℕ) (n : ℕ) → natural_of limit text ≡ Some n → (text ≡ decimal n) × (n < limit)
unfolding natural_of
natural_found limit text n e =
    let s = some_of (bytes_eq text (decimal (digits_value 10 text)) && ltb (digits_value 10 text) limit) (digits_value 10 text) n e in
    let p = and_parts (bytes_eq text (decimal (digits_value 10 text))) (ltb (digits_value 10 text) limit) s.0 in
    (same_bytes text (decimal (digits_value 10 text)) p.0 ∙ ap decimal s.1, subst (λ (k : ℕ). k < limit) s.1 (ltb-true _ _ p.1))

-- the decimal of a 64-bit number below the limit is read as that number
pub natural_again : (limit n : ℕ) → n < limit → n < 2 ^ 64 → natural_of limit (decimal n) ≡ Some n
unfolding natural_of
natural_again limit n lt fits =
    let v : digits_value 10 (decimal n) ≡ n = (decimal_is_IsNumeral n fits).1 in
    rw v (cond-true _ _ _ (and_from _ _ (bytes_same (decimal n) (decimal n) refl) (lt-ltb n limit lt)))

-- the result of a function that reads a number, as one equation
pub natural_is : (limit : ℕ) (text : List ℕ) (r : Option ℕ) → limit ≤ 2 ^ 64
    → MatchOption r ((n : ℕ) → n < limit → text ≡ decimal n → ⊥) (λ n. (n < limit) × (text ≡ decimal n)) → r ≡ natural_of limit text
natural_is limit text (Some n) small h = sym (ap (natural_of limit) h.1 ∙ natural_again limit n h.0 (omega (arith, h.0)))
natural_is limit text None small h = none_is (natural_of limit text) refl
  where
    none_is : (o : Option ℕ) → natural_of limit text ≡ o → None ≡ o
    none_is None e = refl
    none_is (Some n) e = let f = natural_found limit text n e in absurd (h n f.1 f.0)

-- ---- signed numbers

-- a signed number that is read from a text fits 64 bits, and the text is its decimal
pub integer_found : (text : List ℕ) (z : ℤ) → integer_of text ≡ Some z → (text ≡ signed_decimal z) × (mag z < 2 ^ 63)
unfolding integer_of
integer_found text z e =
    let s = some_of (bytes_eq text (signed_decimal (signed_digits_value 10 text)) && fits_signed (signed_digits_value 10 text)) (signed_digits_value 10 text) z e in
    let p = and_parts (bytes_eq text (signed_decimal (signed_digits_value 10 text))) (fits_signed (signed_digits_value 10 text)) s.0 in
    (same_bytes text (signed_decimal (signed_digits_value 10 text)) p.0 ∙ ap signed_decimal s.1, subst (λ (k : ℤ). mag k < 2 ^ 63) s.1 (ltb-true _ _ p.1))

signed_value : (z : ℤ) → mag z < 2 ^ 63 → signed_digits_value 10 (signed_decimal z) ≡ z
signed_value (negsuc n) lt = rw (decimal_is_IsNumeral (suc n) (omega arith)).1 refl
signed_value (pos n) lt =
    let is = decimal_is_IsNumeral n (omega arith) in
    let first : IsInRange 48 57 (get_or (decimal n) 0 0) = digit_at (decimal n) 0 is.0.1 is.0.0 in
    let minus : eqb (get_or (decimal n) 0 0) 45 ≡ false = ne_eqb _ _ (λ e. omega (arith, first)) in
    rw (minus, without_leading_plus_none (decimal n) (λ e. omega (arith, first)), is.1) refl

-- a number with a magnitude below 2^63 fits a signed word
pub fits_mag : (z : ℤ) → mag z < 2 ^ 63 → FitsSigned w64 z
fits_mag z lt = record { sfits = lt }

-- the decimal of a signed number that fits 64 bits is read as that number
pub integer_again : (z : ℤ) → mag z < 2 ^ 63 → integer_of (signed_decimal z) ≡ Some z
unfolding integer_of
integer_again z lt =
    rw (signed_value z lt) (cond-true _ _ _ (and_from _ _ (bytes_same (signed_decimal z) (signed_decimal z) refl) (lt-ltb (mag z) (2 ^ 63) lt)))

-- an option is `integer_of text` if it holds the fitting integer that the text spells, or is `None` and there is none
pub integer_is : (text : List ℕ) (r : Option ℤ)
    → MatchOption r ((z : ℤ) → mag z < 2 ^ 63 → text ≡ signed_decimal z → ⊥) (λ z. (mag z < 2 ^ 63) × (text ≡ signed_decimal z)) → r ≡ integer_of text
integer_is text (Some z) h = sym (ap integer_of h.1 ∙ integer_again z h.0)
integer_is text None h = none_is (integer_of text) refl
  where
    none_is : (o : Option ℤ) → integer_of text ≡ o → None ≡ o
    none_is None e = refl
    none_is (Some z) e = let f = integer_found text z e in absurd (h z f.1 f.0)
