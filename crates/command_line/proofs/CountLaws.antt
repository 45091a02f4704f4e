-- Numbers of steps. A text writes at most one: a numeral has neither `e` nor `E`, so that letter separates the exponent.
use Rattle.std.proofs.Common.{◌≡◌, ◌≢◌, ◌∙◌, ◌<◌, ◌≤◌, ◌*◌, ◌==◌, ◌^◌, ℕ, Bool, List, [], ◌∷◌, ◌++◌, MatchOption, Option, Some, None, ap, arith, cond, drop, false, get_or, inl, inr, length, mul-le-mul_left, pow-suc, refl, subst, suc, sym, true, zero, ⊎_elim, eqb-true}
use Rattle.std.proofs.lemmas.Grind.{common_steps}
use Rattle.std.proofs.lemmas.Str.Parse.{digit_from_value}
use Rattle.std.proofs.lemmas.Str.Pattern.{IsSplitOnceResult, split_parts}
use Rattle.std.specs.Borrow.{Bor}
use Rattle.std.specs.Str.Parse.{AllDigits, digits_value}
use Rattle.clap.specs.Words.{Row, Text, first_of}
use Rattle.command_line.specs.CommandLine.{HasNoExponentLetter, IsExponentLetter, IsScaled, SaysCount, WritesNumber, WritesScaled, WritesSteps}

-- ---- texts without an exponent letter

digit_is_no_letter : (c : ℕ) → 48 ≤ c → c ≤ 57 → IsExponentLetter c → ⊥
digit_is_no_letter c least most (inl is) = absurd (omega (arith, least, most, is))
digit_is_no_letter c least most (inr is) = absurd (omega (arith, least, most, is))

plus_is_no_letter : (c : ℕ) → c ≡ 43 → IsExponentLetter c → ⊥
plus_is_no_letter c plus (inl is) = absurd (omega (arith, plus, is))
plus_is_no_letter c plus (inr is) = absurd (omega (arith, plus, is))

-- a numeral without a sign has no letter
pub digits_no_letter : (text : Text) → AllDigits 10 text → HasNoExponentLetter text
digits_no_letter [] all = tt
digits_no_letter (c ∷ cs) all =
    let range = digit_from_value c all.0 in
    (digit_is_no_letter c range.0 range.1, digits_no_letter cs all.1)

signed_no_letter : (c : ℕ) (cs : Text) (plus : Bool) → (c == 43) ≡ plus → AllDigits 10 (drop (cond plus 1 0) (c ∷ cs)) → HasNoExponentLetter (c ∷ cs)
signed_no_letter c cs true is all = (plus_is_no_letter c (eqb-true c 43 is), digits_no_letter cs all)
signed_no_letter c cs false is all = digits_no_letter (c ∷ cs) all

-- nor has a numeral with a plus in front
pub number_no_letter : (text : Text) (n : ℕ) → WritesNumber text n → HasNoExponentLetter text
number_no_letter [] n is = tt
number_no_letter (c ∷ cs) n is = signed_no_letter c cs (c == 43) refl is.0.1

-- a text around a letter has a letter
letter_inside : (front : Text) (letter : ℕ) (back : Text) → IsExponentLetter letter → HasNoExponentLetter (front ++ letter ∷ back) → ⊥
letter_inside [] letter back is none = none.0 is
letter_inside (c ∷ cs) letter back is none = letter_inside cs letter back is none.1

-- a text without an `e` and without an `E`, byte by byte
no_letter_by_index : (text : Text) → ((i : ℕ) → i < length text → get_or text i 0 ≢ 101) → ((i : ℕ) → i < length text → get_or text i 0 ≢ 69) → HasNoExponentLetter text
no_letter_by_index [] small large = tt
no_letter_by_index (c ∷ cs) small large = (
  λ is. ⊎_elim (small 0 (grind (arith, common_steps))) (large 0 (grind (arith, common_steps))) is,
  no_letter_by_index cs (λ i within. small (suc i) (omega (arith, within))) (λ i within. large (suc i) (omega (arith, within))),
)

-- ---- one number of steps

-- If neither a front nor its back has a letter, the text around a letter determines both.
one_split : (f : Text) (a : ℕ) (b g : Text) (c : ℕ) (d : Text) → IsExponentLetter a → IsExponentLetter c → HasNoExponentLetter g → HasNoExponentLetter d
    → f ++ a ∷ b ≡ g ++ c ∷ d → (f ≡ g) × (b ≡ d)
one_split [] a b [] c d is also front back same = (refl, ap (drop 1) same)
one_split [] a b (y ∷ ys) c d is also front back same = absurd (front.0 (subst IsExponentLetter (ap (λ t. get_or t 0 0) same) is))
one_split (x ∷ xs) a b [] c d is also front back same =
    absurd (letter_inside xs a b is (subst HasNoExponentLetter (sym (ap (drop 1) same)) back))
one_split (x ∷ xs) a b (y ∷ ys) c d is also front back same =
    let rest = one_split xs a b ys c d is also front.1 back (ap (drop 1) same) in
    let head : x ≡ y = ap (λ t. get_or t 0 0) same in
    (ap (λ h. h ∷ xs) head ∙ ap (λ t. y ∷ t) rest.0, rest.1)

-- the texts around the letter of a number with an exponent are the number and the exponent
pub scaled_parts : (text f b : Text) (letter n : ℕ) → IsExponentLetter letter → text ≡ f ++ letter ∷ b → WritesScaled text n → IsScaled f b n
scaled_parts text f b letter n is parts w =
    let front = number_no_letter w.number w.scaled.0 w.scaled.1 in
    let back = digits_no_letter w.exponent w.scaled.2.1 in
    let same = one_split f letter b w.number w.letter w.exponent is w.separates front back (sym parts ∙ w.parts) in
    subst (λ e. IsScaled f e n) (sym same.1) (subst (λ m. IsScaled m w.exponent n) (sym same.0) w.scaled)

-- a text with a letter is no numeral
pub letter_no_number : (text f b : Text) (letter n : ℕ) → IsExponentLetter letter → text ≡ f ++ letter ∷ b → WritesNumber text n → ⊥
letter_no_number text f b letter n is parts number =
    letter_inside f letter b is (subst HasNoExponentLetter parts (number_no_letter text n number))

-- a numeral writes one number
pub number_once : (text : Text) (n m : ℕ) → WritesNumber text n → WritesNumber text m → n ≡ m
number_once text n m is also = sym is.1 ∙ also.1

scaled_once : (number exponent : Text) (n m : ℕ) → IsScaled number exponent n → IsScaled number exponent m → n ≡ m
scaled_once number exponent n m is also =
    sym is.4 ∙ ap (λ x. x * 10 ^ digits_value 10 exponent) (number_once number is.0 also.0 is.1 also.1) ∙ also.4

-- a text writes one number of steps
pub steps_once : (text : Text) (n m : ℕ) → WritesSteps text n → WritesSteps text m → n ≡ m
steps_once text n m (inl is) (inl also) = number_once text n m is also
steps_once text n m (inl is) (inr also) = absurd (letter_no_number text also.number also.exponent also.letter n also.separates also.parts is)
steps_once text n m (inr is) (inl also) = absurd (letter_no_number text is.number is.exponent is.letter m is.separates is.parts also)
steps_once text n m (inr is) (inr also) =
    scaled_once is.number is.exponent n m is.scaled (scaled_parts text is.number is.exponent is.letter m is.separates is.parts also)

-- the number of steps that an argument says is the number that its value writes
pub said_text : (name : Text) (rows : List Row) (text : Text) (n : ℕ) → Some text ≡ first_of name rows → SaysCount name rows n → WritesSteps text n
said_text name rows text n value is =
    let same : Some is.0 ≡ Some text = sym is.1 ∙ sym value in
    let same_text : is.0 ≡ text = cc in
    subst (λ t. WritesSteps t n) same_text is.2

-- an argument says one number of steps
pub count_said_once : (name : Text) (rows : List Row) (n m : ℕ) → SaysCount name rows n → SaysCount name rows m → n ≡ m
count_said_once name rows n m a b = steps_once b.0 n m (said_text name rows b.0 n (sym b.1) a) b.2

-- ---- reading a number of steps

-- where `split_once` cuts a text at the first `E`, if the text has no `e`
pub large_parts : (text : Text) (r : Option (Bor Text × Bor Text)) → ((i : ℕ) → i < length text → get_or text i 0 ≢ 101) → IsSplitOnceResult 69 text r
    → MatchOption r (HasNoExponentLetter text) (λ parts. (letter : ℕ) × IsExponentLetter letter × (text ≡ parts.0.now ++ letter ∷ parts.1.now))
large_parts text None small cut = no_letter_by_index text small (split_parts 69 text None cut (omega arith))
large_parts text (Some parts) small cut = (69, inr refl, (split_parts 69 text (Some parts) cut (omega arith)).0)

-- what is read of a text with a letter
pub read_scaled : (text f b : Text) (letter : ℕ) (r : Option ℕ) → IsExponentLetter letter → text ≡ f ++ letter ∷ b
    → MatchOption r ((n : ℕ) → n < 2 ^ 64 → IsScaled f b n → ⊥) (IsScaled f b) → MatchOption r ((n : ℕ) → n < 2 ^ 64 → WritesSteps text n → ⊥) (WritesSteps text)
read_scaled text f b letter (Some n) is parts read =
    inr (record { number = f; letter = letter; exponent = b; separates = is; parts = parts; scaled = read })
read_scaled text f b letter None is parts none = λ n fits writes.
    ⊎_elim (letter_no_number text f b letter n is parts) (λ w. none n fits (scaled_parts text f b letter n is parts w)) writes

-- what is read of a text without a letter
pub read_number : (text : Text) (r : Option ℕ) → HasNoExponentLetter text
    → MatchOption r ((n : ℕ) → n < 2 ^ 64 → WritesNumber text n → ⊥) (WritesNumber text) → MatchOption r ((n : ℕ) → n < 2 ^ 64 → WritesSteps text n → ⊥) (WritesSteps text)
read_number text (Some n) free read = inl read
read_number text None free none = λ n fits writes.
    ⊎_elim (none n fits) (λ w. letter_inside w.number w.letter w.exponent w.separates (subst HasNoExponentLetter w.parts free)) writes

ten_positive : (k : ℕ) → 1 ≤ 10 ^ k
ten_positive zero = omega arith
ten_positive (suc k) = let before = ten_positive k in let step = pow-suc 10 k in omega (arith, before, step)

-- If the number is too large, so is its product with a power of ten.
pub too_large : (number exponent : Text) → ((m : ℕ) → m < 2 ^ 64 → WritesNumber number m → ⊥) → (n : ℕ) → n < 2 ^ 64 → IsScaled number exponent n → ⊥
too_large number exponent none n fits is =
    let grown : is.0 * 1 ≤ is.0 * 10 ^ digits_value 10 exponent = mul-le-mul_left is.0 (ten_positive (digits_value 10 exponent)) in
    let product : is.0 * 10 ^ digits_value 10 exponent ≡ n = is.4 in
    none is.0 (omega (arith, grown, product, fits)) is.1
