-- A text is read as a whole number exactly if it writes this number.
use Rattle.std.proofs.Common.{◌≡◌, ℕ, ◌-◌, ◌⊎◌, inl, inr, Bool, true, false, cond, eqb, List, length, get_or, Option, Some, None, option_map, min, refl, sym, ap, subst, ◌∙◌, arith}
use Rattle.std.specs.Int.{IsInRange}
use Rattle.std.proofs.lemmas.Bool.{eqb-false, ne_eqb}
use Rattle.line_text.specs.Parts.{trimmed}
use Rattle.line_text.specs.Columns.{digits_of}
use Rattle.line_text.specs.Written.{IsPadded, WritesWhole}
use Rattle.line_text.proofs.PartLaws.{none_or}
use Rattle.line_text.proofs.StepLaws.{none_is_no_some}
use Rattle.line_text.proofs.WrittenLaws.{digits_written, digits_read, digit_in, padded_found, padded_read}
use Rattle.gro.specs.GroReading.{whole_of}

-- a text that is read as a whole number writes it
pub whole_written : (text : List ℕ) (n : ℕ) → whole_of text ≡ Some n → WritesWhole text n
whole_written text n e =
    let a = none_or (eqb (length text) 0) (digits_of text) n e in
    let some : length text ≡ 0 → ⊥ = eqb-false (length text) 0 a.0 in
    let d = digits_written text n a.1 in
    record { form = record { some = omega arith; digits = d.0 }; value = d.1 }

-- digits that write a whole number are read as it
pub whole_read : (text : List ℕ) (n : ℕ) → WritesWhole text n → whole_of text ≡ Some n
whole_read text n h = rw (ne_eqb (length text) 0 (λ e. omega (arith, h.form.some))) (digits_read text n h.form.digits h.value)

-- a whole number begins with a digit
pub first_digit : (text : List ℕ) (n : ℕ) → WritesWhole text n → IsInRange 48 57 (get_or text 0 0)
first_digit text n h = digit_in text 0 h.form.some h.form.digits

-- a whole number ends in a digit
pub last_digit : (text : List ℕ) (n : ℕ) → WritesWhole text n → IsInRange 48 57 (get_or text (length text - 1) 0)
last_digit text n h = digit_in text (length text - 1) (omega (arith, h.form.some)) h.form.digits

-- a padded number is read, whatever its size
pub number_read : (text digits : List ℕ) (count : ℕ) → IsPadded text digits → WritesWhole digits count → whole_of (trimmed text) ≡ Some count
number_read text digits count padded number =
    let bare : trimmed text ≡ digits = padded_read text digits padded (λ e. let d = first_digit digits count number in omega (arith, d)) (λ e. let d = last_digit digits count number in omega (arith, d)) in
    ap whole_of bare ∙ whole_read digits count number

-- ---- the number of atoms

-- a line that isn't a number
pub no_count : (text : List ℕ) → whole_of (trimmed text) ≡ None → (digits : List ℕ) (count : ℕ) → IsPadded text digits → WritesWhole digits count → ⊥
no_count text e digits count padded number = none_is_no_some count (sym e ∙ number_read text digits count padded number)

-- nothing but spaces, or a byte that is no digit
pub no_digits : (text digits : List ℕ) → digits ≡ trimmed text → (eqb (length digits) 0 ≡ true) ⊎ (digits_of digits ≡ None) → whole_of (trimmed text) ≡ None
no_digits text digits e (inl none) = ap whole_of (sym e) ∙ rw none refl
no_digits text digits e (inr other) = ap whole_of (sym e) ∙ ap (λ (o : Option ℕ). cond (eqb (length digits) 0) None o) other ∙ at (eqb (length digits) 0)
  where
    at : (b : Bool) → ◌≡◌ {A = Option ℕ} (cond b None None) None
    at true = refl
    at false = refl

-- the digits of a line
pub digits_there : (text digits : List ℕ) (n : ℕ) → digits ≡ trimmed text → eqb (length digits) 0 ≡ false → digits_of digits ≡ Some n → IsPadded text digits × WritesWhole digits n
digits_there text digits n e some r =
    let d = digits_written digits n r in
    let there : length digits ≡ 0 → ⊥ = eqb-false (length digits) 0 some in
    (subst (λ (t : List ℕ). IsPadded text t) (sym e) (padded_found text), record { form = record { some = omega arith; digits = d.0 }; value = d.1 })

-- a number that a loop counts up to a limit
pub none_limited : (limit : ℕ) (o : Option ℕ) → None ≡ option_map (λ n. min n limit) o → o ≡ None
none_limited limit None e = refl
none_limited limit (Some n) e = absurd cc

pub some_limited : (limit : ℕ) (o : Option ℕ) (count : ℕ) → Some count ≡ option_map (λ n. min n limit) o → (n : ℕ) × (o ≡ Some n) × (count ≡ min n limit)
some_limited limit None count e = absurd cc
some_limited limit (Some n) count e = (n, refl, cc)
