-- A part of a line is read as a value if and only if it writes that value.
use Rattle.std.proofs.Common.{◌≡◌, ℕ, zero, suc, ◌+◌, ◌-◌, ◌*◌, ◌^◌, ◌<◌, ◌≤◌, Bool, true, false, cond, eqb, ltb, List, [], ◌∷◌, ◌++◌, length, take, drop, get_or, replicate, Option, Some, None, option_map, ℤ, pos, IsTrue, refl, sym, ap, subst, ◌∙◌, arith}
use Rattle.std.specs.Prelude.{neg_ℤ}
use Rattle.std.specs.Str.{all_ascii_digits}
use Rattle.std.specs.Str.Parse.{digits_value}
use Rattle.std.specs.Int.{IsInRange}
use Rattle.std.proofs.lemmas.Option.{same_Some}
use Rattle.std.proofs.lemmas.Bool.{eqb-true, ltb-false, ne_eqb}
use Rattle.std.proofs.lemmas.Str.Parse.{digit_at}
use Rattle.std.proofs.lemmas.List.{take-append-drop, drop_more, get_or_append_left}
use Rattle.std.proofs.Common.{length-take, length-drop}
use Rattle.line_text.specs.Parts.{◌>>=◌, lacks, name_of, without_spaces, without_end_spaces, trimmed}
use Rattle.line_text.specs.Columns.{digits_of, decimals_of, signed_by, decimal_column_of}
use Rattle.line_text.specs.Written.{IsRight, IsPadded, WritesName, IsDigits, WritesDecimal, WritesSigned, plain, minus, WritesColumn}
use Rattle.line_text.proofs.PartLaws.{some_of, none_or}
use Rattle.line_text.proofs.LineLaws.{bind_some, front_found, front_again, end_found, end_again, digits_lack}
use Rattle.line_text.proofs.NameLaws.{name_found, name_again, is_clean}
use Rattle.line_text.proofs.DigitLaws.{own}
use Rattle.line_text.proofs.ColumnLaws.{parts_read}

-- ---- padding

-- a column is some spaces followed by the column without its leading spaces
pub right_found : (column : List ℕ) → IsRight column (without_spaces column)
right_found column = let f = front_found 32 column in record { before = f.0; whole = f.1 }

-- a text that begins with no space is read from the column in which it is right
pub right_read : (column text : List ℕ) → IsRight column text → (get_or text 0 0 ≡ 32 → ⊥) → without_spaces column ≡ text
right_read column text h first = ap without_spaces h.whole ∙ front_again 32 h.before text first

-- a column is the column without its outer spaces, with spaces on both sides
pub padded_found : (column : List ℕ) → IsPadded column (trimmed column)
padded_found column =
    let f = front_found 32 column in
    let b = end_found 32 (without_spaces column) in
    record { before = f.0; behind = b.0; whole = f.1 ∙ ap (λ (t : List ℕ). replicate f.0 32 ++ t) b.1 }

all_spaces : (k : ℕ) → without_spaces (replicate k 32) ≡ []
all_spaces zero = refl
all_spaces (suc k) = all_spaces k

spaces_joined : (j k : ℕ) → without_spaces (replicate j 32 ++ replicate k 32) ≡ []
spaces_joined zero k = all_spaces k
spaces_joined (suc j) k = spaces_joined j k

-- a text with no space at either end is read from the column in which it has spaces around it
pub padded_read : (column text : List ℕ) → IsPadded column text → (get_or text 0 0 ≡ 32 → ⊥) → (get_or text (length text - 1) 0 ≡ 32 → ⊥) → trimmed column ≡ text
padded_read column [] h first last = ap trimmed h.whole ∙ ap without_end_spaces (spaces_joined h.before h.behind)
padded_read column (x ∷ xs) h first last =
    ap trimmed h.whole ∙ ap without_end_spaces (front_again 32 h.before (x ∷ xs ++ replicate h.behind 32) first) ∙ end_again 32 h.behind (x ∷ xs) last

-- a column that writes a name is read as that name
pub name_read : (column name : List ℕ) → WritesName column name → name_of (trimmed column) ≡ Some name
name_read column name h =
    let c = is_clean name h.named in
    ap name_of (padded_read column name h.padded c.front c.back) ∙ name_again name h.named

-- a column that is read as a name writes it
pub name_written : (column name : List ℕ) → name_of (trimmed column) ≡ Some name → WritesName column name
name_written column name e =
    let f = name_found (trimmed column) name e in
    record { padded = subst (λ (t : List ℕ). IsPadded column t) f.0 (padded_found column); named = f.1 }

-- ---- digits

-- a text that is read as a number is digits that write that number
pub digits_written : (text : List ℕ) (n : ℕ) → digits_of text ≡ Some n → IsTrue (all_ascii_digits text) × (digits_value 10 text ≡ n)
unfolding digits_of
digits_written text n e = some_of (all_ascii_digits text) (digits_value 10 text) n e

-- digits that write a number are read as it
pub digits_read : (text : List ℕ) (n : ℕ) → IsTrue (all_ascii_digits text) → digits_value 10 text ≡ n → digits_of text ≡ Some n
unfolding digits_of
digits_read text n h e = rw h (ap (λ (m : ℕ). Some m) e)

-- each byte of a text of digits is from 48 to 57
pub digit_in : (text : List ℕ) (i : ℕ) → i < length text → IsTrue (all_ascii_digits text) → IsInRange 48 57 (get_or text i 0)
digit_in text i lt h = digit_at text i (own.to text h) lt

-- a text of digits has no byte below 48
pub digits_lack_byte : (c : ℕ) (text : List ℕ) → c < 48 → IsTrue (all_ascii_digits text) → lacks c text ≡ true
digits_lack_byte c text low h = digits_lack c text low (own.to text h)

-- one digit at least begins with a digit
pub whole_first : (text : List ℕ) → IsDigits text → IsInRange 48 57 (get_or text 0 0)
whole_first text h = digit_in text 0 h.some h.digits

-- ---- decimals

-- a text that writes a number with n decimals is read as that number
pub decimal_read : (decimals : ℕ) (text : List ℕ) (n : ℕ) → WritesDecimal decimals text n → decimals_of decimals text ≡ Some n
decimal_read decimals text n h =
    ap (decimals_of decimals) h.parts
    ∙ parts_read decimals h.whole h.part (digits_value 10 h.whole) (digits_value 10 h.part) h.whole_form.some h.part_length (digits_read h.whole _ h.whole_form.digits refl) (digits_read h.part _ h.part_digits refl)
    ∙ ap (λ (m : ℕ). Some m) h.value

-- a text that is read as a number with n decimals writes it
pub decimal_written : (decimals : ℕ) (text : List ℕ) (n : ℕ) → decimals_of decimals text ≡ Some n → WritesDecimal decimals text n
unfolding decimals_of
decimal_written decimals text n e =
    let at : ℕ = length text - (decimals + 1) in
    let long = none_or (ltb (length text) (decimals + 2)) _ n e in
    let le : decimals + 2 ≤ length text = ltb-false (length text) (decimals + 2) long.0 in
    let point = some_or (eqb (get_or text at 0) 46) _ n long.1 in
    let w = bind_some (digits_of (take at text)) (λ whole. digits_of (drop (length text - decimals) text) >>= λ part. Some (whole * 10 ^ decimals + part)) n point.1 in
    let p = bind_some (digits_of (drop (length text - decimals) text)) (λ part. Some (w.0 * 10 ^ decimals + part)) n w.2 in
    let wd = digits_written (take at text) w.0 w.1 in
    let pd = digits_written (drop (length text - decimals) text) p.0 p.1 in
    let next : at + 1 ≡ length text - decimals = omega arith in
    let inside : at < length text = omega arith in
    let back : drop at text ≡ 46 ∷ drop (length text - decimals) text =
    drop_more text at 0 inside ∙ ap (λ (b : ℕ). b ∷ drop (at + 1) text) (eqb-true (get_or text at 0) 46 point.0) ∙ ap (λ (k : ℕ). 46 ∷ drop k text) next in
    record {
      whole = take at text;
      part = drop (length text - decimals) text;
      parts = sym (take-append-drop at text) ∙ ap (λ (t : List ℕ). take at text ++ t) back;
      whole_form = record { some = omega (arith, length-take at text); digits = wd.0 };
      part_digits = pd.0;
      part_length = omega (arith, length-drop (length text - decimals) text);
      value = ap (λ (m : ℕ). m * 10 ^ decimals + digits_value 10 (drop (length text - decimals) text)) wd.1 ∙ ap (λ (m : ℕ). w.0 * 10 ^ decimals + m) pd.1 ∙ same_Some _ _ p.2;
    }
  where
    some_or : {A : Type 0} (b : Bool) (o : Option A) (y : A) → cond b o None ≡ Some y → (b ≡ true) × (o ≡ Some y)
    some_or true o y e = (refl, e)
    some_or false o y e = absurd cc

-- a number with decimals begins with a digit
pub decimal_first : (decimals : ℕ) (text : List ℕ) (n : ℕ) → WritesDecimal decimals text n → IsInRange 48 57 (get_or text 0 0)
decimal_first decimals text n h =
    subst (λ (b : ℕ). IsInRange 48 57 b) (sym (ap (λ (t : List ℕ). get_or t 0 0) h.parts ∙ get_or_append_left h.whole (46 ∷ h.part) 0 0 h.whole_form.some)) (whole_first h.whole h.whole_form)

-- ---- with or without a minus

-- if each text read as an unsigned number writes it, each text read as a signed number writes it
pub signed_written : (P : List ℕ → ℕ → Type 0) (read : List ℕ → Option ℕ) → ((t : List ℕ) (n : ℕ) → read t ≡ Some n → P t n)
    → (text : List ℕ) (z : ℤ) → signed_by read text ≡ Some z → WritesSigned P text z
signed_written P read found [] z e = at (read []) refl e
  where
    at : (o : Option ℕ) → read [] ≡ o → option_map pos o ≡ Some z → WritesSigned P [] z
    at None r d = absurd cc
    at (Some n) r d = let same : z ≡ pos n = cc in plain n (found [] n r) same
signed_written P read found (x ∷ xs) z e = at (eqb x 45) refl (read xs) refl (read (x ∷ xs)) refl e
  where
    at : (b : Bool) → eqb x 45 ≡ b → (o : Option ℕ) → read xs ≡ o → (p : Option ℕ) → read (x ∷ xs) ≡ p
        → cond b (option_map (λ n. neg_ℤ (pos n)) o) (option_map pos p) ≡ Some z → WritesSigned P (x ∷ xs) z
    at true t None r p s d = absurd cc
    at true t (Some n) r p s d = let same : z ≡ neg_ℤ (pos n) = cc in minus xs n (ap (λ (b : ℕ). b ∷ xs) (eqb-true x 45 t)) (found xs n r) same
    at false t o r None s d = absurd cc
    at false t o r (Some n) s d = let same : z ≡ pos n = cc in plain n (found (x ∷ xs) n s) same

-- if each text that writes an unsigned number is read as it, each text that writes a signed number is read as it
pub signed_read : (P : List ℕ → ℕ → Type 0) (read : List ℕ → Option ℕ) → ((t : List ℕ) (n : ℕ) → P t n → read t ≡ Some n)
    → ((t : List ℕ) (n : ℕ) → P t n → IsInRange 48 57 (get_or t 0 0)) → (text : List ℕ) (z : ℤ) → WritesSigned P text z → signed_by read text ≡ Some z
signed_read P read again first text z (plain n p e) =
    let digit = first text n p in
    rw (ne_eqb (get_or text 0 0) 45 (λ s. omega (arith, digit)), again text n p) (ap (λ (y : ℤ). Some y) (sym e))
signed_read P read again first text z (minus magnitude n whole p e) =
    rw (whole, again magnitude n p) (ap (λ (y : ℤ). Some y) (sym e))

-- a number that may have a minus begins with no space, if one without begins with a digit
pub signed_first : (P : List ℕ → ℕ → Type 0) → ((t : List ℕ) (n : ℕ) → P t n → IsInRange 48 57 (get_or t 0 0)) → (text : List ℕ) (z : ℤ) → WritesSigned P text z
    → (get_or text 0 0 ≡ 32 → ⊥)
signed_first P first text z (plain n p e) s = let digit = first text n p in omega (arith, digit)
signed_first P first text z (minus magnitude n whole p e) s =
    let byte : get_or text 0 0 ≡ 45 = ap (λ (t : List ℕ). get_or t 0 0) whole in omega (arith, byte)

-- ---- columns

-- a column that is read as a number with n decimals writes it
pub column_written : (decimals : ℕ) (column : List ℕ) (z : ℤ) → decimal_column_of decimals column ≡ Some z → WritesColumn decimals column z
unfolding decimal_column_of
column_written decimals column z e = record {
  text = without_spaces column;
  padded = right_found column;
  number = signed_written (WritesDecimal decimals) (decimals_of decimals) (decimal_written decimals) (without_spaces column) z e;
}

-- a column that writes a number with n decimals is read as that number
pub column_read : (decimals : ℕ) (column : List ℕ) (z : ℤ) → WritesColumn decimals column z → decimal_column_of decimals column ≡ Some z
unfolding decimal_column_of
column_read decimals column z h =
    let first = signed_first (WritesDecimal decimals) (decimal_first decimals) h.text z h.number in
    ap (signed_by (decimals_of decimals)) (right_read column h.text h.padded first)
    ∙ signed_read (WritesDecimal decimals) (decimals_of decimals) (decimal_read decimals) (decimal_first decimals) h.text z h.number
