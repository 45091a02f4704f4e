-- Numbers of a job: a word is read as a number exactly if it is a text of the number.
use Rattle.std.proofs.Common.{◌≡◌, ℕ, zero, suc, ◌+◌, ◌-◌, ◌*◌, ◌^◌, ◌<◌, ◌≤◌, ◌&&◌, ◌==◌, ℤ, pos, negsuc, ◌≤ℤ◌, Bool, true, false, List, [], ◌∷◌, ◌++◌, append-nil, length, Option, Some, None, Result, Ok, Err, nat_lt, nat_le, int_le, refl, sym, ap, subst, ◌∙◌, arith, if◌then◌else◌}
use Rattle.std.specs.List.{AllZip}
use Rattle.std.specs.Str.{all_ascii_digits}
use Rattle.std.specs.Str.Parse.{digits_value}
use Rattle.std.specs.Int.Signed.{le_z_yes}
use Rattle.std.proofs.lemmas.Bool.{and_parts, and_from, eqb-true, eqb-false, ne_eqb, lt-ltb, ltb-true, le-leb, leb-true}
use Rattle.fixed.specs.Arithmetic.{in_range}
use Rattle.fixed.specs.Constants.{IsConstantOf, constant_or_range, negated}
use Rattle.fixed.specs.Constants.{constant_of as decimal_constant}
use Rattle.fixed.specs.declared.constants.Constant.{Constant}
use Rattle.fixed.specs.Fractions.{bits_of}
use Rattle.fixed.specs.Numerals.{numeral_text, mantissa_of, power_of_ten, nearest_fixed, value_of}
use Rattle.fixed.specs.NumeralParts.{begins_numeral, numeral_of as numeral_in, after_numeral, front_of, reading_of, constant_reading}
use Rattle.fixed.specs.declared.frac.Frac.{Frac}
use Rattle.fixed.specs.declared.frac.Frac.TheVariants.{F24, F32, F40}
use Rattle.fixed.specs.declared.faults.NumFault.{NumFault}
use Rattle.fixed.specs.declared.faults.NumFault.TheVariants.{BadNumber, NumberRange}
use Rattle.fixed.proofs.ConstantLemmas.{constant_is, constant_read, constant_unique}
use Rattle.fixed.proofs.NumeralLemmas.{constant_reading_is, front_ok, reading_is}
use Rattle.line_text.specs.Parts.{split_once}
use Rattle.line_text.specs.Written.{IsDigits, WritesWhole}
use Rattle.line_text.proofs.LineLaws.{cut_found, cut_again, uncut}
use Rattle.line_text.proofs.ResidueNumbers.{T_true, true_T}
use Rattle.line_text.proofs.StepLaws.{bind_ok, same_ok}
use Rattle.line_text.proofs.WrittenLaws.{digits_lack_byte}
use Rattle.job.specs.JobLines.{IsNumber, IsConstant, IsSignedConstant, plain, minus, IsMass, digits_alone, with_point}
use Rattle.job.specs.Numbers.{Reading, mapped, both, numeral_of, constant_of, signed_of, values_of, cutoff_range, cutoff_of, is_whole, within, whole_of, frac_with, frac_of, mass_from, mass_parts, mass_of}

-- ---- numerals

no_bytes : (text : List ℕ) → (length text == 0) ≡ true → text ≡ []
no_bytes [] e = refl
no_bytes (b ∷ bs) e = absurd (grind (arith, e))

-- a reading that passes a test
guarded : {X : Type 0} (b : Bool) (r : Result X NumFault) (f : NumFault) (x : X) → (if b then r else Err f) ≡ Ok x → (b ≡ true) × (r ≡ Ok x)
guarded true r f x e = (refl, e)
guarded false r f x e = absurd cc

-- if a whole word is read as a number, its front is read as the number, with no bytes left
whole_front : (bits : ℕ) (word : List ℕ) (v : ℤ) → reading_of bits word ≡ Ok v → front_of bits word ≡ Ok (v, [])
unfolding reading_of front_of
whole_front bits word v e =
    let g = guarded (begins_numeral word && length (after_numeral word) == 0) (value_of bits (numeral_in word)) BadNumber v e in
    let p = and_parts (begins_numeral word) (length (after_numeral word) == 0) g.0 in
    rw (p.0, no_bytes (after_numeral word) p.1, g.1) refl

-- the value of a numeral that fits
fitting : (z v : ℤ) → ◌≡◌ {A = Result ℤ NumFault} (if in_range z then Ok z else Err NumberRange) (Ok v) → (z ≡ v) × (in_range v ≡ true)
fitting z v e =
    let g = guarded (in_range z) (Ok z) NumberRange v e in
    let same : z ≡ v = same_ok z v g.1 in (same, ap in_range (sym same) ∙ g.0)

fits_again : (z v : ℤ) → z ≡ v → in_range v ≡ true → ◌≡◌ {A = Result ℤ NumFault} (if in_range z then Ok z else Err NumberRange) (Ok v)
fits_again z v same fits = rw (same, fits) refl

-- a word that is read as a number is a text of this number
pub number_ok : (frac : Frac) (word : List ℕ) (v : ℤ) → numeral_of frac word ≡ Ok v → IsNumber frac word v
unfolding numeral_of
number_ok frac word v e =
    let f = front_ok (bits_of frac) word v [] (whole_front (bits_of frac) word v e) in
    let it = fitting (nearest_fixed (bits_of frac) (mantissa_of f.numeral) (power_of_ten f.numeral)) v f.value in
    record { numeral = f.numeral; well_formed = f.front.is_numeral; text = sym (append-nil (numeral_text f.numeral)) ∙ f.front.parts; nearest = it.0; fits = it.1 }

-- a word of a number is read as that number
pub number_again : (frac : Frac) (word : List ℕ) (v : ℤ) → IsNumber frac word v → numeral_of frac word ≡ Ok v
unfolding numeral_of
number_again frac word v n =
    (reading_is (bits_of frac) word).value n.numeral n.well_formed n.text
    ∙ fits_again (nearest_fixed (bits_of frac) (mantissa_of n.numeral) (power_of_ten n.numeral)) v n.nearest n.fits

-- ---- constants

-- the constant of a decimal that fits
fitting_constant : (bits m : ℕ) (p : ℤ) (c : Constant) → constant_or_range bits m p ≡ Ok c → IsConstantOf bits m p c
fitting_constant bits m p c e =
    let g = guarded (in_range (nearest_fixed bits m p)) (Ok (decimal_constant bits m p)) NumberRange c e in
    subst (λ (d : Constant). IsConstantOf bits m p d) (same_ok (decimal_constant bits m p) c g.1) (constant_is bits m p)

value_is : (bits m : ℕ) (p : ℤ) → (decimal_constant bits m p).value ≡ nearest_fixed bits m p
value_is bits m (pos p) = refl
value_is bits m (negsuc p) = refl

fitting_again : (bits m : ℕ) (p : ℤ) (c : Constant) → IsConstantOf bits m p c → in_range c.value ≡ true → constant_or_range bits m p ≡ Ok c
fitting_again bits m p c is fits =
    let same = constant_unique bits m p c is in
    rw (ap in_range (sym (value_is bits m p) ∙ ap (λ (d : Constant). d.value) (sym same)) ∙ fits) (ap (λ (d : Constant). Ok d) (sym same))

-- a word that is read as a constant is a text of this constant
constant_ok : (frac : Frac) (word : List ℕ) (c : Constant) → constant_of frac word ≡ Ok c → IsConstant frac word c
unfolding constant_of numeral_of
constant_ok frac word c e =
    let n = number_ok frac word c.value (constant_read (bits_of frac) word c e) in
    record {
      numeral = n.numeral;
      well_formed = n.well_formed;
      text = n.text;
      read = fitting_constant (bits_of frac) (mantissa_of n.numeral) (power_of_ten n.numeral) c (sym ((constant_reading_is (bits_of frac) word).value n.numeral n.well_formed n.text) ∙ e);
      fits = n.fits;
    }

-- a word of a constant is read as that constant
constant_again : (frac : Frac) (word : List ℕ) (c : Constant) → IsConstant frac word c → constant_of frac word ≡ Ok c
unfolding constant_of
constant_again frac word c n =
    (constant_reading_is (bits_of frac) word).value n.numeral n.well_formed n.text
    ∙ fitting_again (bits_of frac) (mantissa_of n.numeral) (power_of_ten n.numeral) c n.read n.fits

-- ---- signed constants

mapped_ok : {X Y : Type 0} (f : X → Y) (r : Reading X) (y : Y) → mapped f r ≡ Ok y → (x : X) × (r ≡ Ok x) × (f x ≡ y)
mapped_ok f (Ok x) y e = (x, refl, same_ok (f x) y e)
mapped_ok f (Err e) y h = absurd cc

-- a word that is read as a signed constant is a text of this constant
pub signed_ok : (frac : Frac) (word : List ℕ) (v : Constant) → signed_of frac word ≡ Ok v → IsSignedConstant frac word v
unfolding signed_of
signed_ok frac [] v e = plain (constant_ok frac [] v e)
signed_ok frac (b ∷ bs) v e = at (b == 45) (eqb-true b 45) e
  where
    at : (c : Bool) → (c ≡ true → b ≡ 45) → (if c then mapped negated (constant_of frac bs) else constant_of frac (b ∷ bs)) ≡ Ok v → IsSignedConstant frac (b ∷ bs) v
    at false is h = plain (constant_ok frac (b ∷ bs) v h)
    at true is h =
        let m = mapped_ok negated (constant_of frac bs) v h in
        minus bs m.0 (ap (λ (x : ℕ). x ∷ bs) (is refl)) (constant_ok frac bs m.0 m.1) (sym m.2)

-- no numeral begins with a minus
no_minus : (frac : Frac) (bs : List ℕ) → constant_of frac (45 ∷ bs) ≡ Err BadNumber
unfolding constant_of constant_reading begins_numeral numeral_in after_numeral
no_minus frac bs = refl

unsigned_again : (frac : Frac) (word : List ℕ) (v : Constant) → constant_of frac word ≡ Ok v → signed_of frac word ≡ Ok v
unfolding signed_of
unsigned_again frac [] v e = e
unsigned_again frac (b ∷ bs) v e = at (b == 45) (eqb-true b 45)
  where
    at : (c : Bool) → (c ≡ true → b ≡ 45) → (if c then mapped negated (constant_of frac bs) else constant_of frac (b ∷ bs)) ≡ Ok v
    at false is = e
    at true is = let bad : constant_of frac (b ∷ bs) ≡ Err BadNumber = ap (λ (x : ℕ). constant_of frac (x ∷ bs)) (is refl) ∙ no_minus frac bs in absurd cc

minus_again : (frac : Frac) (bs : List ℕ) (d : Constant) → constant_of frac bs ≡ Ok d → signed_of frac (45 ∷ bs) ≡ Ok (negated d)
unfolding signed_of
minus_again frac bs d e = rw e refl

-- a word of a signed constant is read as that constant
pub signed_again : (frac : Frac) (word : List ℕ) (v : Constant) → IsSignedConstant frac word v → signed_of frac word ≡ Ok v
signed_again frac word v (plain is) = unsigned_again frac word v (constant_again frac word v is)
signed_again frac word v (minus numeral d word_is is e) =
    ap (signed_of frac) word_is ∙ minus_again frac numeral d (constant_again frac numeral d is) ∙ ap (λ (x : Constant). Ok x) (sym e)

-- ---- many signed constants

pub both_ok : {X Y : Type 0} (r : Reading X) (s : Reading Y) (x : X × Y) → both r s ≡ Ok x → (r ≡ Ok x.0) × (s ≡ Ok x.1)
both_ok (Err BadNumber) s x e = absurd cc
both_ok (Err NumberRange) (Err BadNumber) x e = absurd cc
both_ok (Err NumberRange) (Err NumberRange) x e = absurd cc
both_ok (Err NumberRange) (Ok z) x e = absurd cc
both_ok (Ok z) (Err f) x e = absurd cc
both_ok {X} {Y} (Ok z) (Ok w) x e =
    let same : ◌≡◌ {A = X × Y} (z, w) x = same_ok (z, w) x e in (ap (λ (p : X × Y). Ok p.0) same, ap (λ (p : X × Y). Ok p.1) same)

pub values_ok : (frac : Frac) (ws : List (List ℕ)) (vs : List Constant) → values_of frac ws ≡ Ok vs → AllZip (IsSignedConstant frac) ws vs
unfolding values_of
values_ok frac [] vs e = subst (λ (us : List Constant). AllZip (IsSignedConstant frac) [] us) (same_ok [] vs e) tt
values_ok frac (w ∷ ws) vs e =
    let b = bind_ok (both (signed_of frac w) (values_of frac ws)) (λ x. Ok (x.0 ∷ x.1)) vs e in
    let p = both_ok (signed_of frac w) (values_of frac ws) b.0 b.1 in
    subst (λ (us : List Constant). AllZip (IsSignedConstant frac) (w ∷ ws) us) (same_ok (b.0.0 ∷ b.0.1) vs b.2) (signed_ok frac w b.0.0 p.0, values_ok frac ws b.0.1 p.1)

pub values_again : (frac : Frac) (ws : List (List ℕ)) (vs : List Constant) → AllZip (IsSignedConstant frac) ws vs → values_of frac ws ≡ Ok vs
unfolding values_of
values_again frac [] [] h = refl
values_again frac [] (v ∷ vs) h = absurd h
values_again frac (w ∷ ws) [] h = absurd h
values_again frac (w ∷ ws) (v ∷ vs) h = rw (signed_again frac w v h.0, values_again frac ws vs h.1) refl

-- ---- whole numbers

within_ok : (least most n m : ℕ) → within least most n ≡ Ok m → (n ≡ m) × (least ≤ m) × (m ≤ most)
within_ok least most n m e =
    let g = guarded (nat_le least n && nat_le n most) (Ok n) NumberRange m e in
    let p = and_parts (nat_le least n) (nat_le n most) g.0 in
    let same : n ≡ m = same_ok n m g.1 in
    (same, omega (arith, leb-true least n p.0), omega (arith, leb-true n most p.1))

within_again : (least most n : ℕ) → least ≤ n → n ≤ most → within least most n ≡ Ok n
within_again least most n low high = rw (le-leb least n low, le-leb n most high) refl

digits_ok : (word : List ℕ) → is_whole word ≡ true → IsDigits word
digits_ok word e =
    let p = and_parts (nat_lt 0 (length word)) (all_ascii_digits word) e in record { some = ltb-true 0 (length word) p.0; digits = p.1 }

digits_again : (word : List ℕ) → IsDigits word → is_whole word ≡ true
digits_again word d = and_from (nat_lt 0 (length word)) (all_ascii_digits word) (lt-ltb 0 (length word) d.some) d.digits

pub whole_ok : (least most : ℕ) (word : List ℕ) (n : ℕ) → whole_of least most word ≡ Ok n → WritesWhole word n × (least ≤ n) × (n ≤ most)
unfolding whole_of
whole_ok least most word n e =
    let g = guarded (is_whole word) (within least most (digits_value 10 word)) BadNumber n e in
    let w = within_ok least most (digits_value 10 word) n g.1 in (record { form = digits_ok word g.0; value = w.0 }, w.1, w.2)

pub whole_again : (least most : ℕ) (word : List ℕ) (n : ℕ) → WritesWhole word n → least ≤ n → n ≤ most → whole_of least most word ≡ Ok n
unfolding whole_of
whole_again least most word n w low high = rw (digits_again word w.form, w.value) (within_again least most n low high)

-- ---- cutoffs and fraction bits

pub cutoff_ok : (frac : Frac) (word : List ℕ) (v : ℤ) → cutoff_of frac word ≡ Ok v → IsNumber frac word v × (pos 1 ≤ℤ v) × (v ≤ℤ pos (80 * 2 ^ bits_of frac))
unfolding cutoff_of
cutoff_ok frac word v e =
    let b = bind_ok (numeral_of frac word) (cutoff_range frac) v e in
    let most = pos (80 * 2 ^ bits_of frac) in
    let g = guarded (int_le (pos 1) b.0 && int_le b.0 most) (Ok b.0) NumberRange v b.2 in
    let p = and_parts (int_le (pos 1) b.0) (int_le b.0 most) g.0 in
    subst (λ (u : ℤ). IsNumber frac word u × (pos 1 ≤ℤ u) × (u ≤ℤ pos (80 * 2 ^ bits_of frac))) (same_ok b.0 v g.1)
    (number_ok frac word b.0 b.1, le_z_yes (true_T _ p.0), le_z_yes (true_T _ p.1))

pub cutoff_again : (frac : Frac) (word : List ℕ) (v : ℤ) → IsNumber frac word v → pos 1 ≤ℤ v → v ≤ℤ pos (80 * 2 ^ bits_of frac) → cutoff_of frac word ≡ Ok v
unfolding cutoff_of
cutoff_again frac word v n low high = rw (number_again frac word v n, T_true (int_le (pos 1) v) low.le, T_true (int_le v (pos (80 * 2 ^ bits_of frac))) high.le) refl

frac_with_ok : (n : ℕ) (frac : Frac) → frac_with n ≡ Ok frac → n ≡ bits_of frac
frac_with_ok n frac e = at (n == 24) (n == 32) (n == 40) (eqb-true n 24) (eqb-true n 32) (eqb-true n 40) e
  where
    at : (a b c : Bool) → (a ≡ true → n ≡ 24) → (b ≡ true → n ≡ 32) → (c ≡ true → n ≡ 40)
        → ◌≡◌ {A = Reading Frac} (if a then Ok F24 else if b then Ok F32 else if c then Ok F40 else Err NumberRange) (Ok frac) → n ≡ bits_of frac
    at true b c x y z h = x refl ∙ ap bits_of (same_ok F24 frac h)
    at false true c x y z h = y refl ∙ ap bits_of (same_ok F32 frac h)
    at false false true x y z h = z refl ∙ ap bits_of (same_ok F40 frac h)
    at false false false x y z h = absurd cc

frac_with_again : (frac : Frac) → frac_with (bits_of frac) ≡ Ok frac
frac_with_again F24 = refl
frac_with_again F32 = refl
frac_with_again F40 = refl

bits_range : (frac : Frac) → (24 ≤ bits_of frac) × (bits_of frac ≤ 40)
bits_range F24 = (omega arith, omega arith)
bits_range F32 = (omega arith, omega arith)
bits_range F40 = (omega arith, omega arith)

pub frac_ok : (word : List ℕ) (frac : Frac) → frac_of word ≡ Ok frac → WritesWhole word (bits_of frac)
unfolding frac_of
frac_ok word frac e =
    let b = bind_ok (whole_of 24 40 word) frac_with frac e in
    subst (λ (n : ℕ). WritesWhole word n) (frac_with_ok b.0 frac b.2) (whole_ok 24 40 word b.0 b.1).0

pub frac_again : (word : List ℕ) (frac : Frac) → WritesWhole word (bits_of frac) → frac_of word ≡ Ok frac
unfolding frac_of
frac_again word frac w = let r = bits_range frac in rw (whole_again 24 40 word (bits_of frac) w r.0 r.1) (frac_with_again frac)

-- ---- masses

-- digits before and after a point that give the mass m, in units of 10^-5
record MassParts (front part : List ℕ) (m : ℕ) : Type 0 where
  front_form : IsDigits front
  part_digits : all_ascii_digits part ≡ true
  few : length part ≤ 5
  value : digits_value 10 front * 100000 + digits_value 10 part * 10 ^ (5 - length part) ≡ m
  some : 1 ≤ m
  most : m ≤ 100000000

parts_ok : (front part : List ℕ) (m : ℕ) → mass_from front part ≡ Ok m → MassParts front part m
parts_ok front part m e =
    let value = digits_value 10 front * 100000 + digits_value 10 part * 10 ^ (5 - length part) in
    let g = guarded (is_whole front && (all_ascii_digits part && nat_le (length part) 5)) (within 1 100000000 value) BadNumber m e in
    let p = and_parts (is_whole front) (all_ascii_digits part && nat_le (length part) 5) g.0 in
    let q = and_parts (all_ascii_digits part) (nat_le (length part) 5) p.1 in
    let w = within_ok 1 100000000 value m g.1 in
    record { front_form = digits_ok front p.0; part_digits = q.0; few = leb-true (length part) 5 q.1; value = w.0; some = w.1; most = w.2 }

parts_again : (front part : List ℕ) (m : ℕ) → MassParts front part m → mass_from front part ≡ Ok m
parts_again front part m p =
    rw (digits_again front p.front_form, p.part_digits, le-leb (length part) 5 p.few, p.value) (within_again 1 100000000 m p.some p.most)

-- a number of decimals, in units of the fifth
scaled : (decimals w d : ℕ) → decimals ≤ 5 → (w * 10 ^ decimals + d) * 10 ^ (5 - decimals) ≡ w * 100000 + d * 10 ^ (5 - decimals)
scaled zero w d few = omega arith
scaled (suc zero) w d few = omega arith
scaled (suc (suc zero)) w d few = omega arith
scaled (suc (suc (suc zero))) w d few = omega arith
scaled (suc (suc (suc (suc zero)))) w d few = omega arith
scaled (suc (suc (suc (suc (suc zero))))) w d few = omega arith
scaled (suc (suc (suc (suc (suc (suc p)))))) w d few = absurd (omega (arith, few))

pub mass_ok : (word : List ℕ) (m : ℕ) → mass_of word ≡ Ok m → IsMass word m × (1 ≤ m) × (m ≤ 100000000)
unfolding mass_of
mass_ok word m e = at (split_once 46 word) refl e
  where
    behind : (front part : List ℕ) → word ≡ front ++ 46 ∷ part → (b : Bool) → (b ≡ false → 0 < length part) → (if b then Err BadNumber else mass_from front part) ≡ Ok m → IsMass word m × (1 ≤ m) × (m ≤ 100000000)
    behind front part is true some h = absurd cc
    behind front part is false some h =
        let p = parts_ok front part m h in
        let n = digits_value 10 front * 10 ^ length part + digits_value 10 part in (
          with_point (length part) n (some refl) p.few (record { whole = front; part = part; parts = is; whole_form = p.front_form; part_digits = p.part_digits; part_length = refl; value = refl })
              (scaled (length part) (digits_value 10 front) (digits_value 10 part) p.few ∙ p.value),
          p.some,
          p.most,
        )

    at : (o : Option (List ℕ × List ℕ)) → split_once 46 word ≡ o → mass_parts word o ≡ Ok m → IsMass word m × (1 ≤ m) × (m ≤ 100000000)
    at None c h =
        let p = parts_ok word [] m h in
        (digits_alone (digits_value 10 word) (record { form = p.front_form; value = refl }) (omega (arith, p.value)), p.some, p.most)
    at (Some parts) c h =
        behind parts.0 parts.1 (cut_found 46 word parts.0 parts.1 c).0 (length parts.1 == 0) (λ f. let k : length parts.1 ≡ 0 → ⊥ = eqb-false (length parts.1) 0 f in omega (arith, k)) h

pub mass_again : (word : List ℕ) (m : ℕ) → IsMass word m → 1 ≤ m → m ≤ 100000000 → mass_of word ≡ Ok m
unfolding mass_of
mass_again word m (digits_alone n w e) some most =
    let uncut_is : split_once 46 word ≡ None = uncut 46 word (digits_lack_byte 46 word (omega arith) w.form.digits) in
    let v = w.value in
    ap (mass_parts word) uncut_is
    ∙ parts_again word [] m (record { front_form = w.form; part_digits = refl; few = omega arith; value = omega (arith, v, e); some = some; most = most })
mass_again word m (with_point decimals n least few w e) some most =
    let cut : split_once 46 word ≡ Some (w.whole, w.part) = ap (split_once 46) w.parts ∙ cut_again 46 w.whole w.part (digits_lack_byte 46 w.whole (omega arith) w.whole_form.digits) in
    let long = w.part_length in
    let value : digits_value 10 w.whole * 100000 + digits_value 10 w.part * 10 ^ (5 - length w.part) ≡ m =
    ap (λ (k : ℕ). digits_value 10 w.whole * 100000 + digits_value 10 w.part * 10 ^ (5 - k)) long ∙ sym (scaled decimals (digits_value 10 w.whole) (digits_value 10 w.part) few)
    ∙ ap (λ (k : ℕ). k * 10 ^ (5 - decimals)) w.value ∙ e in
    ap (mass_parts word) cut ∙ ap (λ (b : Bool). if b then Err BadNumber else mass_from w.whole w.part) (ne_eqb (length w.part) 0 (λ z. omega (arith, z, long, least)))
    ∙ parts_again w.whole w.part m (record { front_form = w.whole_form; part_digits = w.part_digits; few = omega (arith, long, few); value = value; some = some; most = most })
