-- The values of a box, one after another.
use Rattle.std.proofs.Common.{◌≡◌, ◌≤◌, ℕ, zero, suc, ◌+◌, ◌-◌, ◌*◌, ◌^◌, true, false, ◌||◌, eqb, ltb, ℤ, pos, negsuc, List, [], ◌∷◌, ◌++◌, length, take, drop, get_or, replicate, Option, Some, None, option_map, refl, sym, ap, subst, ◌∙◌, append_assoc, arith, lit<}
use Rattle.std.specs.List.{list_all}
use Rattle.std.specs.Int.{IsInRange}
use Rattle.std.proofs.lemmas.Bool.{and_parts, eqb-true, eqb-false, ltb-false, le-ltb, ne_eqb, or_parts}
use Rattle.std.proofs.lemmas.List.{append-nil, take-append-drop, get_or_append_left}
use Rattle.std.proofs.Common.{length-take, length-drop}
use Rattle.std.proofs.lemmas.Option.{same_Some}
use Rattle.line_text.specs.Parts.{◌>>=◌, split_once}
use Rattle.line_text.specs.Columns.{digits_of}
use Rattle.line_text.specs.Words.{words}
use Rattle.line_text.specs.Written.{WritesSigned}
use Rattle.line_text.proofs.PartLaws.{none_or}
use Rattle.line_text.proofs.LineLaws.{bind_some, cut_found, cut_again, uncut}
use Rattle.line_text.proofs.WrittenLaws.{digits_written, digits_read, digits_lack_byte, signed_written, signed_read}
use Rattle.gro.specs.GroText.{WritesFew, WritesLength, whole, pointed, AreValues, IsBox}
use Rattle.gro.specs.GroFaults.{HasValues}
use Rattle.gro.specs.GroReading.{few_digits_of, length_parts, length_of, value_of, values_of, is_zero}
use Rattle.gro.proofs.CountLaws.{first_digit}

-- the values that were read before, and those that are still read
abbrev pub with_front : List ℤ → Option (List ℤ) → Option (List ℤ)
with_front front read = option_map (λ vs. front ++ vs) read

-- moving one value from the rest to the values read so far keeps the result
pub values_more : (front : List ℤ) (word : List ℕ) (ws : List (List ℕ)) (v : ℤ) (total : Option (List ℤ)) → value_of word ≡ Some v
    → with_front front (values_of (word ∷ ws)) ≡ total → with_front (front ++ v ∷ []) (values_of ws) ≡ total
unfolding values_of
values_more front word ws v total e so_far = regroup (values_of ws) ∙ sym (ap (λ (o : Option ℤ). with_front front (o >>= λ w. values_of ws >>= λ vs. Some (w ∷ vs))) e) ∙ so_far
  where
    regroup : (o : Option (List ℤ)) → with_front (front ++ v ∷ []) o ≡ with_front front (o >>= λ vs. Some (v ∷ vs))
    regroup None = refl
    regroup (Some vs) = ap (λ (xs : List ℤ). Some xs) (append_assoc front (v ∷ []) vs)

-- if a word writes no value, there is no result
pub values_stop : (front : List ℤ) (word : List ℕ) (ws : List (List ℕ)) (total : Option (List ℤ)) → value_of word ≡ None
    → with_front front (values_of (word ∷ ws)) ≡ total → None ≡ total
unfolding values_of
values_stop front word ws total e so_far = sym (ap (λ (o : Option ℤ). with_front front (o >>= λ w. values_of ws >>= λ vs. Some (w ∷ vs))) e) ∙ so_far

-- if no word is left, the values read so far are the result
pub values_done : (front : List ℤ) (total : Option (List ℤ)) → with_front front (values_of []) ≡ total → Some front ≡ total
unfolding values_of
values_done front total so_far = ap (λ (xs : List ℤ). Some xs) (sym (append-nil front)) ∙ so_far

-- ---- values

-- a text that is read as few digits is 1 to n digits that write the number
pub few_written : (most : ℕ) (text : List ℕ) (n : ℕ) → few_digits_of most text ≡ Some n → WritesFew most text n
unfolding few_digits_of
few_written most text n e =
    let a = none_or (eqb (length text) 0 || ltb most (length text)) (digits_of text) n e in
    let b = or_parts (eqb (length text) 0) (ltb most (length text)) a.0 in
    let some : length text ≡ 0 → ⊥ = eqb-false (length text) 0 b.0 in
    let d = digits_written text n a.1 in
    record { number = record { form = record { some = omega arith; digits = d.0 }; value = d.1 }; few = ltb-false most (length text) b.1 }

-- 1 to n digits that write a number are read as it
pub few_read : (most : ℕ) (text : List ℕ) (n : ℕ) → WritesFew most text n → few_digits_of most text ≡ Some n
unfolding few_digits_of
few_read most text n h =
    rw (ne_eqb (length text) 0 (λ e. omega (arith, h.number.form.some)), le-ltb most (length text) h.few) (digits_read text n h.number.form.digits h.number.value)

length_written : (text : List ℕ) (n : ℕ) → length_of text ≡ Some n → WritesLength text n
unfolding length_of
length_written text n e = at (split_once 46 text) refl e
  where
    at : (o : Option (List ℕ × List ℕ)) → split_once 46 text ≡ o → length_parts text o ≡ Some n → WritesLength text n
    at None c d =
        let a = bind_some (few_digits_of 12 text) (λ m. Some (m * 10 ^ 5)) n d in
        whole a.0 (few_written 12 text a.0 a.1) (same_Some _ _ a.2)
    at (Some p) c d =
        let a = bind_some (few_digits_of 12 p.0) (λ m. few_digits_of 5 p.1 >>= λ part. Some (m * 10 ^ 5 + part * 10 ^ (5 - length p.1))) n d in
        let b = bind_some (few_digits_of 5 p.1) (λ part. Some (a.0 * 10 ^ 5 + part * 10 ^ (5 - length p.1))) n a.2 in
        pointed p.0 p.1 a.0 b.0 (cut_found 46 text p.0 p.1 c).0 (few_written 12 p.0 a.0 a.1) (few_written 5 p.1 b.0 b.1) (same_Some _ _ b.2)

length_read : (text : List ℕ) (n : ℕ) → WritesLength text n → length_of text ≡ Some n
unfolding length_of
length_read text n (whole m h e) =
    ap (length_parts text) (uncut 46 text (digits_lack_byte 46 text (lit< tt) h.number.form.digits))
    ∙ ap (λ (o : Option ℕ). o >>= λ k. Some (k * 10 ^ 5)) (few_read 12 text m h) ∙ ap (λ (k : ℕ). Some k) e
length_read text n (pointed front part m rest parts h k e) =
    ap (length_parts text) (ap (split_once 46) parts ∙ cut_again 46 front part (digits_lack_byte 46 front (lit< tt) h.number.form.digits))
    ∙ ap (λ (o : Option ℕ). o >>= λ a. few_digits_of 5 part >>= λ b. Some (a * 10 ^ 5 + b * 10 ^ (5 - length part))) (few_read 12 front m h)
    ∙ ap (λ (o : Option ℕ). o >>= λ b. Some (m * 10 ^ 5 + b * 10 ^ (5 - length part))) (few_read 5 part rest k) ∙ ap (λ (a : ℕ). Some a) e

length_first : (text : List ℕ) (n : ℕ) → WritesLength text n → IsInRange 48 57 (get_or text 0 0)
length_first text n (whole m h e) = first_digit text m h.number
length_first text n (pointed front part m rest parts h k e) =
    subst (λ (b : ℕ). IsInRange 48 57 b) (sym (ap (λ (t : List ℕ). get_or t 0 0) parts ∙ get_or_append_left front (46 ∷ part) 0 0 h.number.form.some)) (first_digit front m h.number)

value_written : (word : List ℕ) (v : ℤ) → value_of word ≡ Some v → WritesSigned WritesLength word v
unfolding value_of
value_written word v e = signed_written WritesLength length_of length_written word v e

value_read : (word : List ℕ) (v : ℤ) → WritesSigned WritesLength word v → value_of word ≡ Some v
unfolding value_of
value_read word v h = signed_read WritesLength length_of length_read length_first word v h

-- words that are read as values write them
pub values_written : (ws : List (List ℕ)) (vs : List ℤ) → values_of ws ≡ Some vs → AreValues ws vs
unfolding values_of
values_written [] [] e = tt
values_written [] (v ∷ vs) e = absurd cc
values_written (w ∷ ws) vs e =
    let a = bind_some (value_of w) (λ v. values_of ws >>= λ us. Some (v ∷ us)) vs e in
    let b = bind_some (values_of ws) (λ us. Some (a.0 ∷ us)) vs a.2 in
    subst (λ (us : List ℤ). AreValues (w ∷ ws) us) (same_Some _ _ b.2) (value_written w a.0 a.1, values_written ws b.0 b.1)

-- words that write values are read as them
pub values_read : (ws : List (List ℕ)) (vs : List ℤ) → AreValues ws vs → values_of ws ≡ Some vs
unfolding values_of
values_read [] [] h = refl
values_read [] (v ∷ vs) h = absurd h
values_read (w ∷ ws) [] h = absurd h
values_read (w ∷ ws) (v ∷ vs) h =
    ap (λ (o : Option ℤ). o >>= λ a. values_of ws >>= λ us. Some (a ∷ us)) (value_read w v h.0) ∙ ap (λ (o : Option (List ℤ)). o >>= λ us. Some (v ∷ us)) (values_read ws vs h.1)

-- there is one value for each word
pub values_length : (ws : List (List ℕ)) (vs : List ℤ) → AreValues ws vs → length ws ≡ length vs
values_length [] [] h = refl
values_length [] (v ∷ vs) h = absurd h
values_length (w ∷ ws) [] h = absurd h
values_length (w ∷ ws) (v ∷ vs) h = ap suc (values_length ws vs h.1)

-- ---- zeros

zeros_are : (vs : List ℤ) → list_all is_zero vs ≡ true → vs ≡ replicate (length vs) (pos 0)
zeros_are [] e = refl
zeros_are (pos n ∷ vs) e =
    let p = and_parts (eqb n 0) (list_all is_zero vs) e in
    ap (λ (m : ℕ). pos m ∷ vs) (eqb-true n 0 p.0) ∙ ap (λ (us : List ℤ). pos 0 ∷ us) (zeros_are vs p.1)
zeros_are (negsuc n ∷ vs) e = absurd cc

-- zeros all test as zero
pub all_zero : (k : ℕ) → list_all is_zero (replicate k (pos 0)) ≡ true
all_zero zero = refl
all_zero (suc k) = all_zero k

-- ---- the box

-- three to nine values, of which those after the third are zero, are a box
pub box_written : (text : List ℕ) (vs : List ℤ) → values_of (words text) ≡ Some vs → 3 ≤ length (words text) → length (words text) ≤ 9 → list_all is_zero (drop 3 vs) ≡ true → IsBox text (take 3 vs)
box_written text vs r least most none =
    let are = values_written (words text) vs r in
    let len = values_length (words text) vs are in
    let split : vs ≡ take 3 vs ++ replicate (length (drop 3 vs)) (pos 0) = sym (take-append-drop 3 vs) ∙ ap (λ (us : List ℤ). take 3 vs ++ us) (zeros_are (drop 3 vs) none) in
    record {
      zeros = length (drop 3 vs);
      few = omega (arith, length-drop 3 vs, len, most);
      three = omega (arith, length-take 3 vs, len, least);
      values = subst (λ (us : List ℤ). AreValues (words text) us) split are;
    }

-- three to nine values, of which one after the third isn't zero
pub tilted : (text : List ℕ) (vs : List ℤ) → values_of (words text) ≡ Some vs → 3 ≤ length (words text) → length (words text) ≤ 9 → list_all is_zero (drop 3 vs) ≡ false
    → (values : List ℤ) × HasValues text values × ((zeros : ℕ) → drop 3 values ≡ replicate zeros (pos 0) → ⊥)
tilted text vs r least most other =
    let are = values_written (words text) vs r in
    let len = values_length (words text) vs are in
    (vs, (are, omega (arith, len), omega (arith, len)), λ zeros is. let wrong : false ≡ true = sym other ∙ ap (list_all is_zero) is ∙ all_zero zeros in cc)
