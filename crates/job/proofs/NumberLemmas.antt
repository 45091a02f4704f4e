-- Readings of numerals, whole numbers and masses.
use Rattle.std.proofs.Common.{◌≡◌, ℕ, ◌+◌, ◌-◌, ◌*◌, ◌^◌, ◌<◌, ◌≤◌, ◌&&◌, ltb, leb, Bool, true, false, cond, min, List, [], ◌∷◌, ◌++◌, length, Option, Some, None, Ok, Err, option_map, refl, sym, ap, ◌∙◌, arith, append-nil, append_assoc, inl, inr}
use Rattle.std.specs.Str.{all_ascii_digits}
use Rattle.std.specs.Str.Parse.{digits_value}
use Rattle.std.proofs.lemmas.Bool.{cases_lt, le-leb, lt-leb, lt-ltb}
use Rattle.fixed.specs.declared.constants.Constant.{Constant}
use Rattle.fixed.specs.declared.frac.Frac.{Frac}
use Rattle.fixed.specs.declared.faults.NumFault.TheVariants.{BadNumber, NumberRange}
use Rattle.line_text.specs.Columns.{digits_of}
use Rattle.line_text.proofs.WrittenLaws.{digits_written}
use Rattle.line_text.specs.Steps.{◌>>=◌}
use Rattle.job.specs.Numbers.{Reading, both, signed_of, values_of, within, whole_of, mass_from}

-- ---- values

-- the values read so far, or that one of them was out of range
abbrev pub so_far : Bool → List Constant → Reading (List Constant)
so_far true values = Ok values
so_far false values = Err NumberRange

-- values, and then others
abbrev pub and_then : Reading (List Constant) → Reading (List Constant) → Reading (List Constant)
and_then r s = both r s >>= λ x. Ok (x.0 ++ x.1)

value_more : (b : Bool) (values : List Constant) (v : Constant) (r : Reading (List Constant)) → and_then (so_far b (values ++ v ∷ [])) r ≡ and_then (so_far b values) (both (Ok v) r >>= λ x. Ok (x.0 ∷ x.1))
value_more true values v (Ok vs) = ap (λ (l : List Constant). Ok l) (append_assoc values (v ∷ []) vs)
value_more true values v (Err e) = refl
value_more false values v (Ok vs) = refl
value_more false values v (Err BadNumber) = refl
value_more false values v (Err NumberRange) = refl

value_out : (b : Bool) (values : List Constant) (r : Reading (List Constant)) → and_then (so_far false values) r ≡ and_then (so_far b values) (both (Err NumberRange) r >>= λ x. Ok (x.0 ∷ x.1))
value_out true values (Ok vs) = refl
value_out true values (Err BadNumber) = refl
value_out true values (Err NumberRange) = refl
value_out false values (Ok vs) = refl
value_out false values (Err BadNumber) = refl
value_out false values (Err NumberRange) = refl

-- moving one value from the rest to the values so far keeps the result
pub values_push : (frac : Frac) (b : Bool) (values more : List Constant) (v : Constant) (rest ws : List (List ℕ)) (w : List ℕ) (total : Reading (List Constant)) → rest ≡ w ∷ ws → signed_of frac w ≡ Ok v → more ≡ values ++ v ∷ []
    → and_then (so_far b values) (values_of frac rest) ≡ total → and_then (so_far b more) (values_of frac ws) ≡ total
unfolding values_of
values_push frac b values more v rest ws w total e s m h = rw m (value_more b values v (values_of frac ws) ∙ rw (e, s) at h)

-- a value out of range makes the result out of range, unless a malformed value follows
pub values_skip : (frac : Frac) (b : Bool) (values : List Constant) (rest ws : List (List ℕ)) (w : List ℕ) (total : Reading (List Constant)) → rest ≡ w ∷ ws → signed_of frac w ≡ Err NumberRange
    → and_then (so_far b values) (values_of frac rest) ≡ total → and_then (so_far false values) (values_of frac ws) ≡ total
unfolding values_of
values_skip frac b values rest ws w total e s h = value_out b values (values_of frac ws) ∙ rw (e, s) at h

-- a malformed value makes the result malformed
pub values_stop : (frac : Frac) (b : Bool) (values : List Constant) (rest ws : List (List ℕ)) (w : List ℕ) (total : Reading (List Constant)) → rest ≡ w ∷ ws → signed_of frac w ≡ Err BadNumber
    → and_then (so_far b values) (values_of frac rest) ≡ total → Err BadNumber ≡ total
unfolding values_of
values_stop frac true values rest ws w total e s h = rw (e, s) at h
values_stop frac false values rest ws w total e s h = rw (e, s) at h

-- if no word is left, the values so far are the result
pub values_all : (frac : Frac) (b : Bool) (values : List Constant) (rest : List (List ℕ)) (total : Reading (List Constant)) → rest ≡ [] → and_then (so_far b values) (values_of frac rest) ≡ total → so_far b values ≡ total
unfolding values_of
values_all frac true values rest total e h = ap (λ (l : List Constant). Ok l) (sym (append-nil values)) ∙ rw e at h
values_all frac false values rest total e h = rw e at h

-- ---- whole numbers and masses

above_range : (least most n : ℕ) → most < n → within least most n ≡ Err NumberRange
above_range least most n lt = rw (lt-leb n most lt) (at (leb least n))
  where
    at : (b : Bool) → ◌≡◌ {A = Reading ℕ} (cond (b && false) (Ok n) (Err NumberRange)) (Err NumberRange)
    at true = refl
    at false = refl

capped_in : (limit r : ℕ) (o : Option ℕ) → Some r ≡ option_map (λ n. min n limit) o → (n : ℕ) × (o ≡ Some n) × (r ≡ min n limit)
capped_in limit r None e = absurd cc
capped_in limit r (Some n) e = let same : r ≡ min n limit = cc in (n, refl, same)

none_in : (limit : ℕ) (o : Option ℕ) → None ≡ option_map (λ n. min n limit) o → o ≡ None
none_in limit None e = refl
none_in limit (Some n) e = absurd cc

-- the number that digits up to a limit write
digits_in : (limit r : ℕ) (text : List ℕ) → Some r ≡ option_map (λ n. min n limit) (digits_of text) → (all_ascii_digits text ≡ true) × (r ≡ min (digits_value 10 text) limit)
digits_in limit r text e =
    let c = capped_in limit r (digits_of text) e in
    let d = digits_written text c.0 c.1 in
    (d.0, c.2 ∙ ap (λ (n : ℕ). min n limit) (sym d.1))

no_digits : (text : List ℕ) → digits_of text ≡ None → all_ascii_digits text ≡ false
unfolding digits_of
no_digits text e = at (all_ascii_digits text) refl e
  where
    at : (b : Bool) → all_ascii_digits text ≡ b → cond b (Some (digits_value 10 text)) None ≡ None → all_ascii_digits text ≡ false
    at true t d = absurd cc
    at false t d = t

-- the empty word is no whole number
pub whole_empty : (least most : ℕ) (word : List ℕ) → length word ≡ 0 → Err BadNumber ≡ whole_of least most word
unfolding whole_of
whole_empty least most [] e = refl
whole_empty least most (c ∷ cs) e = absurd (omega arith)

-- a word with a byte that is no digit is no whole number
pub whole_bad : (least most limit : ℕ) (word : List ℕ) → None ≡ option_map (λ n. min n limit) (digits_of word) → Err BadNumber ≡ whole_of least most word
unfolding whole_of
whole_bad least most limit word e = rw (no_digits word (none_in limit (digits_of word) e)) (at (ltb 0 (length word)))
  where
    at : (b : Bool) → Err BadNumber ≡ cond (b && false) (within least most (digits_value 10 word)) (Err BadNumber)
    at true = refl
    at false = refl

-- digits that were read up to a limit past the greatest number allowed are read as the whole number
pub whole_is : (least most limit r : ℕ) (word : List ℕ) → limit ≡ most + 1 → (length word ≡ 0 → ⊥) → Some r ≡ option_map (λ n. min n limit) (digits_of word) → within least most r ≡ whole_of least most word
unfolding whole_of
whole_is least most limit r word above some e =
    let d = digits_in limit r word e in
    let n = digits_value 10 word in
    rw (lt-ltb 0 (length word) (omega (arith, some)), d.0, d.1) (
    elim (cases_lt n limit) [
      | inl l ↦ let e : min n limit ≡ n = omega arith in rw e refl
      | inr g ↦ above_range least most (min n limit) (omega arith) ∙ sym (above_range least most n (omega arith))
    ])

-- A mass, if four tests are true: some characters before the point, only digits before it, only digits after it, and
-- few of them after it.
abbrev mass_if : Bool → Bool → Bool → Bool → Reading ℕ → Reading ℕ
mass_if some whole part few mass = cond ((some && whole) && (part && few)) mass (Err BadNumber)

bad_whole : (some part few : Bool) (mass : Reading ℕ) → Err BadNumber ≡ mass_if some false part few mass
bad_whole true part few mass = refl
bad_whole false part few mass = refl

bad_part : (some whole few : Bool) (mass : Reading ℕ) → Err BadNumber ≡ mass_if some whole false few mass
bad_part true true few mass = refl
bad_part true false few mass = refl
bad_part false whole few mass = refl

-- a mass whose digits before the point are malformed is malformed
pub mass_bad_whole : (limit : ℕ) (whole part : List ℕ) → None ≡ option_map (λ n. min n limit) (digits_of whole) → Err BadNumber ≡ mass_from whole part
mass_bad_whole limit whole part e = rw (no_digits whole (none_in limit (digits_of whole) e)) (bad_whole (ltb 0 (length whole)) (all_ascii_digits part) (leb (length part) 5) _)

-- a mass whose digits after the point are malformed is malformed
pub mass_bad_part : (whole part : List ℕ) → None ≡ digits_of part → Err BadNumber ≡ mass_from whole part
mass_bad_part whole part e = rw (no_digits part (sym e)) (bad_part (ltb 0 (length whole)) (all_ascii_digits whole) (leb (length part) 5) _)

mass_capped : (w f : ℕ) → within 1 100000000 (min w 1001 * 100000 + f) ≡ within 1 100000000 (w * 100000 + f)
mass_capped w f =
    elim (cases_lt w 1001) [
      | inl l ↦ let e : min w 1001 ≡ w = omega arith in rw e refl
      | inr g ↦ above_range 1 100000000 (min w 1001 * 100000 + f) (omega arith) ∙ sym (above_range 1 100000000 (w * 100000 + f) (omega arith))
    ]

-- a mass is read from its digits before the point, capped at 1001, above the greatest mass, and its digits after it
pub mass_is : (whole part : List ℕ) (w d k : ℕ) → (length whole ≡ 0 → ⊥) → length part ≤ 5 → Some w ≡ option_map (λ n. min n 1001) (digits_of whole) → Some d ≡ digits_of part → k ≡ 10 ^ (5 - length part)
    → within 1 100000000 (w * 100000 + d * k) ≡ mass_from whole part
mass_is whole part w d k some few ew ed ek =
    let u = digits_in 1001 w whole ew in
    let v = digits_written part d (sym ed) in
    rw (lt-ltb 0 (length whole) (omega (arith, some)), u.0, v.0, le-leb (length part) 5 few, u.1, v.1, ek) (mass_capped (digits_value 10 whole) (d * 10 ^ (5 - length part)))
