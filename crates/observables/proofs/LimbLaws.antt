-- Limbs, limb by limb.
use Rattle.std.proofs.Common.{◌≡◌, ℕ, suc, ◌+◌, ◌*◌, ◌^◌, ◌<◌, List, [], ◌∷◌, ◌++◌, length, get_or, set, take, drop, refl, ap, ◌∙◌, arith}
use Rattle.std.proofs.lemmas.Nat.{pow-add, mul-le}
use Rattle.std.proofs.lemmas.List.{take_more, take_more_set, drop_more, drop-set-lt, length-take-le, length-set, get_or-set_same}
use Rattle.observables.specs.Limbs.{limbs_value}

-- the weight of the next limb
pub next_weight : (i : ℕ) → 2 ^ (64 * (i + 1)) ≡ 2 ^ (64 * i) * 2 ^ 64
next_weight i = let e : 64 * (i + 1) ≡ 64 * i + 64 = omega arith in rw (e, pow-add 2 (64 * i) 64) refl

-- appending a limb to a list of n limbs adds 2^(64 n) times the limb to the value
pub limbs_value-push : (limbs : List ℕ) (limb : ℕ) → limbs_value (limbs ++ limb ∷ []) ≡ limbs_value limbs + 2 ^ (64 * length limbs) * limb
limbs_value-push [] limb = omega arith
limbs_value-push (x ∷ limbs) limb =
    let e : 64 * suc (length limbs) ≡ 64 + 64 * length limbs = omega arith in
    rw (limbs_value-push limbs limb, e, pow-add 2 64 (64 * length limbs)) (omega arith)

-- the limbs to i and the next one
pub limbs_more : (limbs : List ℕ) (i : ℕ) → i < length limbs → limbs_value (take (i + 1) limbs) ≡ limbs_value (take i limbs) + 2 ^ (64 * i) * get_or limbs i 0
limbs_more limbs i h =
    let e : length (take i limbs) ≡ i = length-take-le i limbs (omega arith) in
    ap limbs_value (take_more limbs i 0 h) ∙ limbs_value-push (take i limbs) (get_or limbs i 0) ∙ ap (λ (n : ℕ). limbs_value (take i limbs) + 2 ^ (64 * n) * get_or limbs i 0) e

-- after limb i is written, the first i + 1 limbs have the value of the first i plus 2^(64 i) times the limb
pub limbs_written : (limbs : List ℕ) (i limb : ℕ) → i < length limbs → limbs_value (take (i + 1) (set limbs i limb)) ≡ limbs_value (take i limbs) + 2 ^ (64 * i) * limb
limbs_written limbs i limb h =
    let e : length (take i limbs) ≡ i = length-take-le i limbs (omega arith) in
    ap limbs_value (take_more_set limbs i limb h) ∙ limbs_value-push (take i limbs) limb ∙ ap (λ (n : ℕ). limbs_value (take i limbs) + 2 ^ (64 * n) * limb) e

weighed_below : (v limb p : ℕ) → v < p → limb < 2 ^ 64 → v + p * limb < p * 2 ^ 64
weighed_below v limb p h low = omega (arith, h, mul-le p (limb + 1) p (2 ^ 64) (omega arith) (omega arith))

-- limbs to i write a number below their weight
pub written_below : (limbs : List ℕ) (i limb : ℕ) → i < length limbs → limbs_value (take i limbs) < 2 ^ (64 * i) → limb < 2 ^ 64 → limbs_value (take (i + 1) (set limbs i limb)) < 2 ^ (64 * (i + 1))
written_below limbs i limb h v low = rw (limbs_written limbs i limb h, next_weight i) (weighed_below (limbs_value (take i limbs)) limb (2 ^ (64 * i)) v low)

weighed_sum : (v va vb over c limb next x y p : ℕ) → v + over * p ≡ va + vb + c → limb + next * 2 ^ 64 ≡ x + y + over → v + p * limb + next * (p * 2 ^ 64) ≡ va + p * x + (vb + p * y) + c
weighed_sum v va vb over c limb next x y p h e = omega (arith, h, ap (λ (t : ℕ). p * t) e)

-- one more limb of a sum
pub sum_more : (a b sum : List ℕ) (i limb over next c : ℕ) → i < length a → i < length b → i < length sum
    → limbs_value (take i sum) + over * 2 ^ (64 * i) ≡ limbs_value (take i a) + limbs_value (take i b) + c
    → limb + next * 2 ^ 64 ≡ get_or a i 0 + get_or b i 0 + over
    → limbs_value (take (i + 1) (set sum i limb)) + next * 2 ^ (64 * (i + 1)) ≡ limbs_value (take (i + 1) a) + limbs_value (take (i + 1) b) + c
sum_more a b sum i limb over next c ha hb hs h e =
    rw (limbs_written sum i limb hs, limbs_more a i ha, limbs_more b i hb, next_weight i)
    (weighed_sum (limbs_value (take i sum)) (limbs_value (take i a)) (limbs_value (take i b)) over c limb next (get_or a i 0) (get_or b i 0) (2 ^ (64 * i)) h e)

weighed_difference : (v va vb under c limb next x y p : ℕ) → v + vb + c ≡ va + under * p → limb + y + under ≡ x + next * 2 ^ 64 → v + p * limb + (vb + p * y) + c ≡ va + p * x + next * (p * 2 ^ 64)
weighed_difference v va vb under c limb next x y p h e = omega (arith, h, ap (λ (t : ℕ). p * t) e)

-- one more limb of a difference
pub difference_more : (a b rest : List ℕ) (i limb under next c : ℕ) → i < length a → i < length b → i < length rest
    → limbs_value (take i rest) + limbs_value (take i b) + c ≡ limbs_value (take i a) + under * 2 ^ (64 * i)
    → limb + get_or b i 0 + under ≡ get_or a i 0 + next * 2 ^ 64
    → limbs_value (take (i + 1) (set rest i limb)) + limbs_value (take (i + 1) b) + c ≡ limbs_value (take (i + 1) a) + next * 2 ^ (64 * (i + 1))
difference_more a b rest i limb under next c ha hb hs h e =
    rw (limbs_written rest i limb hs, limbs_more a i ha, limbs_more b i hb, next_weight i)
    (weighed_difference (limbs_value (take i rest)) (limbs_value (take i a)) (limbs_value (take i b)) under c limb next (get_or a i 0) (get_or b i 0) (2 ^ (64 * i)) h e)

weighed_product : (v va k over c limb next x p : ℕ) → v + over * p ≡ va * k + c → limb + next * 2 ^ 64 ≡ x * k + over → v + p * limb + next * (p * 2 ^ 64) ≡ (va + p * x) * k + c
weighed_product v va k over c limb next x p h e = omega (arith, h, ap (λ (t : ℕ). p * t) e)

-- one more limb of a product
pub product_more : (a product : List ℕ) (k i limb over next c : ℕ) → i < length a → i < length product
    → limbs_value (take i product) + over * 2 ^ (64 * i) ≡ limbs_value (take i a) * k + c
    → limb + next * 2 ^ 64 ≡ get_or a i 0 * k + over
    → limbs_value (take (i + 1) (set product i limb)) + next * 2 ^ (64 * (i + 1)) ≡ limbs_value (take (i + 1) a) * k + c
product_more a product k i limb over next c ha hs h e =
    rw (limbs_written product i limb hs, limbs_more a i ha, next_weight i)
    (weighed_product (limbs_value (take i product)) (limbs_value (take i a)) k over c limb next (get_or a i 0) (2 ^ (64 * i)) h e)

weighed_quotient : (q a d rest limb next x : ℕ) → q * d + rest ≡ a → limb * d + next ≡ rest * 2 ^ 64 + x → (limb + 2 ^ 64 * q) * d + next ≡ x + 2 ^ 64 * a
weighed_quotient q a d rest limb next x h e = omega (arith, h, e)

-- one more limb of a quotient, from the top
pub quotient_more : (a quotient : List ℕ) (d i limb rest next : ℕ) → i < length a → i < length quotient
    → limbs_value (drop (i + 1) quotient) * d + rest ≡ limbs_value (drop (i + 1) a)
    → limb * d + next ≡ rest * 2 ^ 64 + get_or a i 0
    → limbs_value (drop i (set quotient i limb)) * d + next ≡ limbs_value (drop i a)
quotient_more a quotient d i limb rest next ha hq h e =
    let written : drop i (set quotient i limb) ≡ limb ∷ drop (i + 1) quotient =
    drop_more (set quotient i limb) i 0 (omega (arith, length-set quotient i limb))
    ∙ ap (λ (x : ℕ). x ∷ drop (i + 1) (set quotient i limb)) (get_or-set_same quotient i limb 0 hq)
    ∙ ap (λ (xs : List ℕ). limb ∷ xs) (drop-set-lt (i + 1) quotient i limb (omega arith)) in
    rw (written, drop_more a i 0 ha) (weighed_quotient (limbs_value (drop (i + 1) quotient)) (limbs_value (drop (i + 1) a)) d rest limb next (get_or a i 0) h e)
