-- Frames of n atoms are finitely many: each has a distinct number below 2^(96 n).
use Rattle.std.proofs.Common.{◌≡◌, ℕ, suc, ◌+◌, ◌*◌, ◌/◌, ◌%◌, ◌^◌, ◌<◌, ◌≤◌, List, [], ◌∷◌, length, arith, refl, ap, sym, ◌∙◌}
use Rattle.std.specs.List.{All}
use Rattle.std.proofs.lemmas.List.Elements.{All-head, All-tail}
use Rattle.std.proofs.lemmas.Nat.{div-mul-add, mod-mul-add, mul-le, pow-add}
use Rattle.ring_box.specs.Places.{ArePlaces}
use Rattle.ring_box.specs.declared.vectors.Place3.{Place3}

-- ---- digits

-- digits are unique: if b * base + a = b' * base + a' with a and a' below the base, then a = a' and b = b'
digits_apart : (base a b a' b' : ℕ) → a < base → a' < base → b * base + a ≡ b' * base + a' → (a ≡ a') × (b ≡ b')
digits_apart base a b a' b' l l' e =
    (sym (mod-mul-add b base a l) ∙ ap (λ n. n % base) e ∙ mod-mul-add b' base a' l', sym (div-mul-add b base a l) ∙ ap (λ n. n / base) e ∙ div-mul-add b' base a' l')

-- if a is below the base and b is below top, b * base + a is below top * base
digits_below : (base top a b : ℕ) → a < base → b < top → b * base + a < top * base
digits_below base top a b l h =
    let most : suc b * base ≤ top * base = mul-le (suc b) base top base (omega (arith, h)) (omega arith) in
    omega (arith, most, l)

-- ---- places

place_number : Place3 → ℕ
place_number p = (p.z * 2 ^ 32 + p.y) * 2 ^ 32 + p.x

place_below : (p : Place3) → ArePlaces p → place_number p < 2 ^ 96
unfolding place_number
place_below p h =
    let x = h.x in
    let y = h.y in
    let z = h.z in
    omega (arith, x, y, z)

place_apart : (p q : Place3) → ArePlaces p → ArePlaces q → place_number p ≡ place_number q → p ≡ q
unfolding place_number
place_apart p q h k e =
    let first = digits_apart (2 ^ 32) p.x (p.z * 2 ^ 32 + p.y) q.x (q.z * 2 ^ 32 + q.y) h.x k.x e in
    let second = digits_apart (2 ^ 32) p.y p.z q.y q.z h.y k.y first.1 in
    rw (first.0, second.0, second.1) refl

-- ---- frames

frame_number : List Place3 → ℕ
frame_number [] = 0
frame_number (p ∷ f) = frame_number f * 2 ^ 96 + place_number p

frame_below : (f : List Place3) → All ArePlaces f → frame_number f < 2 ^ (96 * length f)
unfolding frame_number
frame_below [] h = omega arith
frame_below (p ∷ f) h =
    let b = digits_below (2 ^ 96) (2 ^ (96 * length f)) (place_number p) (frame_number f) (place_below p (All-head ArePlaces p f h)) (frame_below f (All-tail ArePlaces p f h)) in
    let e : 96 * suc (length f) ≡ 96 * length f + 96 = omega arith in
    let more : 2 ^ (96 * suc (length f)) ≡ 2 ^ (96 * length f) * 2 ^ 96 = ap (λ m. 2 ^ m) e ∙ pow-add 2 (96 * length f) 96 in
    omega (arith, b, more)

frame_apart : (f g : List Place3) → length f ≡ length g → All ArePlaces f → All ArePlaces g → frame_number f ≡ frame_number g → f ≡ g
unfolding frame_number
frame_apart [] [] same h k e = refl
frame_apart [] (q ∷ g) same h k e = absurd (omega (arith, same))
frame_apart (p ∷ f) [] same h k e = absurd (omega (arith, same))
frame_apart (p ∷ f) (q ∷ g) same h k e =
    let hp = All-head ArePlaces p f h in
    let kq = All-head ArePlaces q g k in
    let d = digits_apart (2 ^ 96) (place_number p) (frame_number f) (place_number q) (frame_number g) (place_below p hp) (place_below q kq) e in
    let first : p ≡ q = place_apart p q hp kq d.0 in
    let rest : f ≡ g = frame_apart f g (omega (arith, same)) (All-tail ArePlaces p f h) (All-tail ArePlaces q g k) d.1 in
    rw (first, rest) refl

-- ---- two frames

-- the number of two frames of n atoms
pub pair_number : ℕ → List Place3 → List Place3 → ℕ
pair_number n p c = frame_number p * 2 ^ (96 * n) + frame_number c

-- the number of two frames of n atoms is below 2^(96 n) * 2^(96 n)
pub pair_below : (n : ℕ) (p c : List Place3) → length p ≡ n → length c ≡ n → All ArePlaces p → All ArePlaces c → pair_number n p c < 2 ^ (96 * n) * 2 ^ (96 * n)
unfolding pair_number
pair_below n p c lp lc hp hc =
    let a = rw lc at (frame_below c hc) in
    let b = rw lp at (frame_below p hp) in
    digits_below (2 ^ (96 * n)) (2 ^ (96 * n)) (frame_number c) (frame_number p) a b

-- if two pairs of frames of n atoms have equal numbers, the pairs are equal
pub pair_apart : (n : ℕ) (p c q e : List Place3) → length p ≡ n → length c ≡ n → length q ≡ n → length e ≡ n → All ArePlaces p → All ArePlaces c → All ArePlaces q → All ArePlaces e
    → pair_number n p c ≡ pair_number n q e → (p ≡ q) × (c ≡ e)
unfolding pair_number
pair_apart n p c q e lp lc lq le hp hc hq he same =
    let a = rw lc at (frame_below c hc) in
    let b = rw le at (frame_below e he) in
    let d = digits_apart (2 ^ (96 * n)) (frame_number c) (frame_number p) (frame_number e) (frame_number q) a b same in
    (frame_apart p q (lp ∙ sym lq) hp hq d.1, frame_apart c e (lc ∙ sym le) hc he d.0)
