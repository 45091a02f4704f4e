-- A natural number that is the square of a fraction is a square.
use Rattle.std.proofs.Common.{◌≡◌, ℕ, zero, suc, ◌+◌, ◌-◌, ◌*◌, ◌/◌, ◌%◌, ◌<◌, ◌≤◌, arith, refl, sym, ap, ◌∙◌}
use Rattle.std.proofs.Math.Nat.{div-add-mod, mod-lt, mul-le-mul_right, le_of_mul-le-mul_right}
use Rattle.std.proofs.lemmas.Nat.{mul-le}
use Rattle.fixed.specs.Roots.{root}
use Rattle.fixed.proofs.RootLemmas.{root_from_squares}

-- the root of a square
pub root_of_square : (u : ℕ) → root (u * u) ≡ u
root_of_square u = sym (root_from_squares (u * u) u (omega arith) (omega arith))

-- if x d^2 = y d^2 and d isn't 0, then x = y
square_cancels : (x y d : ℕ) → 0 < d → x * (d * d) ≡ y * (d * d) → x ≡ y
square_cancels x y d some e =
    let wide : 0 < d * d = mul-le 1 1 d d some some in
    let low : x ≤ y = le_of_mul-le-mul_right (omega (arith, e)) wide in
    let high : y ≤ x = le_of_mul-le-mul_right (omega (arith, e)) wide in
    omega (arith, low, high)

-- if n d^2 = t^2 and t = k d, then n = k^2
exactly : (n d t k : ℕ) → 0 < d → n * d * d ≡ t * t → t ≡ k * d → k * k ≡ n
exactly n d t k some e is =
    let squares : t * t ≡ (k * d) * (k * d) = ap (λ s. s * s) is in
    square_cancels (k * k) n d some (omega (arith, e, squares))

-- If n d^2 = t^2, and t / d and n d / t are k with the rests r and s, then n r^2 = s^2.
smaller : (n d t k r s : ℕ) → 0 < d → n * d * d ≡ t * t → t ≡ k * d + r → n * d ≡ k * t + s → n * r * r ≡ s * s
smaller n d t k r s some e is there =
    let wide : n * d * d ≡ (k * t + s) * d = ap (λ x. x * d) there in
    let squares : t * t ≡ t * (k * d + r) = ap (λ x. t * x) is in
    let rests : s * d ≡ r * t = omega (arith, wide, squares, e) in
    let both : (s * d) * (s * d) ≡ (r * t) * (r * t) = ap (λ x. x * x) rests in
    let inside : r * r * (n * d * d) ≡ r * r * (t * t) = ap (λ x. r * r * x) e in
    square_cancels (n * r * r) (s * s) d some (omega (arith, both, inside))

-- If n d^2 = t^2, some natural number's square is n: else n r^2 = s^2 for ever smaller r.
root_there : (fuel n d t : ℕ) → d ≤ fuel → 0 < d → n * d * d ≡ t * t → (u : ℕ) × (u * u ≡ n)
root_there zero n d t enough some e = absurd (omega (arith, enough, some))
root_there (suc fuel) n d t enough some e = by_rest (λ r s. root_there fuel n r s) (t % d) refl
  where
    k : ℕ
    k = t / d

    apart : t ≡ k * d + t % d
    apart = omega (arith, div-add-mod t d)

    least : k * t ≤ n * d
    least =
        let low : k * d ≤ t = omega (arith, apart) in
        let wide : k * d * t ≤ t * t = mul-le-mul_right t low in
        le_of_mul-le-mul_right (omega (arith, wide, e)) some

    by_rest : ((r s : ℕ) → r ≤ fuel → 0 < r → n * r * r ≡ s * s → (u : ℕ) × (u * u ≡ n)) → (r : ℕ) → t % d ≡ r
        → (u : ℕ) × (u * u ≡ n)
    by_rest again zero none = (k, exactly n d t k some e (omega (arith, apart, none)))
    by_rest again (suc r) is =
        let less : t % d < d = mod-lt t some in
        let next : n * suc r * suc r ≡ (n * d - k * t) * (n * d - k * t) =
        smaller n d t k (suc r) (n * d - k * t) some e (omega (arith, apart, is)) (omega (arith, least)) in
        again (suc r) (n * d - k * t) (omega (arith, less, is, enough)) (omega arith) next

-- a natural number that is the square of a fraction t / d is the square of its root
pub square_from_fraction : (n d t : ℕ) → 0 < d → n * d * d ≡ t * t → root n * root n ≡ n
square_from_fraction n d t some e =
    let there = root_there d n d t (omega arith) some e in
    let same : root n ≡ there.0 = ap root (sym there.1) ∙ root_of_square there.0 in
    ap (λ s. s * s) same ∙ there.1
