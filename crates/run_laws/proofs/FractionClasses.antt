-- Operations and tests on written fractions give equal results for equal fractions.
use Rattle.std.proofs.Common.{◌≡◌, ℕ, suc, ◌+◌, ◌-◌, ◌*◌, ◌/◌, ◌<◌, ◌≤◌, ◌==◌, Bool, true, false, arith, refl, sym, ap, subst, ◌∙◌}
use Rattle.std.proofs.lemmas.Bool.{eq-eqb, eqb-false, eqb-true, lt-ltb, ltb-false, ltb-true}
use Rattle.std.proofs.lemmas.Nat.{div_below, le-div}
use Rattle.std.proofs.Math.Nat.{le_of_mul-le-mul_right, mul-le-mul_right}
use Rattle.fixed.specs.Roots.{root}
use Rattle.run_laws.specs.WrittenFractions.{Written, IsSame, sum_of, negative_of, product_of, is_nothing, is_below_nothing, reciprocal_of, over_square, is_square, root_of, floor_of}
use Rattle.run_laws.proofs.SquareLaws.{root_of_square, square_from_fraction}

pub same_sum_left : (a b c : Written) → IsSame a b → IsSame (sum_of a c) (sum_of b c)
same_sum_left a b c e = cross a.plus a.minus a.below b.plus b.minus b.below c.plus c.minus c.below e
  where
    cross : (p m d q n f r l g : ℕ) → p * suc f + n * suc d ≡ q * suc d + m * suc f
        → (p * suc g + r * suc d) * suc (f * g + f + g) + (n * suc g + l * suc f) * suc (d * g + d + g)
        ≡ (q * suc g + r * suc f) * suc (d * g + d + g) + (m * suc g + l * suc d) * suc (f * g + f + g)
    cross p m d q n f r l g e =
        let k : ℕ = suc g * suc g in
        let left : (p * suc g + r * suc d) * suc (f * g + f + g) + (n * suc g + l * suc f) * suc (d * g + d + g) ≡ k * (p * suc f + n * suc d) + suc g * (r * suc d * suc f + l * suc f * suc d) = omega arith in
        let right : (q * suc g + r * suc f) * suc (d * g + d + g) + (m * suc g + l * suc d) * suc (f * g + f + g) ≡ k * (q * suc d + m * suc f) + suc g * (r * suc d * suc f + l * suc f * suc d) = omega arith in
        left ∙ ap (λ s. k * s + suc g * (r * suc d * suc f + l * suc f * suc d)) e ∙ sym right

pub same_negative : (a b : Written) → IsSame a b → IsSame (negative_of a) (negative_of b)
same_negative a b e = omega (arith, e)

pub same_product_left : (a b c : Written) → IsSame a b → IsSame (product_of a c) (product_of b c)
same_product_left a b c e = cross a.plus a.minus a.below b.plus b.minus b.below c.plus c.minus c.below e
  where
    cross : (p m d q n f r l g : ℕ) → p * suc f + n * suc d ≡ q * suc d + m * suc f
        → (p * r + m * l) * suc (f * g + f + g) + (q * l + n * r) * suc (d * g + d + g)
        ≡ (q * r + n * l) * suc (d * g + d + g) + (p * l + m * r) * suc (f * g + f + g)
    cross p m d q n f r l g e =
        let left : (p * r + m * l) * suc (f * g + f + g) + (q * l + n * r) * suc (d * g + d + g) ≡ r * suc g * (p * suc f + n * suc d) + l * suc g * (q * suc d + m * suc f) = omega arith in
        let right : (q * r + n * l) * suc (d * g + d + g) + (p * l + m * r) * suc (f * g + f + g) ≡ r * suc g * (q * suc d + m * suc f) + l * suc g * (p * suc f + n * suc d) = omega arith in
        left ∙ ap (λ s. r * suc g * s + l * suc g * (q * suc d + m * suc f)) e ∙ ap (λ s. r * suc g * (q * suc d + m * suc f) + l * suc g * s) (sym e) ∙ sym right

-- two Booleans are equal if each, being true, implies the other
pub alike : (x y : Bool) → (x ≡ true → y ≡ true) → (y ≡ true → x ≡ true) → x ≡ y
alike true true f g = refl
alike true false f g = sym (f refl)
alike false true f g = g refl
alike false false f g = refl

-- if n * (d + 1) = q * (d + 1), then q = n
factor : (q n d : ℕ) → n * suc d ≡ q * suc d → q ≡ n
factor q n d e = grind (arith, e)

crossed : (p m d q n f : ℕ) → p * suc f + n * suc d ≡ q * suc d + m * suc f → p ≡ m → q ≡ n
crossed p m d q n f e is =
    let there : m * suc f + n * suc d ≡ q * suc d + m * suc f = ap (λ s. s * suc f + n * suc d) (sym is) ∙ e in
    factor q n d (omega (arith, there))

less : (p m d q n f : ℕ) → p * suc f + n * suc d ≡ q * suc d + m * suc f → p < m → q < n
less p m d q n f e is =
    let more : ℕ = m - p - 1 in
    let there : m ≡ p + suc more = omega (arith, is) in
    let sums : p * suc f + n * suc d ≡ q * suc d + (p + suc more) * suc f = e ∙ ap (λ s. q * suc d + s * suc f) there in
    let bigger : q * suc d < n * suc d = omega (arith, sums) in
    grind (arith, bigger)

pub same_nothing : (a b : Written) → IsSame a b → is_nothing a ≡ is_nothing b
same_nothing a b e =
    alike (is_nothing a) (is_nothing b)
    (λ t. eq-eqb b.plus b.minus (crossed a.plus a.minus a.below b.plus b.minus b.below e (eqb-true a.plus a.minus t)))
    (λ t. eq-eqb a.plus a.minus (crossed b.plus b.minus b.below a.plus a.minus a.below (sym e) (eqb-true b.plus b.minus t)))

pub same_below_nothing : (a b : Written) → IsSame a b → is_below_nothing a ≡ is_below_nothing b
same_below_nothing a b e =
    alike (is_below_nothing a) (is_below_nothing b)
    (λ t. lt-ltb b.plus b.minus (less a.plus a.minus a.below b.plus b.minus b.below e (ltb-true a.plus a.minus t)))
    (λ t. lt-ltb a.plus a.minus (less b.plus b.minus b.below a.plus a.minus a.below (sym e) (ltb-true b.plus b.minus t)))

-- if two fractions are equal and the first isn't negative, their numerators' cross products are equal
apart : (p m d q n f : ℕ) → p * suc f + n * suc d ≡ q * suc d + m * suc f → m ≤ p → (p - m) * suc f ≡ (q - n) * suc d
apart p m d q n f e some =
    let i : ℕ = p - m in
    let there : p ≡ m + i = omega (arith, some) in
    let sums : (m + i) * suc f + n * suc d ≡ q * suc d + m * suc f = ap (λ s. s * suc f + n * suc d) (sym there) ∙ e in
    let more : i * suc f + n * suc d ≡ q * suc d = omega (arith, sums) in
    let least : n * suc d ≤ q * suc d = omega (arith, more) in
    let above : n ≤ q = grind (arith, least) in
    let j : ℕ = q - n in
    let also : q ≡ n + j = omega (arith, above) in
    let ends : i * suc f + n * suc d ≡ (n + j) * suc d = more ∙ ap (λ s. s * suc d) also in
    omega (arith, ends)

-- equal fractions i / (d + 1) and j / (f + 1), rounded down, are equal
same_quotient : (i j d f : ℕ) → i * suc f ≡ j * suc d → i / suc d ≡ j / suc f
same_quotient i j d f e = omega (arith, least i j d f e, least j i f d (sym e))
  where
    least : (i j d f : ℕ) → i * suc f ≡ j * suc d → i / suc d ≤ j / suc f
    least i j d f e =
        let k : ℕ = i / suc d in
        let whole : k * suc d ≤ i = omega arith in
        let wide : k * suc d * suc f ≤ i * suc f = mul-le-mul_right (suc f) whole in
        let all : k * suc f * suc d ≤ j * suc d = omega (arith, wide, e) in
        let cut : k * suc f ≤ j = le_of_mul-le-mul_right all (omega arith) in
        le-div k j (suc f) (omega arith) cut

-- equal fractions i / (d + 1) and j / (f + 1), rounded up, are equal
same_ceiling : (i j d f : ℕ) → i * suc f ≡ j * suc d → (i + d) / suc d ≡ (j + f) / suc f
same_ceiling i j d f e = omega (arith, least i j d f e, least j i f d (sym e))
  where
    least : (i j d f : ℕ) → i * suc f ≡ j * suc d → (i + d) / suc d ≤ (j + f) / suc f
    least i j d f e = below_all ((j + f) / suc f) (omega arith)
      where
        below_all : (k : ℕ) → j ≤ k * suc f → (i + d) / suc d ≤ k
        below_all k covers =
            let wide : j * suc d ≤ k * suc f * suc d = mul-le-mul_right (suc d) covers in
            let all : i * suc f ≤ k * suc d * suc f = omega (arith, wide, e) in
            let cut : i ≤ k * suc d = le_of_mul-le-mul_right all (omega arith) in
            let below : (i + d) / suc d < suc k = div_below (i + d) (suc d) (suc k) (omega arith) (omega (arith, cut)) in
            omega (arith, below)

-- ---- by cases

pub same_floor : (a b : Written) → IsSame a b → floor_of a ≡ floor_of b
same_floor a b e = by_sign (is_below_nothing a) refl (sym (same_below_nothing a b e))
  where
    by_sign : (x : Bool) → is_below_nothing a ≡ x → is_below_nothing b ≡ is_below_nothing a → floor_of a ≡ floor_of b
    by_sign true ax alike =
        let i : ℕ = a.minus - a.plus in
        let j : ℕ = b.minus - b.plus in
        let turned : i * suc b.below ≡ j * suc a.below = apart a.minus a.plus a.below b.minus b.plus b.below (omega (arith, e)) (omega (arith, ltb-true a.plus a.minus ax)) in
        let same : (i + a.below) / suc a.below ≡ (j + b.below) / suc b.below = same_ceiling i j a.below b.below turned in
        rw (alike, ax, same) refl
    by_sign false ax alike =
        let i : ℕ = a.plus - a.minus in
        let j : ℕ = b.plus - b.minus in
        let there : i * suc b.below ≡ j * suc a.below = apart a.plus a.minus a.below b.plus b.minus b.below e (ltb-false a.plus a.minus ax) in
        let same : i / suc a.below ≡ j / suc b.below = same_quotient i j a.below b.below there in
        rw (alike, ax, same) refl

pub same_reciprocal : (a b : Written) → IsSame a b → IsSame (reciprocal_of a) (reciprocal_of b)
same_reciprocal a b e =
    by_test (is_nothing a) (is_below_nothing a) refl refl (sym (same_nothing a b e)) (sym (same_below_nothing a b e))
  where
    -- the reciprocals of j / d and k / f are equal if j / d and k / f are
    turned : (j k d f : ℕ) → 0 < j → 0 < k → j * suc f ≡ k * suc d → suc d * suc (k - 1) ≡ suc f * suc (j - 1)
    turned j k d f some some' h =
        let first : suc (j - 1) ≡ j = omega (arith, some) in
        let second : suc (k - 1) ≡ k = omega (arith, some') in
        ap (λ s. suc d * s) second ∙ omega (arith, h) ∙ ap (λ s. suc f * s) (sym first)

    by_test : (n x : Bool) → is_nothing a ≡ n → is_below_nothing a ≡ x → is_nothing b ≡ is_nothing a → is_below_nothing b ≡ is_below_nothing a
        → IsSame (reciprocal_of a) (reciprocal_of b)
    by_test true x an ax none below = rw (none, an) refl
    by_test false true an ax none below =
        let less : a.plus < a.minus = ltb-true a.plus a.minus ax in
        let less' : b.plus < b.minus = ltb-true b.plus b.minus (below ∙ ax) in
        let goal = turned (a.minus - a.plus) (b.minus - b.plus) a.below b.below (omega (arith, less)) (omega (arith, less'))
        (apart a.minus a.plus a.below b.minus b.plus b.below (omega (arith, e)) (omega (arith, less))) in
        rw (none, an, below, ax) (omega (arith, goal))
    by_test false false an ax none below =
        let more : a.minus < a.plus = omega (arith, ltb-false a.plus a.minus ax, eqb-false a.plus a.minus an) in
        let more' : b.minus < b.plus = omega (arith, ltb-false b.plus b.minus (below ∙ ax), eqb-false b.plus b.minus (none ∙ an)) in
        let goal = turned (a.plus - a.minus) (b.plus - b.minus) a.below b.below (omega (arith, more)) (omega (arith, more'))
        (apart a.plus a.minus a.below b.plus b.minus b.below e (omega (arith, more))) in
        rw (none, an, below, ax) (omega (arith, goal))

-- a square isn't negative, and its root's square is n d
pub square_parts : (a : Written) → is_square a ≡ true
    → (is_below_nothing a ≡ false) × (root (over_square a) * root (over_square a) ≡ over_square a)
square_parts a t = by_sign (is_below_nothing a) refl
  where
    u : ℕ
    u = root (over_square a)

    by_sign : (x : Bool) → is_below_nothing a ≡ x → (is_below_nothing a ≡ false) × (u * u ≡ over_square a)
    by_sign true ax = let other : is_square a ≡ false = rw ax refl in absurd (cc)
    by_sign false ax =
        let same : is_square a ≡ (u * u == over_square a) = rw ax refl in
        (ax, eqb-true (u * u) (over_square a) (sym same ∙ t))

-- For equal fractions n / d and m / f, and u^2 = n d: m f d^2 = (u f)^2.
crossed_squares : (a b : Written) → IsSame a b → is_square a ≡ true
    → over_square b * suc a.below * suc a.below ≡ (root (over_square a) * suc b.below) * (root (over_square a) * suc b.below)
crossed_squares a b e t =
    let parts = square_parts a t in
    let d : ℕ = suc a.below in
    let f : ℕ = suc b.below in
    let u : ℕ = root (over_square a) in
    let equal : (a.plus - a.minus) * f ≡ (b.plus - b.minus) * d =
    apart a.plus a.minus a.below b.plus b.minus b.below e (ltb-false a.plus a.minus parts.0) in
    turned (a.plus - a.minus) (b.plus - b.minus) d f equal ∙ ap (λ s. s * (f * f)) (sym parts.1) ∙ squared u f
  where
    turned : (i j d f : ℕ) → i * f ≡ j * d → (j * f) * d * d ≡ (i * d) * (f * f)
    turned i j d f e = omega (arith, ap (λ s. s * (f * d)) e)

    squared : (u f : ℕ) → u * u * (f * f) ≡ (u * f) * (u * f)
    squared u f = omega arith

-- equal fractions are both squares, or neither is
pub same_square : (a b : Written) → IsSame a b → is_square a ≡ is_square b
same_square a b e = alike (is_square a) (is_square b) (kept a b e) (kept b a (sym e))
  where
    kept : (a b : Written) → IsSame a b → is_square a ≡ true → is_square b ≡ true
    kept a b e t =
        let other : is_below_nothing b ≡ false = sym (same_below_nothing a b e) ∙ (square_parts a t).0 in
        let v : ℕ = root (over_square b) in
        let is : v * v ≡ over_square b =
        square_from_fraction (over_square b) (suc a.below) (root (over_square a) * suc b.below) (omega arith) (crossed_squares a b e t) in
        rw other (eq-eqb (v * v) (over_square b) is)

-- the roots of equal fractions are equal
pub same_root : (a b : Written) → IsSame a b → IsSame (root_of a) (root_of b)
same_root a b e = by_test (is_square a) refl (sym (same_square a b e))
  where
    by_test : (t : Bool) → is_square a ≡ t → is_square b ≡ is_square a → IsSame (root_of a) (root_of b)
    by_test false at alike = rw (alike, at) refl
    by_test true at alike =
        let d : ℕ = suc a.below in
        let f : ℕ = suc b.below in
        let u : ℕ = root (over_square a) in
        let v : ℕ = root (over_square b) in
        let parts = square_parts b (alike ∙ at) in
        let theirs : over_square b * d * d ≡ (v * d) * (v * d) = ap (λ s. s * d * d) (sym parts.1) ∙ omega arith in
        let squares : (u * f) * (u * f) ≡ (v * d) * (v * d) = sym (crossed_squares a b e at) ∙ theirs in
        let same : u * f ≡ v * d = sym (root_of_square (u * f)) ∙ ap root squares ∙ root_of_square (v * d) in
        rw (alike, at) (omega (arith, same))

-- ---- as the definitions of fractions take them

pub same_floor_of : (a b : Written) → IsSame a b → IsSame (floor_of a) (floor_of b)
same_floor_of a b e = rw (same_floor a b e) refl

-- written fractions with equal fields are equal
pub same_written : (a b : Written) → a.plus ≡ b.plus → a.minus ≡ b.minus → a.below ≡ b.below → a ≡ b
same_written a b plus minus below = λ i. record { plus = plus i; minus = minus i; below = below i }

-- sums and products of written fractions commute
sum_turned : (a b : Written) → sum_of a b ≡ sum_of b a
sum_turned a b = same_written (sum_of a b) (sum_of b a) (omega arith) (omega arith) (omega arith)

product_turned : (a b : Written) → product_of a b ≡ product_of b a
product_turned a b = same_written (product_of a b) (product_of b a) (omega arith) (omega arith) (omega arith)

pub same_sum_right : (a b c : Written) → IsSame b c → IsSame (sum_of a b) (sum_of a c)
same_sum_right a b c e = subst (λ s. IsSame s (sum_of a c)) (sum_turned b a) (subst (IsSame (sum_of b a)) (sum_turned c a) (same_sum_left b c a e))

pub same_product_right : (a b c : Written) → IsSame b c → IsSame (product_of a b) (product_of a c)
same_product_right a b c e = subst (λ s. IsSame s (product_of a c)) (product_turned b a) (subst (IsSame (product_of b a)) (product_turned c a) (same_product_left b c a e))
