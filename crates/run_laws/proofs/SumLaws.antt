-- Sums over atoms.
use Rattle.std.proofs.Common.{◌≡◌, ℕ, zero, suc, ◌+◌, ◌*◌, ◌<◌, ◌≤◌, ℤ, pos, ◌+ℤ◌, ◌-ℤ◌, ◌*ℤ◌, arith, refl, ap, ◌∙◌, inl, inr, true, false, unsigned_abs, ◌==◌, if◌then◌else◌, eq-eqb, ne_eqb}
use Rattle.std.proofs.Math.IntN.{*ℤ_comm, zero-*ℤ}
use Rattle.std.proofs.Math.Nat.{le_of_mul-le-mul_right}
use Rattle.std.proofs.lemmas.Bool.{cases_eq}
use Rattle.std.proofs.lemmas.Int.{ints, unsigned_abs-mul}
use Rattle.fixed.specs.Rounding.{IsNearest}
use Rattle.fixed.proofs.IntegerLaws.{sum_times, times_times}
use Rattle.run_laws.specs.AtomSums.{mass_of_atoms, over_atoms}

-- ---- sums

-- numbers that are equal atom by atom have equal sums
pub over_same : (n : ℕ) (f g : ℕ → ℤ) → ((a : ℕ) → a < n → f a ≡ g a) → over_atoms n f ≡ over_atoms n g
over_same zero f g same = refl
over_same (suc n) f g same =
    let before : over_atoms n f ≡ over_atoms n g = over_same n f g (λ a l. same a (omega (arith, l))) in
    let last : f n ≡ g n = same n (omega arith) in
    rw (before, last) refl

-- the sum of sums is the sum of both
pub over_plus : (n : ℕ) (f g : ℕ → ℤ) → over_atoms n (λ a. f a +ℤ g a) ≡ over_atoms n f +ℤ over_atoms n g
over_plus zero f g = refl
over_plus (suc n) f g =
    let before : over_atoms n (λ a. f a +ℤ g a) ≡ over_atoms n f +ℤ over_atoms n g = over_plus n f g in
    omega (arith, ints, before)

-- the sum of 0 over the atoms is 0
pub over_none : (n : ℕ) → over_atoms n (λ a. pos 0) ≡ pos 0
over_none zero = refl
over_none (suc n) = let before : over_atoms n (λ a. pos 0) ≡ pos 0 = over_none n in omega (arith, ints, before)

-- v for the atom i, and 0 for any other atom
abbrev pub of_one : ℕ → ℤ → ℕ → ℤ
of_one i v a = if i == a then v else pos 0

-- if i isn't among the n atoms, the sum is 0
over_one_past : (n i : ℕ) (v : ℤ) → n ≤ i → over_atoms n (of_one i v) ≡ pos 0
over_one_past n i v h =
    over_same n (of_one i v) (λ a. pos 0) (λ a l. let differs : (i == a) ≡ false = ne_eqb i a (λ e. absurd (omega (arith, e, l, h))) in rw differs refl) ∙ over_none n

-- if i is among the n atoms, the sum is v
pub over_one : (n i : ℕ) (v : ℤ) → i < n → over_atoms n (of_one i v) ≡ v
over_one zero i v h = absurd (omega (arith, h))
over_one (suc n) i v h =
    elim (cases_eq i n) [
      | inl same ↦
          let here : (i == n) ≡ true = eq-eqb i n same in
          let past : over_atoms n (of_one i v) ≡ pos 0 = over_one_past n i v (omega (arith, same)) in
          rw (here, past) (omega (arith, ints))
      | inr other ↦
          let elsewhere : (i == n) ≡ false = ne_eqb i n other in
          let before : over_atoms n (of_one i v) ≡ v = over_one n i v (omega (arith, h, other)) in
          rw (elsewhere, before) (omega (arith, ints))
    ]

-- ---- errors of roundings

plus_within : (x y : ℤ) (b c : ℕ) → unsigned_abs x ≤ b → unsigned_abs y ≤ c → unsigned_abs (x +ℤ y) ≤ b + c
plus_within x y b c h k = omega (arith, ints, h, k)

-- numbers within bounds have a sum within the sum of the bounds
over_within : (n : ℕ) (f : ℕ → ℤ) (bound : ℕ → ℕ) → ((a : ℕ) → a < n → unsigned_abs (f a) ≤ bound a) → unsigned_abs (over_atoms n f) ≤ mass_of_atoms n bound
over_within zero f bound h = omega arith
over_within (suc n) f bound h = plus_within (over_atoms n f) (f n) (mass_of_atoms n bound) (bound n) (over_within n f bound (λ a l. h a (omega (arith, l)))) (h n (omega arith))

-- twice the error is at most the divisor
error_within : (a : ℤ) (b : ℕ) (q : ℤ) → IsNearest a (pos b) q → unsigned_abs (pos 2 *ℤ (a -ℤ q *ℤ pos b)) ≤ b
error_within a b q h =
    let l = h.half_below in
    let u = h.half_above in
    omega (arith, ints, l, u)

masses_times : (n : ℕ) (mass : ℕ → ℕ) (k : ℕ) → mass_of_atoms n (λ a. mass a * k) ≡ mass_of_atoms n mass * k
masses_times zero mass k = omega arith
masses_times (suc n) mass k =
    let before : mass_of_atoms n (λ a. mass a * k) ≡ mass_of_atoms n mass * k = masses_times n mass k in
    omega (arith, before)

one_more : (e s t f d : ℤ) → e ≡ pos 2 *ℤ (s -ℤ t) → e +ℤ pos 2 *ℤ (f -ℤ d) ≡ pos 2 *ℤ ((s +ℤ f) -ℤ (t +ℤ d))
one_more e s t f d h = omega (arith, ints, h)

-- with d the nearest to force * k / (mass * side) of each atom
module _ (k side : ℕ) (mass : ℕ → ℕ) (force d : ℕ → ℤ) where
  -- twice the error of an atom's displacement, in mass times side
  abbrev error : ℕ → ℤ
  error a = pos 2 *ℤ (force a *ℤ pos k -ℤ d a *ℤ pos (mass a * side))

  abbrev moved : ℕ → ℤ
  moved a = pos (mass a) *ℤ d a

  moved_times : (a : ℕ) → moved a *ℤ pos side ≡ d a *ℤ pos (mass a * side)
  moved_times a = ap (λ z. z *ℤ pos side) (*ℤ_comm (pos (mass a)) (d a)) ∙ times_times (d a) (mass a) side

  errors : (n : ℕ) → over_atoms n error ≡ pos 2 *ℤ (over_atoms n force *ℤ pos k -ℤ over_atoms n moved *ℤ pos side)
  errors zero = omega (arith, ints, zero-*ℤ (pos k), zero-*ℤ (pos side))
  errors (suc n) =
      let before : over_atoms n error ≡ pos 2 *ℤ (over_atoms n force *ℤ pos k -ℤ over_atoms n moved *ℤ pos side) = errors n in
      rw (sum_times (over_atoms n force) (force n) k, sum_times (over_atoms n moved) (moved n) side, moved_times n)
      (one_more (over_atoms n error) (over_atoms n force *ℤ pos k) (over_atoms n moved *ℤ pos side) (force n *ℤ pos k) (d n *ℤ pos (mass n * side)) before)

  half_size : (s : ℤ) → unsigned_abs (pos 2 *ℤ (pos 0 -ℤ s)) ≡ 2 * unsigned_abs s
  half_size s = omega (arith, ints)

  -- if the forces sum to zero, twice the sum of mass times displacement is at most the total mass
  pub moved_within : (n : ℕ) → 0 < side → ((a : ℕ) → a < n → IsNearest (force a *ℤ pos k) (pos (mass a * side)) (d a)) → over_atoms n force ≡ pos 0
      → 2 * unsigned_abs (over_atoms n moved) ≤ mass_of_atoms n mass
  moved_within n long nearest balanced =
      let all : unsigned_abs (over_atoms n error) ≤ mass_of_atoms n (λ a. mass a * side) =
      over_within n error (λ a. mass a * side) (λ a l. error_within (force a *ℤ pos k) (mass a * side) (d a) (nearest a l)) in
      let still : over_atoms n force *ℤ pos k ≡ pos 0 = ap (λ z. z *ℤ pos k) balanced ∙ zero-*ℤ (pos k) in
      let size : unsigned_abs (over_atoms n error) ≡ 2 * (unsigned_abs (over_atoms n moved) * side) =
      ap unsigned_abs (errors n) ∙ ap (λ z. unsigned_abs (pos 2 *ℤ (z -ℤ over_atoms n moved *ℤ pos side))) still ∙ half_size (over_atoms n moved *ℤ pos side)
      ∙ ap (λ m. 2 * m) (unsigned_abs-mul (over_atoms n moved) (pos side)) in
      let masses = masses_times n mass side in
      let both : (2 * unsigned_abs (over_atoms n moved)) * side ≤ mass_of_atoms n mass * side = omega (arith, all, size, masses) in
      le_of_mul-le-mul_right both long
