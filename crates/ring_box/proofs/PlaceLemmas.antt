-- Places and minimum images.
use Rattle.std.proofs.Common.{◌≡◌, ℕ, ◌+◌, ◌-◌, ◌*◌, ◌/◌, ◌%◌, ◌^◌, ◌<◌, ◌≤◌, inl, inr, ℤ, pos, negsuc, arith, ap, refl}
use Rattle.std.specs.Prelude.{unsigned_abs, ◌+ℤ◌, ◌-ℤ◌, ◌*ℤ◌, ◌≤ℤ◌, ◌<ℤ◌}
use Rattle.std.proofs.lemmas.Int.{ints}
use Rattle.std.proofs.lemmas.Bool.{cases_lt}
use Rattle.std.proofs.lemmas.Bool.Decides.{nat_tests}
use Rattle.fixed.specs.Rounding.{IsNearest}
use Rattle.ring_box.specs.Places.{IsMinimumImage, IsPlace, IsPlaceOfPm, difference, place_at, signed}

-- a place is below 2^32
pub place_below : (z : ℤ) → place_at z < 2 ^ 32
place_below (pos n) = omega arith
place_below (negsuc n) = omega arith

-- a number is its place and some whole turns of the ring
pub place_and_turns : (z : ℤ) → (turns : ℤ) × (z ≡ pos (place_at z) +ℤ turns *ℤ pos (2 ^ 32))
place_and_turns (pos n) = (pos (n / 2 ^ 32), ap pos (omega arith))
place_and_turns (negsuc n) = (negsuc (n / 2 ^ 32), omega (arith, ints))

-- place_at is the place that is reached by z places
pub place_is : (z : ℤ) (x : ℕ) → x ≡ place_at z → IsPlace z x
place_is z x e = rw e (record { below = place_below z; turned = place_and_turns z })

-- the place of the nearest whole number of places is the place of p picometres
pub place_of_pm_is : (p q : ℤ) (L : ℕ) (z : ℤ) (x : ℕ) → q ≡ p *ℤ pos (100 * 2 ^ 32) → IsNearest q (pos L) z → IsPlace z x → IsPlaceOfPm p L x
place_of_pm_is p q L z x e n h = record { nearest = (z, rw (← e) n, h) }

signed_low : (m : ℕ) → m < 2 ^ 31 → signed m ≡ pos m
signed_low m h = grind (arith, nat_tests)

signed_high : (m : ℕ) → 2 ^ 31 ≤ m → signed m ≡ negsuc (2 ^ 32 - 1 - m)
signed_high m h = grind (arith, nat_tests)

-- m read with a sign is m less some whole turns
signed_is : (m : ℕ) → m < 2 ^ 32 → (negsuc (2 ^ 31 - 1) ≤ℤ signed m) × (signed m <ℤ pos (2 ^ 31)) × ((turns : ℤ) × (pos m ≡ signed m +ℤ turns *ℤ pos (2 ^ 32)))
signed_is m p =
    elim (cases_lt m (2 ^ 31)) [
      | inl h ↦ rw (signed_low m h) (omega (arith, ints), omega (arith, ints), (pos 0, omega (arith, ints)))
      | inr h ↦ rw (signed_high m h) (omega (arith, ints), omega (arith, ints), (pos 1, omega (arith, ints)))
    ]

-- so is the difference modulo 2^32
rest_is : (x y : ℕ) → x < 2 ^ 32 → y < 2 ^ 32 → (turns : ℤ) × (pos x -ℤ pos y ≡ pos ((x + (2 ^ 32 - y)) % 2 ^ 32) +ℤ turns *ℤ pos (2 ^ 32))
rest_is x y p q =
    elim (cases_lt x y) [
      | inl l ↦
          let e : (x + (2 ^ 32 - y)) % 2 ^ 32 ≡ x + (2 ^ 32 - y) = omega arith in
          rw e (negsuc 0, omega (arith, ints))
      | inr g ↦
          let e : (x + (2 ^ 32 - y)) % 2 ^ 32 ≡ x - y = omega arith in
          rw e (pos 0, omega (arith, ints))
    ]

sum_of_turns : (z a b j k : ℤ) → z ≡ a +ℤ j *ℤ pos (2 ^ 32) → a ≡ b +ℤ k *ℤ pos (2 ^ 32) → z ≡ b +ℤ (j +ℤ k) *ℤ pos (2 ^ 32)
sum_of_turns z a b j k e f = omega (arith, ints)

-- difference is the minimum image of two places
pub minimum_image : (x y : ℕ) (d : ℤ) → x < 2 ^ 32 → y < 2 ^ 32 → d ≡ difference x y → IsMinimumImage x y d
minimum_image x y d p q e =
    let s = signed_is ((x + (2 ^ 32 - y)) % 2 ^ 32) (omega arith) in
    let r = rest_is x y p q in
    let t = s.2 in
    rw e
    (record {
      low = s.0;
      high = s.1;
      turned = (r.0 +ℤ t.0, sum_of_turns (pos x -ℤ pos y) (pos ((x + (2 ^ 32 - y)) % 2 ^ 32)) (difference x y) r.0 t.0 r.1 t.1);
    })

-- ---- the other way round

whole_turn : (m n : ℕ) → 0 < m → 0 < n → m + n ≡ 2 ^ 32 → unsigned_abs (signed m) ≡ unsigned_abs (signed n)
whole_turn m n p q e =
    elim (cases_lt m (2 ^ 31)) [
      | inl l ↦ grind (arith, nat_tests)
      | inr g ↦ grind (arith, nat_tests)
    ]

-- a difference is as long the other way round
pub difference_turned : (x y : ℕ) → x < 2 ^ 32 → y < 2 ^ 32 → unsigned_abs (difference x y) ≡ unsigned_abs (difference y x)
difference_turned x y p q =
    elim (cases_lt x y) [
      | inl l ↦
          let e : (x + (2 ^ 32 - y)) % 2 ^ 32 ≡ x + (2 ^ 32 - y) = omega arith in
          let f : (y + (2 ^ 32 - x)) % 2 ^ 32 ≡ y - x = omega arith in
          whole_turn ((x + (2 ^ 32 - y)) % 2 ^ 32) ((y + (2 ^ 32 - x)) % 2 ^ 32) (omega arith) (omega arith) (omega arith)
      | inr g ↦
          elim (cases_lt y x) [
            | inl l ↦
                let e : (x + (2 ^ 32 - y)) % 2 ^ 32 ≡ x - y = omega arith in
                let f : (y + (2 ^ 32 - x)) % 2 ^ 32 ≡ y + (2 ^ 32 - x) = omega arith in
                whole_turn ((x + (2 ^ 32 - y)) % 2 ^ 32) ((y + (2 ^ 32 - x)) % 2 ^ 32) (omega arith) (omega arith) (omega arith)
            | inr h ↦
                let e : x ≡ y = omega arith in
                rw e refl
          ]
    ]
