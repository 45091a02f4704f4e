-- Differences round the ring of coordinates.
use Rattle.std.proofs.Common.{◌≡◌, ℕ, ◌+◌, ◌-◌, ◌%◌, ◌^◌, ◌<◌, ◌≤◌, unsigned_abs, inl, inr, arith}
use Rattle.std.proofs.lemmas.Bool.{cases_lt}
use Rattle.std.proofs.lemmas.Bool.Decides.{nat_tests}
use Rattle.ring_box.specs.Places.{difference, signed}

low : (m : ℕ) → m < 2 ^ 31 → unsigned_abs (signed m) ≡ m
low m h = grind (arith, nat_tests)

high : (m : ℕ) → 2 ^ 31 ≤ m → m < 2 ^ 32 → unsigned_abs (signed m) ≡ 2 ^ 32 - m
high m h l = grind (arith, nat_tests)

-- a signed number is at most as far as its pattern either way round
at_most : (m : ℕ) → m < 2 ^ 32 → (unsigned_abs (signed m) ≤ m) × (unsigned_abs (signed m) ≤ 2 ^ 32 - m)
at_most m l = elim (cases_lt m (2 ^ 31)) [
  | inl h ↦ let e = low m h in (omega (arith, e), omega (arith, e, h))
  | inr h ↦ let e = high m h l in (omega (arith, e, h, l), omega (arith, e))
]

-- the way round from z to x is no longer than that over y
pub circle : (x y z : ℕ) → x < 2 ^ 32 → y < 2 ^ 32 → z < 2 ^ 32 → unsigned_abs (difference x z) ≤ unsigned_abs (difference x y) + unsigned_abs (difference y z)
circle x y z p q r =
    let m = (x + (2 ^ 32 - y)) % 2 ^ 32 in
    let n = (y + (2 ^ 32 - z)) % 2 ^ 32 in
    let k = (x + (2 ^ 32 - z)) % 2 ^ 32 in
    let e : k ≡ (m + n) % 2 ^ 32 = omega arith in
    let i : m < 2 ^ 32 = omega arith in
    let j : n < 2 ^ 32 = omega arith in
    let l : k < 2 ^ 32 = omega arith in
    let t = at_most k l in
    elim (cases_lt m (2 ^ 31)) [
      | inl h ↦ let a = low m h in
          elim (cases_lt n (2 ^ 31)) [
            | inl g ↦ let b = low n g in omega (arith, e, i, j, t, a, b, h, g)
            | inr g ↦ let b = high n g j in omega (arith, e, i, j, t, a, b, h, g)
          ]
      | inr h ↦ let a = high m h i in
          elim (cases_lt n (2 ^ 31)) [
            | inl g ↦ let b = low n g in omega (arith, e, i, j, t, a, b, h, g)
            | inr g ↦ let b = high n g j in omega (arith, e, i, j, t, a, b, h, g)
          ]
    ]
