-- Rounding up to three digits: units that grow by powers of ten.
use Rattle.std.proofs.Common.{◌≡◌, ℕ, ◌+◌, ◌*◌, ◌^◌, ◌<◌, ◌≤◌, ap, arith, inl, inr, pow_mono}
use Rattle.std.proofs.lemmas.Bool.{cases_lt}
use Rattle.std.proofs.lemmas.Grind.{pow_more}

-- a unit that is at least 2^e and below 2^115 leaves few exponents
pub few_exponents : (e u : ℕ) → 2 ^ e ≤ u → u < 2 ^ 115 → e < 115
few_exponents e u h b = elim (cases_lt e 115) [
  | inl l ↦ l
  | inr g ↦ let m : 2 ^ 115 ≤ 2 ^ e = pow_mono g in absurd (omega arith)
]

-- ten times a unit is the unit of the next exponent
pub next_unit : (e d u : ℕ) → u ≡ 10 ^ e * d → u * 10 ≡ 10 ^ (e + 1) * d
next_unit e d u is = omega (arith, is, ap (λ p. p * d) (pow_more 10 e))

-- ten times a unit is at least the next power of two
pub next_power : (e u : ℕ) → 2 ^ e ≤ u → 2 ^ (e + 1) ≤ u * 10
next_power e u h = omega (arith, h, pow_more 2 e)

-- the units so far are too small
pub next_least : (e d u n : ℕ) → u ≡ 10 ^ e * d → 999 * u < n → ((h : ℕ) → h < e → 999 * (10 ^ h * d) < n)
    → (h : ℕ) → h < e + 1 → 999 * (10 ^ h * d) < n
next_least e d u n is more least h below = elim (cases_lt h e) [
  | inl l ↦ least h l
  | inr g ↦ let same : h ≡ e = omega arith in omega (arith, more, is, ap (λ k. 999 * (10 ^ k * d)) same)
]
