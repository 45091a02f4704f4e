-- The Levesque-Verlet step of one coordinate (Levesque and Verlet 1993, J. Stat. Phys. 72, 519): x(t + 1) = 2 x(t) -
-- x(t - 1) + d(x(t)), in grid coordinates modulo 2^32.
use Rattle.std.specs.Prelude.{ℕ, ℤ, pos, ◌*◌, ◌^◌, ◌+ℤ◌, ◌-ℤ◌, ◌*ℤ◌}
use Rattle.fixed.specs.Fractions.{bits_of}
use Rattle.fixed.specs.Rounding.{nearest_of}
use Rattle.fixed.specs.declared.frac.Frac.{Frac}
use Rattle.fixed.specs.declared.frac.Frac.TheVariants.{F24, F32, F40}
use Rattle.ring_box.specs.Places.{place_at}

-- The displacement by the force F, in grid units: the integer nearest to F dt^2 10^4 2^32 / (m L 2^bits). The time step
-- dt is in fs, the mass m in 10^-5 u, the side L in 10^-5 nm, and F in 2^-bits kJ/mol/nm.
abbrev pub displacement_of : Frac → ℤ → ℕ → ℕ → ℕ → ℤ
displacement_of frac F dt m L = nearest_of (F *ℤ pos (dt * dt * 10000 * 2 ^ 32)) (pos (m * L * 2 ^ bits_of frac))

-- The grid coordinate after p and c, if d is the displacement at c. The same rule gives the coordinate before c and p.
abbrev pub next_place_of : ℕ → ℕ → ℤ → ℕ
next_place_of p c d = place_at (pos (2 * c) -ℤ pos p +ℤ d)

-- the quotient 2^32 / 2^bits in lowest terms: its numerator, and its denominator below
abbrev pub factor_above : Frac → ℕ
factor_above F24 = 256
factor_above F32 = 1
factor_above F40 = 1

abbrev pub factor_below : Frac → ℕ
factor_below F24 = 1
factor_below F32 = 1
factor_below F40 = 256
