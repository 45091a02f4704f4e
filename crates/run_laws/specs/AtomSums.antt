-- Sums over the atoms of a frame.
use Rattle.std.specs.Prelude.{ℕ, zero, suc, ◌+◌, ℤ, pos, ◌+ℤ◌}

-- the sum of an integer per atom, over the n atoms 0 to n - 1
abbrev pub over_atoms : ℕ → (ℕ → ℤ) → ℤ
over_atoms zero f = pos 0
over_atoms (suc n) f = over_atoms n f +ℤ f n

-- the total mass of the n atoms 0 to n - 1
abbrev pub mass_of_atoms : ℕ → (ℕ → ℕ) → ℕ
mass_of_atoms zero mass = 0
mass_of_atoms (suc n) mass = mass_of_atoms n mass + mass n
