-- Observables of a state, as exact fractions. Units: masses are in 10^-5 u, sides in 10^-5 nm, a grid unit is
-- side/2^32, and the time step dt is in fs = 10^-3 ps. Energies, forces and distances have the fraction bits of the
-- job. 1 u nm^2/ps^2 is 1 kJ/mol (GROMACS manual, Definitions and Units).
use Rattle.std.specs.Prelude.{ℕ, ℤ, pos, ◌+◌, ◌-◌, ◌*◌, ◌^◌, ◌+ℤ◌, ◌*ℤ◌, nat_lt, if◌then◌else◌, Option, Some, None}
use Rattle.std.specs.Option.{option_map}
use Rattle.fixed.specs.Fractions.{bits_of}
use Rattle.fixed.specs.declared.frac.Frac.{Frac}
use Rattle.ring_box.specs.Distances.{distance_at}
use Rattle.ring_box.specs.declared.boxes.RingBox.{RingBox}
use Rattle.observables.specs.Ratios.{Ratio, plus, ratio, times, over}
use Rattle.ring_box.specs.Axes.{component_along, side_along}
use Rattle.ring_box.specs.declared.vectors.Axis.{Axis}
use Rattle.ring_box.specs.declared.vectors.Axis.TheVariants.{X, Y, Z}
use Rattle.ring_box.specs.declared.vectors.Vector.{Vector}
use Rattle.observables.specs.declared.observations.Observation.{Observation}
use Rattle.observables.specs.declared.scales.Scales.{Scales}

-- ---- energies in kJ/mol

-- the sum over the axes of a square in grid units times the square of the side
abbrev pub square_lengths : RingBox → Vector ℕ → ℕ
square_lengths ring n = n.x * (ring.x * ring.x) + n.y * (ring.y * ring.y) + n.z * (ring.z * ring.z)

-- The mean of two kinetic energies, each a sum of m v^2 / 2, is a quarter of both sums of m v^2: hence 4. Units: 10^-5
-- u (10^-5 nm)^2 / fs^2 is 10^-9 kJ/mol, and a grid unit is side/2^32.
abbrev pub kinetic_unit : ℕ → ℕ
kinetic_unit dt = 4 * 10 ^ 9 * 2 ^ 64 * (dt * dt)

-- the mean of the kinetic energies of the steps before and after this frame, as usual with leap-frog velocities
abbrev pub kinetic_energy : Scales → Observation → Ratio
kinetic_energy s o = record { numerator = pos (square_lengths s.ring o.squares); denominator = kinetic_unit s.time_step }

-- the potential energy
abbrev pub potential_energy : Scales → Observation → Ratio
potential_energy s o = record { numerator = o.pairs.energy; denominator = 2 ^ bits_of s.frac }

-- the sum of the potential and the kinetic energy
abbrev pub total_energy : Scales → Observation → Ratio
total_energy s o = plus (potential_energy s o) (kinetic_energy s o)

-- ---- temperature in K

-- The degrees of freedom: three per atom, minus three for the motion of the center of mass. The kinetic energy includes
-- that motion, and rounding changes the total momentum, so atoms with a common drift have a temperature too.
abbrev pub degrees_of_freedom : ℕ → ℕ
degrees_of_freedom atoms = 3 * atoms - 3

-- Boltzmann's constant in 10^-17 kJ/mol/K, exact (SI 2019)
abbrev pub boltzmann : ℕ
boltzmann = 831446261815324

-- twice the kinetic energy divided by the degrees of freedom and by k_B; None for fewer than two atoms
abbrev pub temperature : Scales → Observation → Option Ratio
temperature s o =
    if nat_lt s.atoms 2 then None
    else Some (over (times (kinetic_energy s o) (2 * 10 ^ 17)) (degrees_of_freedom s.atoms * boltzmann))

-- ---- pressure in bar

-- the sum over the axes of a length in grid units times the side
abbrev pub lengths : RingBox → Vector ℤ → ℤ
lengths ring n = n.x *ℤ pos ring.x +ℤ n.y *ℤ pos ring.y +ℤ n.z *ℤ pos ring.z

-- the denominator of the virial, for sides in 10^-5 nm, displacements in grid units and forces in 2^-bits kJ/mol/nm
abbrev pub virial_unit : Scales → ℕ
virial_unit s = 10 ^ 5 * 2 ^ 32 * 2 ^ bits_of s.frac

-- the diagonal of a tensor
abbrev pub diagonal : {N : Type 0} → Vector (Vector N) → Vector N
diagonal v = record { x = v.x.x; y = v.y.y; z = v.z.z }

-- the sum over pairs of force times separation, in kJ/mol
abbrev pub virial : Scales → Observation → Ratio
virial s o = record { numerator = lengths s.ring (diagonal o.pairs.sums.virial); denominator = virial_unit s }

-- the volume in 10^-15 nm^3
abbrev pub volume : RingBox → ℕ
volume ring = ring.x * ring.y * ring.z

-- the sum of twice a kinetic energy and a virial, divided by a volume; 1 kJ/mol/nm^3 is 10^10 / 602214076 bar, exactly
-- (SI 2019)
abbrev pub pressure_of : Ratio → Ratio → ℕ → Ratio
pressure_of kinetic virial volume = over (times (plus (times kinetic 2) virial) (10 ^ 15 * 10 ^ 10)) (volume * 602214076)

-- the sum of twice the kinetic energy and the virial, divided by three times the volume
abbrev pub pressure : Scales → Observation → Ratio
pressure s o = pressure_of (kinetic_energy s o) (virial s o) (3 * volume s.ring)

-- ---- pressure tensor in bar (GROMACS manual, Pressure and virial): its components along two axes a and b

-- the sum of mass times the product of the displacements along both axes
abbrev pub products_of : Axis → Axis → Observation → ℤ
products_of X X o = pos o.squares.x
products_of Y Y o = pos o.squares.y
products_of Z Z o = pos o.squares.z
products_of Y Z o = o.products.x
products_of Z Y o = o.products.x
products_of Z X o = o.products.y
products_of X Z o = o.products.y
products_of X Y o = o.products.z
products_of Y X o = o.products.z

-- the mean over the steps before and after this frame of the sum of m v_a v_b / 2; the trace is the kinetic energy
abbrev pub kinetic_tensor : Axis → Axis → Scales → Observation → Ratio
kinetic_tensor a b s o =
    ratio (products_of a b o *ℤ pos (side_along a s.ring) *ℤ pos (side_along b s.ring)) (kinetic_unit s.time_step)

-- the sum over pairs of the force along a times the separation along b, in grid units times the side
abbrev pub virial_on : Axis → Axis → Scales → Observation → ℤ
virial_on a b s o = component_along b (component_along a o.pairs.sums.virial) *ℤ pos (side_along b s.ring)

-- The sum over pairs of force times separation, in kJ/mol: the mean of force along a times separation along b, and of
-- force along b times separation along a. They differ, since each component of a force is rounded. The trace is the
-- virial.
abbrev pub virial_tensor : Axis → Axis → Scales → Observation → Ratio
virial_tensor a b s o = ratio (virial_on a b s o +ℤ virial_on b a s o) (virial_unit s * 2)

-- the sum of twice the kinetic energy and the virial along both axes, divided by the volume
abbrev pub pressure_tensor : Axis → Axis → Scales → Observation → Ratio
pressure_tensor a b s o = pressure_of (kinetic_tensor a b s o) (virial_tensor a b s o) (volume s.ring)

-- ---- momentum in u nm/ps along a side, in the step before this frame

-- the denominator of a momentum; 10^-5 u times 10^-5 nm / fs is 10^-7 u nm/ps
abbrev pub momentum_unit : ℕ → ℕ
momentum_unit dt = 10 ^ 7 * 2 ^ 32 * dt

-- the momentum along a side, from the sum of masses times displacements
abbrev pub momentum : Scales → ℕ → ℤ → Ratio
momentum s side moment = record { numerator = moment *ℤ pos side; denominator = momentum_unit s.time_step }

-- ---- the least distance of an interacting pair, in nm

-- a distance
abbrev pub distance : Scales → ℤ → Ratio
distance s r = record { numerator = r; denominator = 2 ^ bits_of s.frac }

-- the distance whose square is the least, rounded down, in 2^-bits nm; None if there is none
abbrev pub nearest_at : Frac → Option ℕ → Option ℤ
nearest_at frac square = option_map (λ q. pos (distance_at frac q)) square

-- the least distance of an interacting pair in 2^-bits nm; None if no pair interacts
abbrev pub nearest_in_bits : Scales → Observation → Option ℤ
nearest_in_bits s o = nearest_at s.frac o.pairs.sums.nearest

-- the least distance of an interacting pair; None if no pair interacts
abbrev pub nearest_distance : Scales → Observation → Option Ratio
nearest_distance s o = option_map (distance s) (nearest_in_bits s o)

-- ---- time in fs

-- the time: the step counter times the time step
abbrev pub time : Scales → Observation → ℤ
time s o = o.step *ℤ pos s.time_step
