-- Newton's third law for the exact forces, and how closely a step conserves the momentum of the atoms.
use Rattle.std.specs.Prelude.{◌≡◌, ℕ, ◌*◌, ◌<◌, ◌≤◌, ℤ, pos, ◌*ℤ◌, unsigned_abs, List, length, map, slice_index}
use Rattle.fixed.specs.declared.frac.Frac.{Frac}
use Rattle.energy_program.specs.Tree.{Tree}
use Rattle.job.specs.JobText.{IsJobText, limits}
use Rattle.job.specs.Values.{JobValue}
use Rattle.state.specs.StateText.{StateView}
use Rattle.ring_box.specs.declared.vectors.Place3.{Place3}
use Rattle.ring_box.specs.declared.vectors.Vector.{Vector}
use Rattle.integrator.specs.Displacement.{displacement_of}
use Rattle.integrator.specs.Forces.{pairs_of, sum_of_shares}
use Rattle.engine.specs.RunSpecification.{AreTypes, Follows, IsTextOf, box_of, type_at}
use Rattle.run_laws.specs.AtomSums.{mass_of_atoms, over_atoms}

-- ---- Newton's third law

-- the exact forces on n atoms sum to zero along each axis; `force` gives each pair's force on its lower atom
pub record AreBalanced (n : ℕ) (force : ℕ × ℕ → Vector ℤ) : Type 0 where
  pub x : over_atoms n (λ a. (sum_of_shares force (pairs_of n) a).x) ≡ pos 0
  pub y : over_atoms n (λ a. (sum_of_shares force (pairs_of n) a).y) ≡ pos 0
  pub z : over_atoms n (λ a. (sum_of_shares force (pairs_of n) a).z) ≡ pos 0

-- the forces sum to zero whatever the pair forces are
abbrev pub NewtonsThirdLaw : Type 0
NewtonsThirdLaw = (n : ℕ) (force : ℕ × ℕ → Vector ℤ) → AreBalanced n force

-- the forces in a step from two frames to the next sum to zero
abbrev pub StepsAreBalanced : Type 0
StepsAreBalanced =
    (j : JobValue) (tree : Tree) (sides types : List ℕ) (p c next : List Place3)
    (follows : Follows j tree sides types p c next) → AreBalanced (length c) follows.force

-- ---- momentum

-- Momentum is conserved to within rounding, along an axis with the side L. The move of each of n atoms in a step
-- changes by the number of grid units nearest to the exact displacement by its force; twice the sum of mass times
-- displacement has a magnitude of at most the total mass.
abbrev pub IsMomentumKept : Frac → (dt L n : ℕ) → (mass : ℕ → ℕ) → (force : ℕ → ℤ) → Type 0
IsMomentumKept frac dt L n mass force =
    2 * unsigned_abs (over_atoms n (λ a. pos (mass a) *ℤ displacement_of frac (force a) dt (mass a) L)) ≤ mass_of_atoms n mass

-- momentum is conserved to within rounding if the forces sum to zero
abbrev pub BalancedKeepMomentum : Type 0
BalancedKeepMomentum =
    (frac : Frac) (dt L n : ℕ) (mass : ℕ → ℕ) (force : ℕ → ℤ) → 0 < L → ((a : ℕ) → a < n → 0 < mass a)
    → over_atoms n force ≡ pos 0 → IsMomentumKept frac dt L n mass force

-- the mass of an atom of these types
abbrev pub mass_at : JobValue → List ℕ → ℕ → ℕ
mass_at j types a = slice_index (map (λ t. (type_at j t).mass) types) a

-- momentum is conserved to within rounding along each axis
pub record KeepsMomentum (j : JobValue) (sides types : List ℕ) (n : ℕ) (force : ℕ × ℕ → Vector ℤ) : Type 0 where
  pub x : IsMomentumKept j.frac j.time_step (box_of sides).x n (mass_at j types) (λ a. (sum_of_shares force (pairs_of n) a).x)
  pub y : IsMomentumKept j.frac j.time_step (box_of sides).y n (mass_at j types) (λ a. (sum_of_shares force (pairs_of n) a).y)
  pub z : IsMomentumKept j.frac j.time_step (box_of sides).z n (mass_at j types) (λ a. (sum_of_shares force (pairs_of n) a).z)

-- A step from two frames to the next conserves momentum to within half the total mass, in mass times grid units.
abbrev pub StepsKeepMomentum : Type 0
StepsKeepMomentum =
    (j : JobValue) (tree : Tree) (sides types : List ℕ) (p c next : List Place3) (follows : Follows j tree sides types p c next)
    → (0 < (box_of sides).x) × (0 < (box_of sides).y) × (0 < (box_of sides).z)
    → ((a : ℕ) → a < length c → 0 < mass_at j types a) → KeepsMomentum j sides types (length c) follows.force

-- ---- for a job and a state

-- The steps of a state's atoms under a job conserve momentum to within rounding: all masses and sides are positive.
abbrev pub AtomsKeepMomentum : Type 0
AtomsKeepMomentum =
    (job state : List ℕ) (j : JobValue) (tree : Tree) (s : StateView) (types : List ℕ) (p c next : List Place3)
    → IsJobText limits job j → IsTextOf state s → AreTypes j s.atoms types
    → length c ≡ length s.atoms → (follows : Follows j tree s.sides types p c next) → KeepsMomentum j s.sides types (length c) follows.force
