-- The run specification on one page: `IsLevesqueVerletRun` relates a job's text, a state's text, a direction and a
-- number of steps to the text of a run. It consists of relations; the page names no code, no machine and no order of
-- work.
--
-- It depends on the texts of jobs, energies and states (`IsJobText`, `IsEnergy`, `state_text`), on the table of
-- derivatives (`slope_of`), on the geometry of a periodic box, and on the step of one coordinate; it depends on no
-- reader. MODEL lists the files below it in the order of reading. Some functions below return Ok with a value or Err
-- with a fault: the operations on numbers, and `source_meaning` for the meanings of the definitions of an energy. The
-- page uses the value.
--
-- Units. A grid coordinate is an integer below 2^32, and each side has 2^32 grid units. Sides are in 10^-5 nm, masses
-- in 10^-5 u, the time step is in fs. Energies are in kJ/mol and distances in nm, each with `bits` fraction bits (24,
-- 32 or 40, as the job declares): an integer z represents z / 2^bits. So derivatives and forces are in 2^-bits
-- kJ/mol/nm, and core and cutoff in 2^-bits nm.
--
-- Letters. `pair` is two atoms, the lower first, and i one atom; p, c and n are the previous, the current and the next
-- frame; a and b are positions, v a force, m a mass, r a distance; j is a job and s a state. k counts steps and t
-- frames; `number` is a type's. Atoms, types and frames are numbered from 0.
--
-- Declared with the code: a Direction is Forward or Back; a Frac is F24, F32 or F40, and `bits_of` gives its 24, 32 or
-- 40; a RingBox has three sides, x, y and z, a Place3 a grid coordinate on each axis, and a Vector its component on
-- each. A Constant is the number that was read, `value`, with bounds on its error of reading, which no run depends on.
-- `pos n` is the integer n, `negsuc n` is -(n + 1), and `suc n` is n + 1.
--
-- "No text". The page relates no text to a pair of texts that aren't a job's and a state's, or that don't fit each
-- other. It relates none if the derivative for a pair on the way has no value, or if the counter would leave 64 bits.
-- If two things are wrong, the page doesn't say which is reported. The program rejects more than the page: a derivative
-- that is too large for a program and its code, code that fails or may fail at a distance that no pair of this run
-- reaches (V2, V3), and forces that might not fit 64 bits (A3).
--
-- Look-ups have defaults, since they are total: `slice_index xs i` is 0 and `slice_index_or xs i d` is d if xs ends
-- before i. In a run no default is reached: a state has three sides and a position for each atom in both frames, each
-- later frame has the same number of positions, and each atom has a type, which is a type of the job.
use Rattle.std.specs.Prelude.{◌≡◌, ◌≤◌, ◌<◌, ℕ, suc, ◌*◌, ◌^◌, ℤ, pos, neg_ℤ, ◌+ℤ◌, ◌-ℤ◌, unsigned_abs, false, List, [], ◌∷◌, ◌++◌, length, map, slice_index, slice_index_or, Some, None}
use Rattle.std.specs.List.{All}
use Rattle.fixed.specs.Fractions.{bits_of}
use Rattle.fixed.specs.declared.constants.Constant.{Constant}
use Rattle.energy_program.specs.Names.{is_reserved, parameters_and_globals, variables_of}
use Rattle.energy_program.specs.Tree.{Tree}
use Rattle.expr.specs.Energy.{IsEnergy}
use Rattle.derivative.specs.Slope.{slope_of}
use Rattle.job.specs.JobText.{AreApart, IsJobText, limits}
use Rattle.job.specs.Values.{JobValue, TypeValue}
use Rattle.state.specs.StateText.{AtomView, IsState, StateView, state_text}
use Rattle.fallible.specs.Out.{Output, Appends}
use Rattle.ring_box.specs.Distances.{square_of}
use Rattle.ring_box.specs.Forces.{acting_distance_of, force_along_of, no_force}
use Rattle.ring_box.specs.Places.{no_place}
use Rattle.ring_box.specs.declared.boxes.RingBox.{RingBox}
use Rattle.ring_box.specs.declared.vectors.Place3.{Place3}
use Rattle.ring_box.specs.declared.vectors.Vector.{Vector}
use Rattle.integrator.specs.Displacement.{displacement_of, next_place_of}
use Rattle.integrator.specs.Forces.{pairs_of, sum_of_shares}
use Rattle.integrator.specs.declared.direction.Direction.{Direction}
use Rattle.integrator.specs.declared.direction.Direction.TheVariants.{Back, Forward}

-- ---- the meaning of texts

abbrev pub global_names : JobValue → List (List ℕ)
global_names j = map (λ global. global.name) j.globals

-- The energy text of a job denotes this tree, with at most 64 open parentheses and minus signs. No two of its variables
-- have the same name, and only the distance has a reserved name.
pub record IsJobEnergy (j : JobValue) (tree : Tree) : Type 0 where
  pub apart : AreApart (variables_of j.parameters (global_names j))
  pub free : All (λ name. is_reserved name ≡ false) (parameters_and_globals j.parameters (global_names j))
  pub says : IsEnergy (bits_of j.frac) (variables_of j.parameters (global_names j)) j.energy 64 tree

-- The text is the state's text. No two states have the same text (the law `ReadsOnce` of states).
pub record IsTextOf (text : List ℕ) (s : StateView) : Type 0 where
  pub fits : IsState s
  pub is : text ≡ state_text s

-- The type of a job with this number, from 0. Past the last type the default is a nameless one, which no atom has.
abbrev pub type_at : JobValue → ℕ → TypeValue
type_at j number = slice_index_or j.types number (record { name = []; mass = 0; values = [] })

-- The numbers that were read, without their errors of reading.
abbrev pub numbers : List Constant → List ℤ
numbers constants = map (λ c. c.value) constants

-- Each atom has the type, given by its number, with the atom's name.
pub record AreTypes (j : JobValue) (atoms : List AtomView) (types : List ℕ) : Type 0 where
  pub known : All (λ number. number < length j.types) types
  pub named : map (λ number. (type_at j number).name) types ≡ map (λ atom. atom.name) atoms

-- A side has room for two cutoffs: the cutoff is in 2^-bits nm, the side in 10^-5 nm.
abbrev pub HasRoom : JobValue → ℕ → Type 0
HasRoom j side = 200000 * unsigned_abs j.cutoff ≤ side * 2 ^ bits_of j.frac

-- The box with these three sides.
abbrev pub box_of : List ℕ → RingBox
box_of sides = record { x = slice_index sides 0; y = slice_index sides 1; z = slice_index sides 2 }

-- ---- the Levesque-Verlet rule (Levesque and Verlet 1993, J. Stat. Phys. 72, 519)

-- Under a job whose energy is the tree, in a box with these sides, for atoms of these types, given by their numbers. A
-- frame has the position of each atom. Outside this module each definition takes these four first, as in
-- `Lead j tree sides types k p c p' c'`.
module _ (j : JobValue) (tree : Tree) (sides types : List ℕ) where
  -- The values of the variables, for a pair of atoms at a distance: the distance, the parameters of the first, of the
  -- second, the globals.
  abbrev pub inputs : ℕ × ℕ → ℤ → List ℤ
  inputs pair r = r ∷ (numbers (type_at j (slice_index types pair.0)).values
      ++ (numbers (type_at j (slice_index types pair.1)).values ++ map (λ global. global.value.value) j.globals))

  -- v is the force of a pair of atoms, at a and b, on the first of them. It is along the line through both, and its
  -- size is minus the derivative of the energy at their distance, or at the core if the distance is less. It is zero if
  -- the distance isn't below the cutoff, and if both atoms have the same position. The derivative is the rounded one:
  -- the value of the table of derivatives with each of its operations rounded to `bits` bits. Over exact numbers the
  -- table gives the exact derivative: the law `slopes_are_derivatives` of `derivative` (`IsDerivative`).
  pub data IsPairForce (pair : ℕ × ℕ) (a b : Place3) (v : Vector ℤ) : Type 0 where
    far : acting_distance_of j.frac (box_of sides) j.core j.cutoff a b ≡ None → v ≡ no_force → IsPairForce pair a b v
    together : square_of (box_of sides) a b ≡ 0 → v ≡ no_force → IsPairForce pair a b v
    near : (r slope : ℤ) → acting_distance_of j.frac (box_of sides) j.core j.cutoff a b ≡ Some r
        → slope_of (bits_of j.frac) (inputs pair r) tree ≡ Some slope
        → v ≡ force_along_of (box_of sides) (neg_ℤ slope) a b → IsPairForce pair a b v

  -- The next position of an atom of the mass m that was at a, is at b, and feels the force v there: on each axis 2 b -
  -- a + d modulo 2^32. The integer d is nearest to the displacement by the force in one time step, in grid units.
  abbrev pub next_of : ℕ → Place3 → Place3 → Vector ℤ → Place3
  next_of m a b v = record {
    x = next_place_of a.x b.x (displacement_of j.frac v.x j.time_step m (box_of sides).x);
    y = next_place_of a.y b.y (displacement_of j.frac v.y j.time_step m (box_of sides).y);
    z = next_place_of a.z b.z (displacement_of j.frac v.z j.time_step m (box_of sides).z);
  }

  -- The frame n follows the frames p and c: each pair of atoms has a force at c, and each atom moves by the exact sum
  -- of the contributions of all pairs. A pair contributes its force to its first atom, and the negative to its second.
  pub record Follows (p c n : List Place3) : Type 0 where
    pub force : ℕ × ℕ → Vector ℤ
    pub forces : All (λ pair. IsPairForce pair (slice_index_or c pair.0 no_place) (slice_index_or c pair.1 no_place) (force pair))
        (pairs_of (length c))
    pub atoms : length n ≡ length c
    pub moved : (i : ℕ) → i < length c
        → slice_index_or n i no_place ≡ next_of (slice_index (map (λ number. (type_at j number).mass) types) i)
        (slice_index_or p i no_place) (slice_index_or c i no_place) (sum_of_shares force (pairs_of (length c)) i)

  -- k steps lead from the frames p and c to the frames p' and c': of k + 2 frames, p and c are the first two and p' and
  -- c' the last two, and each frame after the first two follows the two before it.
  pub record Lead (k : ℕ) (p c p' c' : List Place3) : Type 0 where
    pub frame : ℕ → List Place3
    pub begins : (frame 0 ≡ p) × (frame 1 ≡ c)
    pub steps : (t : ℕ) → t < k → Follows (frame t) (frame (suc t)) (frame (suc (suc t)))
    pub ends : (frame k ≡ p') × (frame (suc k) ≡ c')

-- ---- runs

-- The two frames of a state.
abbrev pub previous : StateView → List Place3
previous s = map (λ atom. atom.previous) s.atoms

abbrev pub current : StateView → List Place3
current s = map (λ atom. atom.current) s.atoms

-- k steps in a direction lead from a state's two frames to another's, and change the counter by k. Back is forward with
-- the frames exchanged.
abbrev pub Leads : Direction → JobValue → Tree → List ℕ → ℕ → StateView → StateView → Type 0
Leads Forward j tree types k before after =
    Lead j tree before.sides types k (previous before) (current before) (previous after) (current after)
    × (after.step ≡ before.step +ℤ pos k)
Leads Back j tree types k before after =
    Lead j tree before.sides types k (current before) (previous before) (current after) (previous after)
    × (after.step ≡ before.step -ℤ pos k)

-- The identity of an atom, whatever its position: the number and the name of its residue, and its own name.
abbrev pub who : AtomView → ℤ × List ℕ × List ℕ
who atom = (atom.residue_number, atom.residue, atom.name)

-- `text` is the text of a state that k Levesque-Verlet steps in a direction lead to, from the state whose text is
-- `state`, under the job whose text is `job`.
pub record IsLevesqueVerletRun (job state : List ℕ) (direction : Direction) (k : ℕ) (text : List ℕ) : Type 0 where
  pub j : JobValue
  pub job_text : IsJobText limits job j
  pub tree : Tree
  pub energy : IsJobEnergy j tree
  pub before : StateView
  pub state_text' : IsTextOf state before
  pub alike : before.frac ≡ j.frac
  pub types : List ℕ
  pub typed : AreTypes j before.atoms types
  pub room : HasRoom j (box_of before.sides).x × HasRoom j (box_of before.sides).y × HasRoom j (box_of before.sides).z
  pub after : StateView
  pub after_text : IsTextOf text after
  pub leads : Leads direction j tree types k before after
  -- only positions and counter change
  pub same : after ≡ record before { step = after.step; atoms = after.atoms }
  pub kept : map who after.atoms ≡ map who before.atoms

-- An output took all of a run's text, which is the only such text.
pub record WroteLevesqueVerletRun (job state : List ℕ) (direction : Direction) (k : ℕ) (output_before output_after : Output) : Type 0 where
  pub text : List ℕ
  pub run : IsLevesqueVerletRun job state direction k text
  pub only : (other : List ℕ) → IsLevesqueVerletRun job state direction k other → other ≡ text
  pub appends : Appends output_before output_after text
