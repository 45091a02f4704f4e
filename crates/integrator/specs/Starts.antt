-- The system of a job and a state: the job's energy and the types of the state's atoms, or the first refusal; and the
-- dynamics of these atoms.
use Rattle.std.specs.Prelude.{ℕ, suc, ℤ, ◌==◌, Bool, true, false, List, [], ◌∷◌, map, Option, Some, None, Result, Ok, Err, slice_index, slice_index_or, bytes_eq}
use Rattle.std.specs.List.{position}
use Rattle.fixed.specs.Fractions.{bits_of}
use Rattle.fixed.specs.declared.frac.Frac.{Frac}
use Rattle.derivative.specs.Slope.{slope_of}
use Rattle.energy_program.specs.Faults as energy
use Rattle.energy_program.specs.Tree.{Tree}
use Rattle.job.specs.Values.{JobValue, TypeValue}
use Rattle.line_text.specs.Steps.{◌>>=◌}
use Rattle.kernel_code.specs.Tables.{inputs_of}
use Rattle.ring_box.specs.Cells.{has_room}
use Rattle.ring_box.specs.declared.boxes.RingBox.{RingBox}
use Rattle.state.specs.StateText.{AtomView, StateView}
use Rattle.potential.specs.Energies.{Energy, energy_of}
use Rattle.potential.specs.Tables.{no_type, table_of}
use Rattle.integrator.specs.Frames.{Dynamics}

-- why a job and a state have no system; atoms are counted from 1
pub data Refusal : Type 0 where
  energy_refused : energy.Refusal → Refusal
  bits_differ : Refusal
  unknown_type : ℕ → Refusal
  cutoff_too_long : Refusal

-- the result of a part, with the part's refusal as a refusal of the whole
abbrev pub or_refused : {X R S : Type 0} → (R → S) → Result X R → Result X S
or_refused refused (Ok x) = Ok x
or_refused refused (Err r) = Err (refused r)

-- ---- types of atoms

-- the index of the type with this name
abbrev pub type_with : List TypeValue → List ℕ → Option ℕ
type_with types name = position (λ t. bytes_eq t.name name) types

abbrev pub known : ℕ → Option ℕ → Result ℕ Refusal
known atom (Some t) = Ok t
known atom None = Err (unknown_type atom)

-- the index of each atom's type, or the refusal of the lowest atom whose name is no type's; `atom` is the number of the
-- first atom in the list
unfoldable pub atom_types : List TypeValue → ℕ → List AtomView → Result (List ℕ) Refusal
atom_types types atom [] = Ok []
atom_types types atom (a ∷ atoms) =
    known atom (type_with types a.name) >>= λ t. atom_types types (suc atom) atoms >>= λ ts. Ok (t ∷ ts)

-- the mass of a type, in 10^-5 u
abbrev pub mass_of : List TypeValue → ℕ → ℕ
mass_of types t = (slice_index_or types t no_type).mass

-- ---- all together

abbrev pub require : Bool → Refusal → Result (Unit {0}) Refusal
require true refusal = Ok tt
require false refusal = Err refusal

abbrev pub ring_of : List ℕ → RingBox
ring_of sides = record { x = slice_index sides 0; y = slice_index sides 1; z = slice_index sides 2 }

-- the inputs of the energy for a pair of atoms of these types at a distance
abbrev pub pair_inputs : JobValue → List ℕ → ℕ × ℕ → ℤ → List ℤ
pair_inputs j types p r = inputs_of (table_of j) (slice_index types p.0) (slice_index types p.1) r

-- the dynamics of atoms of these types with these derivatives, in a box with these sides
abbrev pub dynamics_by : (ℕ × ℕ → ℤ → Option ℤ) → JobValue → (sides types : List ℕ) → Dynamics
dynamics_by slope j sides types = record {
  frac = j.frac;
  ring = ring_of sides;
  core = j.core;
  cutoff = j.cutoff;
  time_step = j.time_step;
  masses = map (mass_of j.types) types;
  slope = slope;
}

-- the dynamics with the derivative of a tree as it is written
abbrev pub as_written : JobValue → (sides : List ℕ) → Tree → (types : List ℕ) → Dynamics
as_written j sides tree types = dynamics_by (λ p r. slope_of (bits_of j.frac) (pair_inputs j types p r) tree) j sides types

-- the job and the state have the same number of fraction bits
abbrev pub are_alike : Frac → Frac → Bool
are_alike f g = bits_of f == bits_of g

-- the types of a state's atoms, in a box with room for two cutoffs
unfoldable pub types_of : JobValue → StateView → Result (List ℕ) Refusal
types_of j s = do
  alike ← require (are_alike j.frac s.frac) bits_differ
  types ← atom_types j.types 1 s.atoms
  room ← require (has_room j.frac (ring_of s.sides) j.cutoff) cutoff_too_long
  Ok types

-- a job's energy, and the types of a state's atoms
unfoldable pub system_of : JobValue → StateView → Result (Energy × List ℕ) Refusal
system_of j s = do
  energy ← or_refused energy_refused (energy_of j)
  types ← types_of j s
  Ok (energy, types)
