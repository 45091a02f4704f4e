-- The GRO frame of a state's current coordinates. Positions are the picometres nearest to the coordinates, and
-- velocities are zero.
use Rattle.std.specs.Prelude.{◌≡◌, ℕ, ℤ, pos, ◌≤ℤ◌, List, [], ◌∷◌, map, slice_index}
use Rattle.std.specs.List.{AllByRecursion}
use Rattle.line_text.specs.Parts.{AreThree}
use Rattle.gro.specs.Frames as gro
use Rattle.ring_box.specs.Places.{pm_of_place}
use Rattle.ring_box.specs.declared.vectors.Place3.{Place3}
use Rattle.state.specs.StateText.{AtomView, StateView}

-- the position in picometres of grid coordinates in a box with these sides
abbrev pub position_of : List ℕ → Place3 → List ℤ
position_of sides place =
    pm_of_place place.x (slice_index sides 0) ∷ pm_of_place place.y (slice_index sides 1) ∷ pm_of_place place.z (slice_index sides 2) ∷ []

-- a velocity of zero
abbrev pub at_rest : List ℤ
at_rest = pos 0 ∷ pos 0 ∷ pos 0 ∷ []

-- an atom of the state as an atom of the frame
abbrev pub framed_atom : List ℕ → AtomView → gro.AtomView
framed_atom sides a =
    record { number = a.residue_number; residue = a.residue; name = a.name; at = position_of sides a.current; velocity = at_rest }

-- the GRO frame of a state
abbrev pub frame_of : StateView → gro.FrameView
frame_of s = record { title = s.title; atoms = map (framed_atom s.sides) s.atoms; sides = map pos s.sides }

-- ---- bounds of the frame's numbers

-- a coordinate in picometres inside a box whose sides are at most 160 nm
abbrev pub IsInBox : ℤ → Type 0
IsInBox p = (pos 0 ≤ℤ p) × (p ≤ℤ pos 160000)

-- a side in 10^-5 nm
abbrev pub IsSide : ℤ → Type 0
IsSide z = (pos 1 ≤ℤ z) × (z ≤ℤ pos 16000000)

-- an atom inside the box, without velocity
pub record IsAtomAtRest (a : gro.AtomView) : Type 0 where
  pub at : AreThree IsInBox a.at
  pub velocity : a.velocity ≡ at_rest

-- atoms at rest inside a box
pub record IsFrameAtRest (f : gro.FrameView) : Type 0 where
  pub atoms : AllByRecursion IsAtomAtRest f.atoms
  pub sides : AreThree IsSide f.sides
