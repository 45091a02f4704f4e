-- The state that starts at a frame of a GRO file: grid coordinates nearest to the frame's positions, and grid
-- coordinates one time step earlier. The earlier ones are the current ones minus a rounded displacement, reduced into
-- the periodic box. Definitions are functions first, then a relation. The step counter of the state is 0.
use Rattle.std.specs.Prelude.{◌≡◌, ℕ, ℤ, pos, List, map, slice_index, slice_index_or, Result, Ok, Err}
use Rattle.std.specs.List.{AllZip}
use Rattle.fixed.specs.declared.frac.Frac.{Frac}
use Rattle.gro.specs.Frames as gro
use Rattle.ring_box.specs.Places.{IsPlaceOfPm, place_of_pm}
use Rattle.ring_box.specs.Boxes.{box_of}
use Rattle.ring_box.specs.declared.boxes.RingBox.{RingBox}
use Rattle.ring_box.specs.declared.vectors.Place3.{Place3}
use Rattle.ring_box.specs.declared.faults.BoxFault.{BoxFault}
use Rattle.state.specs.StateText.{AtomView, StateView}
use Rattle.state.specs.StateViews.{sides_view}
use Rattle.state.specs.Velocities.{IsPlaceBefore, place_before}

-- the grid coordinates nearest to a position in picometres
abbrev pub current_place : RingBox → List ℤ → Place3
current_place ring at = record {
  x = place_of_pm (slice_index_or at 0 (pos 0)) ring.x;
  y = place_of_pm (slice_index_or at 1 (pos 0)) ring.y;
  z = place_of_pm (slice_index_or at 2 (pos 0)) ring.z;
}

-- the grid coordinates one time step of dt fs before the current ones
abbrev pub previous_place : ℕ → RingBox → Place3 → List ℤ → Place3
previous_place dt ring current velocity = record {
  x = place_before current.x (slice_index_or velocity 0 (pos 0)) dt ring.x;
  y = place_before current.y (slice_index_or velocity 1 (pos 0)) dt ring.y;
  z = place_before current.z (slice_index_or velocity 2 (pos 0)) dt ring.z;
}

-- an atom of the frame as an atom of the state
abbrev pub started_atom : ℕ → RingBox → gro.AtomView → AtomView
started_atom dt ring a = record {
  residue_number = a.number;
  residue = a.residue;
  name = a.name;
  previous = previous_place dt ring (current_place ring a.at) a.velocity;
  current = current_place ring a.at;
}

-- the state that starts at a frame, in this box
abbrev pub start_in : Frac → ℕ → gro.FrameView → RingBox → StateView
start_in frac dt f ring =
    record { title = f.title; step = pos 0; frac = frac; sides = sides_view ring; atoms = map (started_atom dt ring) f.atoms }

-- the state in the box, or the fault of the box
abbrev pub on_box : Result RingBox BoxFault → (RingBox → StateView) → Result StateView BoxFault
on_box (Ok ring) start = Ok (start ring)
on_box (Err fault) start = Err fault

-- the state with these fraction bits that starts at a frame, for a time step of dt fs; or the fault of the frame's
-- sides
abbrev pub start_of_frame : Frac → ℕ → gro.FrameView → Result StateView BoxFault
start_of_frame frac dt f = on_box (box_of f.sides) (start_in frac dt f)

-- ---- the state as a relation

-- One coordinate of an atom with position p in picometres and velocity v: the current grid coordinate x is the nearest
-- one, and y is the grid coordinate one time step earlier.
pub record IsStartOnSide (dt L : ℕ) (p v : ℤ) (y x : ℕ) : Type 0 where
  pub nearest : IsPlaceOfPm p L x
  pub before : IsPlaceBefore x v dt L y

-- The atom a of the state has the names of the atom g of the frame, and its coordinates start at position and velocity
-- of g.
pub record IsStartOfAtom (dt : ℕ) (sides : List ℕ) (g : gro.AtomView) (a : AtomView) : Type 0 where
  pub number : a.residue_number ≡ g.number
  pub residue : a.residue ≡ g.residue
  pub name : a.name ≡ g.name
  pub x : IsStartOnSide dt (slice_index sides 0) (slice_index_or g.at 0 (pos 0))
      (slice_index_or g.velocity 0 (pos 0)) a.previous.x a.current.x
  pub y : IsStartOnSide dt (slice_index sides 1) (slice_index_or g.at 1 (pos 0))
      (slice_index_or g.velocity 1 (pos 0)) a.previous.y a.current.y
  pub z : IsStartOnSide dt (slice_index sides 2) (slice_index_or g.at 2 (pos 0))
      (slice_index_or g.velocity 2 (pos 0)) a.previous.z a.current.z

-- the state s with these fraction bits starts at the frame f
pub record BeginsAt (frac : Frac) (dt : ℕ) (f : gro.FrameView) (s : StateView) : Type 0 where
  pub title : s.title ≡ f.title
  pub counter : s.step ≡ pos 0
  pub bits : s.frac ≡ frac
  pub x_side : pos (slice_index s.sides 0) ≡ slice_index_or f.sides 0 (pos 0)
  pub y_side : pos (slice_index s.sides 1) ≡ slice_index_or f.sides 1 (pos 0)
  pub z_side : pos (slice_index s.sides 2) ≡ slice_index_or f.sides 2 (pos 0)
  pub atoms : AllZip (IsStartOfAtom dt s.sides) f.atoms s.atoms
