-- A state's two frames, and the state after some steps.
use Rattle.std.specs.Prelude.{ℕ, ℤ, pos, ◌+ℤ◌, ◌-ℤ◌, List, [], length, map, Option, Some, None, slice_index_or, if◌then◌else◌}
use Rattle.fixed.specs.Arithmetic.{in_range}
use Rattle.ring_box.specs.Places.{no_place, places_of}
use Rattle.ring_box.specs.declared.vectors.Place3.{Place3}
use Rattle.state.specs.StateText.{AtomView, StateView}
use Rattle.integrator.specs.Forces.{numbers_from}
use Rattle.integrator.specs.Frames.{Frame, Frames, frames}
use Rattle.integrator.specs.declared.direction.Direction.{Direction}
use Rattle.integrator.specs.declared.direction.Direction.TheVariants.{Forward, Back}

abbrev pub previous_frame : List AtomView → Frame
previous_frame atoms = map (λ a. a.previous) atoms

abbrev pub current_frame : List AtomView → Frame
current_frame atoms = map (λ a. a.current) atoms

-- the two frames of a state
abbrev pub frames_of : StateView → Frames
frames_of s = frames (previous_frame s.atoms) (current_frame s.atoms)

-- the counter after n steps
abbrev pub counter_at : Direction → ℤ → ℕ → ℤ
counter_at Forward step n = step +ℤ pos n
counter_at Back step n = step -ℤ pos n

-- the counter after n steps, if it fits 64 bits
abbrev pub counter_after : Direction → ℤ → ℕ → Option ℤ
counter_after direction step n = if in_range (counter_at direction step n) then Some (counter_at direction step n) else None

-- an atom with other coordinates
abbrev pub moved_atom : AtomView → Place3 → Place3 → AtomView
moved_atom a previous current = record a { previous = previous; current = current }

-- the default of look-ups in lists of atoms
abbrev pub nobody : AtomView
nobody = record { residue_number = pos 0; residue = []; name = []; previous = no_place; current = no_place }

-- the atom with the index a, with its coordinates in these frames
abbrev pub moved_atom_at : List AtomView → Frames → ℕ → AtomView
moved_atom_at atoms f a = moved_atom (slice_index_or atoms a nobody) (places_of f.previous a) (places_of f.current a)

-- all atoms with their coordinates in these frames
abbrev pub moved_atoms : List AtomView → Frames → List AtomView
moved_atoms atoms f = map (moved_atom_at atoms f) (numbers_from 0 (length atoms))

-- the state with these frames and this counter
abbrev pub moved_state : StateView → Frames → ℤ → StateView
moved_state s f step = record s { step = step; atoms = moved_atoms s.atoms f }
