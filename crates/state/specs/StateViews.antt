-- Values of atoms and states.
use Rattle.std.specs.Prelude.{List, [], ◌∷◌, map, ℕ}
use Rattle.line_text.specs.Names.{name_text}
use Rattle.ring_box.specs.declared.boxes.RingBox.{RingBox}
use Rattle.state.specs.StateText.{AtomView, StateView}
use Rattle.state.specs.declared.states.Atom.{Atom}
use Rattle.state.specs.declared.states.State.{State}

-- the value of an atom
abbrev pub atom_view : Atom → AtomView
atom_view a = record {
  residue_number = a.residue_number;
  residue = name_text a.residue;
  name = name_text a.name;
  previous = a.previous;
  current = a.current;
}

-- the three sides of a box
abbrev pub sides_view : RingBox → List ℕ
sides_view b = b.x ∷ b.y ∷ b.z ∷ []

-- the value of a state
abbrev pub state_view : {A : Type 0} → State A → StateView
state_view s = record {
  title = s.title.items;
  step = s.step;
  frac = s.frac;
  sides = sides_view s.ring;
  atoms = map atom_view s.atoms.items;
}
