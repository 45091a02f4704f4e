-- Each state has a text: its numbers are in range by their types.
use Rattle.std.proofs.Common.{List, [], ◌∷◌, map, arith}
use Rattle.std.specs.List.{AllByRecursion}
use Rattle.std.proofs.lemmas.List.{length-map}
use Rattle.state.specs.StateText.{IsAtom, IsState}
use Rattle.state.specs.StateViews.{atom_view, state_view}
use Rattle.state.specs.declared.states.Atom.{Atom}
use Rattle.state.specs.declared.states.State.{State}

atom_fits : (a : Atom) → IsAtom (atom_view a)
atom_fits a = record {
  low = a.low;
  high = a.high;
  residue = a.residue.named;
  name = a.name.named;
  previous = a.previous_fits;
  current = a.current_fits;
}

-- atoms are within the ranges of the text
pub atoms_fit : (atoms : List Atom) → AllByRecursion IsAtom (map atom_view atoms)
atoms_fit [] = tt
atoms_fit (a ∷ atoms) = (atom_fits a, atoms_fit atoms)

-- a state is within the ranges of the text
pub state_fits : {A : Type 0} (s : State A) → IsState (state_view s)
state_fits s = record {
  title = s.title_fits;
  step = s.step_fits;
  sides = (s.x_fits, s.y_fits, s.z_fits);
  count = omega (arith, s.count_fits, length-map s.atoms.items atom_view);
  atoms = atoms_fit s.atoms.items;
}
