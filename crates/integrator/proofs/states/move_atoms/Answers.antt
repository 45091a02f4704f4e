use Rattle.std.proofs.Common.{◌≡◌, get_or, length, arith, ap, sym, ◌∙◌, map}
use Rattle.std.proofs.lemmas.List.{length-map, map-set, get_or-map}
use Rattle.state.specs.StateViews.{atom_view}
use Rattle.ring_box.specs.Places.{places_of}
use Rattle.integrator.specs.Frames.{frames}
use Rattle.integrator.specs.States.{nobody, moved_atom, moved_atom_at}
use Rattle.integrator.proofs.NumberLaws.{made_of_numbers}
use Rattle.integrator.proofs.StateLaws.{kept_more, moved_more}
use Rattle.integrator.proofs.states.move_atoms.Goals as goal

pub loop-k-preserved : goal.loop-k-preserved
loop-k-preserved c =
    let i = c.loop-k.k in
    let atoms = map atom_view c.loop-k.atoms in
    let before = map atom_view c.args.atoms.now in
    let f = frames c.args.previous.now c.args.current.now in
    let old = c.index-atoms-k.result in
    let here : atom_view old ≡ get_or before i nobody =
    ap atom_view c.index-atoms-k.is ∙ sym (get_or-map atom_view c.loop-k.atoms i old nobody (omega arith)) ∙ c.loop-k.invariant.kept i (omega arith) in
    let new = c.moved_atom.ensures ∙ ap (λ a. moved_atom a (places_of f.previous i) (places_of f.current i)) here in
    record {
      moved_atom' = λ k h. rw (map-set atom_view c.loop-k.atoms i c.moved_atom.result)
          (moved_more atoms before f i (atom_view c.moved_atom.result) (omega (arith, length-map c.loop-k.atoms atom_view)) new c.loop-k.invariant.moved_atom' k h);
      kept = λ k h. rw (map-set atom_view c.loop-k.atoms i c.moved_atom.result)
          (kept_more atoms before i (atom_view c.moved_atom.result) c.loop-k.invariant.kept k h);
    }

pub returns : goal.returns
returns c =
    let before = map atom_view c.args.atoms.now in
    made_of_numbers (moved_atom_at before (frames c.args.previous.now c.args.current.now)) nobody (length before) (map atom_view c.loop-k.atoms)
    (omega (arith, length-map c.loop-k.atoms atom_view, length-map c.args.atoms.now atom_view))
    (λ k h. c.loop-k.invariant.moved_atom' k (omega (arith, length-map c.args.atoms.now atom_view)))
