use Rattle.std.proofs.Common.{◌≡◌, ◌+◌, ◌<◌, ◌∷◌, ◌∙◌, List, map, length, drop, arith}
use Rattle.std.proofs.lemmas.List.{length-map}
use Rattle.fallible.proofs.Appends.{and_then, hands_on, next_item}
use Rattle.line_text.proofs.Items.{item_is, all_more}
use Rattle.line_text.specs.Parts.{ended}
use Rattle.gro.specs.Frames.{AtomView, atom_view}
use Rattle.gro.specs.GroWriting.{HasForm, atom_line, atom_lines}
use Rattle.gro.proofs.writing.write_atoms.Goals as goal

pub returns-in_err-write_all-clause-writes : goal.returns-in_err-write_all-clause-writes
returns-in_err-write_all-clause-writes g c =
    let i = c.loop-atom.atom-index in
    let n = c.loop-atom.index in
    let vs : List AtomView = map atom_view c.args.atoms.now in
    let x : AtomView = atom_view c.atom-item.result in
    let items : drop i vs ≡ x ∷ drop (i + 1) vs = next_item atom_view c.args.atoms.now i c.atom-item.result c.loop-atom-test.true c.atom-item.is in
    let line : c.as_slice.result.now ≡ ended (atom_line n x) = c.as_slice.ensures.value ∙ c.whole_atom_line-line.ensures.items in
    hands_on _ (ended (atom_line n x)) (atom_lines (n + 1) (drop (i + 1) vs)) c.from_residual.result c.from_residual.ensures.1 (rw items at c.loop-atom.invariant.left) (rw line at c.in_err-write_all.ensures)

pub loop-atom-preserved : goal.loop-atom-preserved
loop-atom-preserved g c =
    let i = c.loop-atom.atom-index in
    let n = c.loop-atom.index in
    let vs : List AtomView = map atom_view c.args.atoms.now in
    let x : AtomView = atom_view c.atom-item.result in
    let items : drop i vs ≡ x ∷ drop (i + 1) vs = next_item atom_view c.args.atoms.now i c.atom-item.result c.loop-atom-test.true c.atom-item.is in
    let line : c.as_slice.result.now ≡ ended (atom_line n x) = c.as_slice.ensures.value ∙ c.whole_atom_line-line.ensures.items in
    let within : i < length vs = omega (arith, length-map c.args.atoms.now atom_view, c.loop-atom-test.true) in
    let here = item_is atom_view c.args.atoms.now i c.atom-item.result c.loop-atom-test.true c.atom-item.is in
    record {
      left = and_then (ended (atom_line n x)) (atom_lines (n + 1) (drop (i + 1) vs)) (rw items at c.loop-atom.invariant.left) (rw line at c.in_ok-write_all.ensures);
      forms = all_more HasForm vs i x within here c.loop-atom.invariant.forms c.whole_atom_line-line.ensures.form;
      index = omega (arith, c.loop-atom.invariant.index);
    }
