use Rattle.std.proofs.Common.{◌≡◌, ◌+◌, ◌∷◌, ◌∙◌, List, map, drop}
use Rattle.fallible.proofs.Appends.{and_then, hands_on, next_item}
use Rattle.line_text.specs.Parts.{ended}
use Rattle.state.specs.StateText.{AtomView, atom_line, atom_lines}
use Rattle.state.specs.StateViews.{atom_view}
use Rattle.state.proofs.writing.write_atoms.Goals as goal

pub returns-in_err-write_all : goal.returns-in_err-write_all
returns-in_err-write_all g c =
    let i = c.loop-atom.atom-index in
    let xs : List AtomView = map atom_view c.args.atoms.now in
    let x : AtomView = atom_view c.atom-item.result in
    let items : drop i xs ≡ x ∷ drop (i + 1) xs = next_item atom_view c.args.atoms.now i c.atom-item.result c.loop-atom-test.true c.atom-item.is in
    let line : c.as_slice.result.now ≡ ended (atom_line x) = c.as_slice.ensures.value ∙ c.whole_line-line.ensures in
    hands_on _ (ended (atom_line x)) (atom_lines (drop (i + 1) xs)) c.from_residual.result c.from_residual.ensures.1 (rw items at c.loop-atom.invariant) (rw line at c.in_err-write_all.ensures)

pub loop-atom-preserved : goal.loop-atom-preserved
loop-atom-preserved g c =
    let i = c.loop-atom.atom-index in
    let xs : List AtomView = map atom_view c.args.atoms.now in
    let x : AtomView = atom_view c.atom-item.result in
    let items : drop i xs ≡ x ∷ drop (i + 1) xs = next_item atom_view c.args.atoms.now i c.atom-item.result c.loop-atom-test.true c.atom-item.is in
    let line : c.as_slice.result.now ≡ ended (atom_line x) = c.as_slice.ensures.value ∙ c.whole_line-line.ensures in
    and_then (ended (atom_line x)) (atom_lines (drop (i + 1) xs)) (rw items at c.loop-atom.invariant) (rw line at c.in_ok-write_all.ensures)
