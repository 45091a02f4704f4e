use Rattle.std.proofs.Common.{◌≡◌, ◌∙◌, arith}
use Rattle.std.specs.List.{AllByRecursion}
use Rattle.std.proofs.lemmas.List.{length-map}
use Rattle.fallible.proofs.FailureLaws.{IfOk_of}
use Rattle.fallible.proofs.Appends.{at_last, hands_on, has_all}
use Rattle.gro.specs.Frames.{atom_view, frame_view}
use Rattle.gro.specs.GroWriting.{HasForm, atom_lines}
use Rattle.gro.proofs.Pieces.{between, box, from_atoms, from_number, in_pieces, title_written, number_written, atoms_written}
use Rattle.gro.proofs.WrittenFrames.{written_again}
use Rattle.gro.proofs.writing.write.Goals as goal

pub returns-in_err-write_all-clause-writes : goal.returns-in_err-write_all-clause-writes
returns-in_err-write_all-clause-writes g c =
    let f = frame_view c.args.frame.now in
    hands_on _ f.title (from_number f) c.from_residual.result c.from_residual.ensures.1 (has_all _ (in_pieces f))
    (rw c.deref.ensures.value at c.in_err-write_all.ensures)

pub returns-in_err-write_all-2-clause-writes : goal.returns-in_err-write_all-2-clause-writes
returns-in_err-write_all-2-clause-writes g c =
    let f = frame_view c.args.frame.now in
    let line : c.as_slice.result.now ≡ between f = c.as_slice.ensures.value ∙ c.count_between-line.ensures in
    hands_on _ (between f) (from_atoms f) c.from_residual-in_err-write_all-2.result c.from_residual-in_err-write_all-2.ensures.1
    (title_written f (rw c.deref.ensures.value at c.in_ok-write_all.ensures)) (rw line at c.in_err-write_all-2.ensures)

pub returns-in_err-write_atoms-clause-writes : goal.returns-in_err-write_atoms-clause-writes
returns-in_err-write_atoms-clause-writes g c =
    let f = frame_view c.args.frame.now in
    let line : c.as_slice.result.now ≡ between f = c.as_slice.ensures.value ∙ c.count_between-line.ensures in
    hands_on _ (atom_lines 1 f.atoms) (box f) c.from_residual-in_err-write_atoms.result c.from_residual-in_err-write_atoms.ensures.1
    (number_written f (rw c.deref.ensures.value at c.in_ok-write_all.ensures) (rw line at c.in_ok-write_all-2.ensures)) (rw c.as_slice-2.ensures.value at c.in_err-write_atoms.ensures.writes)

pub returns-clause-writes : goal.returns-clause-writes
returns-clause-writes g c =
    let f = frame_view c.args.frame.now in
    let line : c.as_slice.result.now ≡ between f = c.as_slice.ensures.value ∙ c.count_between-line.ensures in
    let end : c.as_slice-3.result.now ≡ box f = c.as_slice-3.ensures.value ∙ c.whole_box_line-line.ensures in
    at_last _ (box f) c.write_all-3.result
    (atoms_written f (rw c.deref.ensures.value at c.in_ok-write_all.ensures) (rw line at c.in_ok-write_all-2.ensures) (rw c.as_slice-2.ensures.value at c.in_ok-write_atoms.ensures.writes))
    (rw end at c.write_all-3.ensures)

pub returns-clause-again : goal.returns-clause-again
returns-clause-again g c =
    let f = frame_view c.args.frame.now in
    let forms : AllByRecursion HasForm f.atoms = rw c.as_slice-2.ensures.value at c.in_ok-write_atoms.ensures.forms in
    IfOk_of c.write_all-3.result
    (λ fits. written_again f c.args.frame.now.title_fits (omega (arith, c.args.frame.now.count_fits, length-map c.args.frame.now.atoms.items atom_view)) forms fits)
