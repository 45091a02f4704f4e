use Rattle.std.proofs.Common.{◌≡◌, ◌∙◌, refl}
use Rattle.fallible.proofs.Appends.{at_last, hands_on, has_all}
use Rattle.fallible.proofs.FailureLaws.{IfOk_of}
use Rattle.state.specs.StateText.{atom_lines}
use Rattle.state.specs.StateViews.{state_view}
use Rattle.state.specs.Middle.{front}
use Rattle.state.proofs.Pieces.{fields, from_fields, from_title, in_pieces, front_written, title_written, fields_written}
use Rattle.state.proofs.StateFits.{state_fits}
use Rattle.state.proofs.states.State.write.Goals as goal

pub returns-in_err-write_all-clause-writes : goal.returns-in_err-write_all-clause-writes
returns-in_err-write_all-clause-writes g c =
    let s = state_view c.args.self.now in
    hands_on _ (front s.frac) (from_title s) c.from_residual.result c.from_residual.ensures.1 (has_all _ (in_pieces s)) (rw c.front.ensures at c.in_err-write_all.ensures)

pub returns-in_err-write_all-2-clause-writes : goal.returns-in_err-write_all-2-clause-writes
returns-in_err-write_all-2-clause-writes g c =
    let s = state_view c.args.self.now in
    hands_on _ s.title (from_fields s) c.from_residual-in_err-write_all-2.result c.from_residual-in_err-write_all-2.ensures.1
    (front_written s (rw c.front.ensures at c.in_ok-write_all.ensures)) (rw c.deref.ensures.value at c.in_err-write_all-2.ensures)

pub returns-in_err-write_all-3-clause-writes : goal.returns-in_err-write_all-3-clause-writes
returns-in_err-write_all-3-clause-writes g c =
    let s = state_view c.args.self.now in
    let line : c.as_slice.result.now ≡ fields s = c.as_slice.ensures.value ∙ c.middle_line-line.ensures in
    hands_on _ (fields s) (atom_lines s.atoms) c.from_residual-in_err-write_all-3.result c.from_residual-in_err-write_all-3.ensures.1
    (title_written s (rw c.front.ensures at c.in_ok-write_all.ensures) (rw c.deref.ensures.value at c.in_ok-write_all-2.ensures)) (rw line at c.in_err-write_all-3.ensures)

pub returns-clause-writes : goal.returns-clause-writes
returns-clause-writes g c =
    let s = state_view c.args.self.now in
    let line : c.as_slice.result.now ≡ fields s = c.as_slice.ensures.value ∙ c.middle_line-line.ensures in
    at_last _ (atom_lines s.atoms) c.write_atoms.result
    (fields_written s (rw c.front.ensures at c.in_ok-write_all.ensures) (rw c.deref.ensures.value at c.in_ok-write_all-2.ensures) (rw line at c.in_ok-write_all-3.ensures))
    (rw c.as_slice-2.ensures.value at c.write_atoms.ensures)

pub returns-clause-again : goal.returns-clause-again
returns-clause-again g c = IfOk_of c.write_atoms.result (state_fits c.args.self.now, refl)
