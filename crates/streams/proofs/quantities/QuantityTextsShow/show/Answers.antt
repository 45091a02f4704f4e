use Rattle.std.proofs.Common.{◌++◌, ◌∙◌}
use Rattle.std.proofs.lemmas.Result.{err_from_is_err_and}
use Rattle.streams.proofs.TextLaws.{step_and_quantity}
use Rattle.streams.proofs.quantities.QuantityTextsShow.show.Goals as goal

-- a beginning of the text
pub returns-in_err-write_both-clause-fails : goal.returns-in_err-write_both-clause-fails
returns-in_err-write_both-clause-fails g c =
    let p = err_from_is_err_and c.from_residual-in_err-write_both.result c.from_residual-in_err-write_both.ensures.1 in
    rw (p.1, p.2)
    (record {
      text = c.as_slice.result.now ++ c.deref.result.now;
      shown = step_and_quantity c.args.self.now.quantity c.args._number c.args.engine.now _ c.state.result.now c.quantity_lines.ensures.engine
          c.state.ensures.value c.state.ensures.typed _ _ (c.as_slice.ensures.value ∙ c.step_line.ensures)
          (rw c.deref.ensures.value c.in_ok-lines.ensures.lines);
      beginning = c.in_err-write_both.ensures;
    })

-- the text
pub returns-clause-wrote : goal.returns-clause-wrote
returns-clause-wrote g c = record {
  text = c.as_slice.result.now ++ c.deref.result.now;
  shown = step_and_quantity c.args.self.now.quantity c.args._number c.args.engine.now _ c.state.result.now c.quantity_lines.ensures.engine
      c.state.ensures.value c.state.ensures.typed _ _ (c.as_slice.ensures.value ∙ c.step_line.ensures)
      (rw c.deref.ensures.value c.in_ok-lines.ensures.lines);
  appends = c.in_ok-write_both.ensures;
}
