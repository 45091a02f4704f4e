use Rattle.std.proofs.Common.{◌∙◌}
use Rattle.std.proofs.lemmas.Result.{err_from_is_err_and}
use Rattle.runs.proofs.ReadinessLaws.{ready_observes, ready_some}
use Rattle.runs.proofs.TableLaws.{table_text}
use Rattle.runs.proofs.rows.RowsShow.show.Goals as goal

-- there is an observer of the engine
pub observer-requires : goal.observer-requires
observer-requires g c = ready_some _ c.args.observer.now c.args.engine.now c.requires.ready tt

pub observe-requires : goal.observe-requires
observe-requires g c = ready_observes _ c.args.observer.now c.args.engine.now c.observer.result.now c.requires.ready tt c.observer.ensures

-- a beginning of the row
pub returns-in_err-write_row-clause-fails : goal.returns-in_err-write_row-clause-fails
returns-in_err-write_row-clause-fails g c =
    let p = err_from_is_err_and c.from_residual-in_err-write_row.result c.from_residual-in_err-write_row.ensures.1 in
    rw (p.1, p.2)
    (record {
      text = _;
      shown = table_text c.args.self.now.columns c.args.number c.args.engine.now c.scales.result c.in_ok-observation.observation
          (rw c.observe.ensures.engine at c.scales.ensures.typed) (rw c.observe.ensures.engine at c.scales.ensures.scales)
          c.in_ok-observation.ensures.observation _ _ (c.as_slice.ensures.value ∙ c.head-head.ensures) (c.as_slice-2.ensures.value ∙ c.row-row.ensures);
      beginning = c.in_err-write_row.ensures;
    })

-- the row
pub returns-clause-wrote : goal.returns-clause-wrote
returns-clause-wrote g c = record {
  text = _;
  shown = table_text c.args.self.now.columns c.args.number c.args.engine.now c.scales.result c.in_ok-observation.observation
      (rw c.observe.ensures.engine at c.scales.ensures.typed) (rw c.observe.ensures.engine at c.scales.ensures.scales)
      c.in_ok-observation.ensures.observation _ _ (c.as_slice.ensures.value ∙ c.head-head.ensures) (c.as_slice-2.ensures.value ∙ c.row-row.ensures);
  appends = c.in_ok-write_row.ensures;
}
