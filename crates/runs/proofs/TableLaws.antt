-- Tables: rows that are shown of an engine.
use Rattle.std.proofs.Common.{◌≡◌, ℕ, List, refl}
use Rattle.engine.specs.Engines.{EngineView, IsTyped}
use Rattle.observables.specs.Columns.{head_by, row_by}
use Rattle.observables.specs.declared.columns.Columns.{Columns}
use Rattle.observables.specs.declared.observations.Observation.{Observation}
use Rattle.observables.specs.declared.scales.Scales.{Scales}
use Rattle.runs.specs.Observations.{AreScalesOf, IsObservationOf, IsTableText, headed}

-- the table's row for the engine's state
pub table_text : (columns : Columns) (number : ℕ) (e : EngineView) (scales : Scales) (o : Observation) → IsTyped e → AreScalesOf e scales
    → IsObservationOf e o → (head row : List ℕ) → head ≡ head_by columns → row ≡ row_by columns scales o
    → IsTableText columns e.job number e.state (headed number head row)
table_text columns number e scales o typed counts observed head row is_head is_row = record {
  scales = scales;
  observation = o;
  are = record { types = e.types; typed = typed; counts = counts; observed = observed };
  is = rw (is_head, is_row) refl;
}
