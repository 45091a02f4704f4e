use Rattle.std.proofs.Common.{[], ap, ◌∙◌, List, map, take_all}
use Rattle.observables.specs.Columns.{column_text, line_of}
use Rattle.observables.specs.declared.columns.Column.{Column}
use Rattle.observables.proofs.LineLaws.{ended_line, spaced}
use Rattle.observables.proofs.columns.Columns.row.Goals as goal

pub returns : goal.returns
returns c =
    let text = column_text c.args.scales.now c.args.observation.now in
    let columns = c.list-column-items in
    let all = c.loop-column.invariant.0 ∙ ap (spaced text) (take_all c.loop-column.column-index columns.result.now c.loop-column-test.false) in
    ended_line text [] c.loop-column.row.items c.end.new.row.items columns.result.now columns.ensures.some all c.end.ensures
    ∙ ap (λ (shown : List Column). line_of (map text shown)) columns.ensures.value
