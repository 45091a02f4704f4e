use Rattle.std.proofs.Common.{◌≡◌, ◌∙◌, IfOk, List, subst}
use Rattle.energy_program.specs.Programs.{trees_of}
use Rattle.fixed.specs.Fractions.{bits_of}
use Rattle.fixed.specs.declared.constants.Constant.{Constant}
use Rattle.fixed.specs.declared.frac.Frac.{Frac}
use Rattle.interval_domain.specs.Ranges.{Range}
use Rattle.interval_domain.specs.Views.{span_range}
use Rattle.curves.specs.Slices.{ColumnFlagsView, flag_of, jumps_over}
use Rattle.curves.specs.declared.slices.Column.{Column}
use Rattle.curves.proofs.planned.PlannedTables.jumps_in.Goals as goal

pub returns : goal.returns
returns g c =
    let program = trees_of c.args.self.now.potential.now.slope.energy in
    let formula = c.formula_of-formula.ensures in
    let r = span_range c.args.range in
    let frac = c.args.self.now.job.now.frac in
    let others = c.args.pair.now.others.items in
    let domain = span_range c.all_distances-domain.result in
    subst (λ (d : Range). IfOk c.jumps_over.result (λ (f : ColumnFlagsView). (column : Column) → flag_of column f ≡ jumps_over (bits_of frac) program others d column r))
    c.all_distances-domain.ensures
    (subst (λ (xs : List Constant). IfOk c.jumps_over.result (λ (f : ColumnFlagsView). (column : Column) → flag_of column f ≡ jumps_over (bits_of frac) program xs domain column r))
    formula.others
    (subst (λ (b : Frac). IfOk c.jumps_over.result (λ (f : ColumnFlagsView). (column : Column)
    → flag_of column f ≡ jumps_over (bits_of b) program c.formula_of-formula.result.others.now domain column r))
    formula.frac (c.jumps_over.ensures program (formula.formula ∙ c.requires.is.formula))))
