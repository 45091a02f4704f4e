use Rattle.std.proofs.Common.{◌∙◌, sym}
use Rattle.fixed.specs.Fractions.{bits_of}
use Rattle.interval_domain.specs.Views.{span_range}
use Rattle.curves.proofs.JumpLaws.{local_beside, none_there, not_local}
use Rattle.curves.proofs.slices.PairFormula.are_local_on.Goals as goal

pub returns-then-is_none : goal.returns-then-is_none
returns-then-is_none g c = λ program e column.
    not_local (bits_of c.args.self.now.frac) program c.args.self.now.others.now (span_range c.args.domain.now) (span_range c.args.range) column
    c.down_to-below.result c.in_ok-bounds.bounds c.in_ok-below.below _ (c.in_ok-bounds.ensures program e) (c.in_ok-below.ensures program e)
    c.down_to-below.ensures.value (c.are_local-local.ensures column) (none_there c.are_local-local.result (sym c.is_none.ensures ∙ c.if-is_none.true) column)

pub returns : goal.returns
returns g c = λ program e column.
    local_beside (bits_of c.args.self.now.frac) program c.args.self.now.others.now (span_range c.args.domain.now) (span_range c.args.range) column
    c.down_to-below.result c.up_to-above.result c.in_ok-bounds.bounds c.in_ok-below.below c.in_ok-above.above _ _ _ (c.in_ok-bounds.ensures program e)
    (c.in_ok-below.ensures program e) c.down_to-below.ensures.value (c.in_ok-above.ensures program e) c.up_to-above.ensures.value
    (c.are_local-local.ensures column) (c.are_local.ensures column) (c.both.ensures column)
