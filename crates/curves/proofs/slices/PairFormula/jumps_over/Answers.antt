use Rattle.std.proofs.Common.{◌∙◌, ◌||◌, Bool, ap}
use Rattle.fixed.specs.Fractions.{bits_of}
use Rattle.interval_domain.specs.Views.{span_range}
use Rattle.curves.specs.Slices.{flag_of, front_of, is_local_on}
use Rattle.curves.proofs.slices.PairFormula.jumps_over.Goals as goal

pub returns : goal.returns
returns g c = λ program e column.
    let on = is_local_on (bits_of c.args.self.now.frac) program c.args.self.now.others.now (span_range c.args.domain.now) column in
    let front = c.in_ok-at_front.ensures program e column ∙ ap on c.front_of.ensures in
    let back = c.in_ok-at_back.ensures program e column ∙ ap on c.back_of.ensures in
    c.either.ensures column ∙ ap (λ (t : Bool). t || flag_of column c.in_ok-at_back.at_back) front
    ∙ ap (λ (t : Bool). on (front_of (span_range c.args.range.now)) || t) back
