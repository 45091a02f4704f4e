use Rattle.std.proofs.Common.{◌≡◌, ◌∙◌, IfOk, ap, subst}
use Rattle.fixed.specs.Fractions.{bits_of}
use Rattle.interval_domain.specs.Ranges.{Range, range}
use Rattle.interval_domain.specs.Views.{span_range}
use Rattle.curves.specs.Slices.{bounds_on}
use Rattle.curves.proofs.slices.PairFormula.bounds_at.Goals as goal

pub returns : goal.returns
returns g c = λ program e.
    let single : span_range c.single.result ≡ range c.args.at c.args.at =
    ap (λ x. range x c.single.result.hi) c.single.ensures.lo ∙ ap (range c.args.at) c.single.ensures.hi in
    subst (λ (r : Range). IfOk c.bounds_on.result (λ b. b ≡ bounds_on (bits_of c.args.self.now.frac) program c.args.self.now.others.now r)) single
    (c.bounds_on.ensures program e)
