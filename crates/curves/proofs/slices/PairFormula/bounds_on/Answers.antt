use Rattle.std.proofs.Common.{◌≡◌, ◌∙◌, Bool, List, subst, IfOk}
use Rattle.fixed.specs.Fractions.{bits_of}
use Rattle.error_bounds.specs.Approximations.{Approximation}
use Rattle.interval_domain.specs.Views.{span_range}
use Rattle.curves.specs.Slices.{bounds_by, inputs_on, is_wide}
use Rattle.curves.proofs.slices.PairFormula.bounds_on.Goals as goal

pub returns : goal.returns
returns g c = λ program e.
    let wide : c.is_wide-wide.result ≡ is_wide (span_range c.args.range) = c.is_wide-wide.ensures in
    let inputs : c.deref.result.now ≡ inputs_on c.args.self.now.others.now (span_range c.args.range) = c.deref.ensures.value ∙ c.in_ok-inputs.ensures in
    subst (λ (i : List Approximation). IfOk c.bounds_by.result (λ b. b ≡ bounds_by (bits_of c.args.self.now.frac) program i (is_wide (span_range c.args.range))))
    inputs
    (subst (λ (t : Bool). IfOk c.bounds_by.result (λ b. b ≡ bounds_by (bits_of c.args.self.now.frac) program c.deref.result.now t)) wide
    (c.bounds_by.ensures program e))
