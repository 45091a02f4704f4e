use Rattle.std.proofs.Common.{rules, subst, sym, ℤ, ◌≤ℤ◌, neg_ℤ, pos}
use Rattle.fixed.specs.Arithmetic.{floor_over}
use Rattle.fixed.proofs.ConstantLemmas.{floor_within, small_fits, small_same}
use Rattle.fixed.proofs.numerals.small_floor.Goals as goal

pub overflow_cast-result : goal.overflow_cast-result
overflow_cast-result c =
    let w = floor_within c.args.n c.args.divisor c.requires.positive c.requires.least c.requires.greatest in
    small_fits c.floor_div.result (floor_over c.args.n c.args.divisor) (search rules) w.0 w.1

pub returns-clause-value : goal.returns-clause-value
returns-clause-value c =
    let w = floor_within c.args.n c.args.divisor c.requires.positive c.requires.least c.requires.greatest in
    small_same c.floor_div.result (floor_over c.args.n c.args.divisor) (search rules) w.0 w.1

pub returns-clause-least : goal.returns-clause-least
returns-clause-least c =
    let w = floor_within c.args.n c.args.divisor c.requires.positive c.requires.least c.requires.greatest in
    subst (λ (z : ℤ). neg_ℤ (pos 128) ≤ℤ z) (sym (returns-clause-value c)) w.0
