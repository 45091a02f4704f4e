use Rattle.std.proofs.Common.{List, ℕ, subst, sym, ap, take, ◌∙◌}
use Rattle.std.specs.List.{AllPass}
use Rattle.std.specs.Char.{is_ascii_digit}
use Rattle.fixed.proofs.DigitLemmas.{front_passes}
use Rattle.fixed.proofs.numerals.split_digits.Goals as goal

pub returns-clause-pass : goal.returns-clause-pass
returns-clause-pass c =
    subst (λ (ds : List ℕ). AllPass is_ascii_digit ds) (sym (c.split_at.ensures.front ∙ ap (λ (n : ℕ). take n c.args.text.now) c.digit_count.ensures.value)) (front_passes c.args.text.now)
