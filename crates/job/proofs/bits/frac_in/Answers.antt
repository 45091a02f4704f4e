use Rattle.std.proofs.Common.{ℕ, List, Option, Bor, option_map, sym, ap, ◌∙◌}
use Rattle.job.specs.Words.{more_lines}
use Rattle.job.specs.Bits.{frac_in}
use Rattle.job.proofs.BitsLemmas.{frac_found, frac_below, frac_of_none}
use Rattle.job.proofs.bits.frac_in.Goals as goal

pub returns-in-Some-bits_said : goal.returns-in-Some-bits_said
returns-in-Some-bits_said c =
    sym (frac_found _ _ _ _ (ap (λ (r : Option (Bor (List ℕ))). more_lines (option_map (λ x. x.now) r)) c.in-Some.is ∙ c.next_line.ensures.lines) (sym c.bits_said.ensures ∙ c.in-Some-bits_said.is)) ∙ c.loop-rest.invariant

pub loop-rest-preserved : goal.loop-rest-preserved
loop-rest-preserved c =
    sym (frac_below _ _ _ (ap (λ (r : Option (Bor (List ℕ))). more_lines (option_map (λ x. x.now) r)) c.in-Some.is ∙ c.next_line.ensures.lines) (sym c.bits_said.ensures ∙ c.in_default-bits_said.is)) ∙ c.loop-rest.invariant

pub returns : goal.returns
returns c =
    sym (ap (λ (r : Option (Bor (List ℕ))). frac_in (more_lines (option_map (λ x. x.now) r))) c.in_default.is ∙ frac_of_none) ∙ c.loop-rest.invariant
