use Rattle.std.proofs.Common.{arith, sym, ap, ◌∙◌, ◌∷◌}
use Rattle.job.specs.Words.{lines_of}
use Rattle.line_text.proofs.LineLaws.{cut_shorter}
use Rattle.job.proofs.LineLemmas.{lines_cut, lines_whole}
use Rattle.job.proofs.words.next_line.Goals as goal

pub returns-in-Some-clause-lines : goal.returns-in-Some-clause-lines
returns-in-Some-clause-lines c = lines_cut _ _ _ (sym c.in-Some.ensures) ∙ ap (λ l. l ∷ lines_of c.in-Some.rest.now) (sym c.without_return.ensures.value)

pub returns-in-Some-clause-shorter : goal.returns-in-Some-clause-shorter
returns-in-Some-clause-shorter c = omega (arith, cut_shorter 10 _ _ _ (sym c.in-Some.ensures), c.without_return.ensures.shorter)

pub returns-in-None-clause-lines : goal.returns-in-None-clause-lines
returns-in-None-clause-lines c = lines_whole _ (sym c.in-None.ensures)
