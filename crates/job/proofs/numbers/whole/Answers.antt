use Rattle.std.proofs.Common.{sym, arith, eqb-true, ◌∙◌}
use Rattle.std.proofs.lemmas.Bool.{eqb-false}
use Rattle.job.proofs.NumberLemmas.{whole_is, whole_empty, whole_bad}
use Rattle.job.proofs.numbers.whole.Goals as goal

pub returns-then-is_empty-clause-value : goal.returns-then-is_empty-clause-value
returns-then-is_empty-clause-value c = whole_empty c.args.least c.args.most c.args.word.now (eqb-true _ _ (sym c.is_empty.ensures ∙ c.if-is_empty.true))

pub returns-in_default-clause-value : goal.returns-in_default-clause-value
returns-in_default-clause-value c = whole_bad c.args.least c.args.most _ c.args.word.now c.in_default.ensures.exact

pub returns-clause-value : goal.returns-clause-value
returns-clause-value c =
    c.within.ensures.value
    ∙ whole_is c.args.least c.args.most _ _ c.args.word.now (omega (arith, c.from.ensures)) (eqb-false _ _ (sym c.is_empty.ensures ∙ c.if-is_empty.false)) c.in-Some.ensures.exact
