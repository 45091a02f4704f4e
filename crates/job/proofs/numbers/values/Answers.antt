use Rattle.std.proofs.Common.{sym, ap, Err, ◌∙◌}
use Rattle.fixed.specs.declared.faults.NumFault.{NumFault}
use Rattle.job.proofs.NumberLemmas.{values_push, values_skip, values_stop, values_all, so_far}
use Rattle.job.proofs.numbers.values.Goals as goal

pub returns-in-Err-BadNumber : goal.returns-in-Err-BadNumber
returns-in-Err-BadNumber g c = values_stop c.args.frac c.loop-word.in_range c.loop-word.values.items _ _ _ _ c.in-Some.ensures.word (sym c.signed_constant.ensures ∙ c.in-Err-BadNumber.is ∙ ap (λ (e : NumFault). Err e) c.in-Err-BadNumber.field-0-is) c.loop-word.invariant

pub loop-word-preserved-in_ok-push-in-Ok : goal.loop-word-preserved-in_ok-push-in-Ok
loop-word-preserved-in_ok-push-in-Ok g c =
    values_push c.args.frac c.loop-word.in_range c.loop-word.values.items _ _ _ _ _ _ c.in-Some.ensures.word (sym c.signed_constant.ensures ∙ c.in-Ok.is) c.in_ok-push-in-Ok.ensures.items c.loop-word.invariant

pub loop-word-preserved : goal.loop-word-preserved
loop-word-preserved g c = values_skip c.args.frac c.loop-word.in_range c.loop-word.values.items _ _ _ _ c.in-Some.ensures.word (sym c.signed_constant.ensures ∙ c.in-Err-NumberRange.is ∙ ap (λ (e : NumFault). Err e) c.in-Err-NumberRange.field-0-is) c.loop-word.invariant

pub returns-then-in_range : goal.returns-then-in_range
returns-then-in_range g c = ap (λ b. so_far b c.loop-word.values.items) (sym c.if-in_range.true) ∙ values_all c.args.frac c.loop-word.in_range c.loop-word.values.items _ _ c.in_default.ensures.word c.loop-word.invariant

pub returns-else-in_range : goal.returns-else-in_range
returns-else-in_range g c = ap (λ b. so_far b c.loop-word.values.items) (sym c.if-in_range.false) ∙ values_all c.args.frac c.loop-word.in_range c.loop-word.values.items _ _ c.in_default.ensures.word c.loop-word.invariant
