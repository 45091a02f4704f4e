use Rattle.std.proofs.Common.{◌≡◌, ◌∙◌, Some, ap, refl}
use Rattle.job.specs.declared.faults.Key.{Key}
use Rattle.job.specs.declared.faults.Key.TheVariants as keys
use Rattle.job.specs.Statements.{bits_is, cutoff_is, time_step_is}
use Rattle.job.specs.JobText.{limits}
use Rattle.job.specs.Views.{said_of, refusal_of}
use Rattle.job.proofs.DraftLemmas.{put_gives, put_holds}
use Rattle.job.proofs.lines.take_key.Goals as goal

pub returns-in-Some-Cutoff : goal.returns-in-Some-Cutoff
returns-in-Some-Cutoff g c =
    let is : c.args.key ≡ Some keys.Cutoff = c.in-Some-Cutoff.is ∙ ap (λ (k : Key). Some k) (rw c.in-Some-Cutoff.is at c.in-Some-Cutoff.field-0-is) in
    rw is (put_gives limits c.args.number (said_of c.args.draft.now) keys.Cutoff c.args.draft.now.cutoff (λ o. record (said_of c.args.draft.now) { cutoff = o }) cutoff_is (λ v. refl) (λ v. refl) (refusal_of {A = g.row.A.Denot}) _
    c.put_once-in-Some-Cutoff.result _ (rw c.cutoff-cutoff.ensures.value at c.put_once-in-Some-Cutoff.ensures.value))

pub returns-in-Some-TimeStep : goal.returns-in-Some-TimeStep
returns-in-Some-TimeStep g c =
    let is : c.args.key ≡ Some keys.TimeStep = c.in-Some-TimeStep.is ∙ ap (λ (k : Key). Some k) (rw c.in-Some-TimeStep.is at c.in-Some-TimeStep.field-0-is) in
    rw is (put_gives limits c.args.number (said_of c.args.draft.now) keys.TimeStep c.args.draft.now.time_step (λ o. record (said_of c.args.draft.now) { time_step = o }) time_step_is (λ v. refl) (λ v. refl) (refusal_of {A = g.row.A.Denot}) _
    c.put_once-in-Some-TimeStep.result _ (rw c.time_step_in-time_step.ensures at c.put_once-in-Some-TimeStep.ensures.value))

pub returns-in-Some-Bits : goal.returns-in-Some-Bits
returns-in-Some-Bits g c =
    let is : c.args.key ≡ Some keys.Bits = c.in-Some-Bits.is ∙ ap (λ (k : Key). Some k) (rw c.in-Some-Bits.is at c.in-Some-Bits.field-0-is) in
    rw is (put_gives limits c.args.number (said_of c.args.draft.now) keys.Bits c.args.draft.now.bits (λ o. record (said_of c.args.draft.now) { bits = o }) bits_is (λ v. refl) (λ v. refl) (refusal_of {A = g.row.A.Denot}) _
    c.put_once-in-Some-Bits.result _ (rw c.bits_in-bits.ensures at c.put_once-in-Some-Bits.ensures.value))

pub invariant_of-draft-clause-least_core : goal.invariant_of-draft-clause-least_core
invariant_of-draft-clause-least_core g c = put_holds _ _ _ _ _ (λ v least. least) c.put_once.ensures.slot c.args.draft.now.least_core c.core_in-core.ensures.least

pub invariant_of-draft-in-Some-Cutoff-clause-most_cutoff : goal.invariant_of-draft-in-Some-Cutoff-clause-most_cutoff
invariant_of-draft-in-Some-Cutoff-clause-most_cutoff g c = put_holds _ _ _ _ _ (λ v most. most) c.put_once-in-Some-Cutoff.ensures.slot c.args.draft.now.most_cutoff c.cutoff-cutoff.ensures.most

pub invariant_of-draft-in-Some-Slices-clause-some_slices : goal.invariant_of-draft-in-Some-Slices-clause-some_slices
invariant_of-draft-in-Some-Slices-clause-some_slices g c = put_holds _ _ _ _ _ (λ n range. range.0) c.put_once-in-Some-Slices.ensures.slot c.args.draft.now.some_slices c.whole_in-slices.ensures.range

pub invariant_of-draft-in-Some-Slices-clause-most_slices : goal.invariant_of-draft-in-Some-Slices-clause-most_slices
invariant_of-draft-in-Some-Slices-clause-most_slices g c = put_holds _ _ _ _ _ (λ n range. range.1) c.put_once-in-Some-Slices.ensures.slot c.args.draft.now.most_slices c.whole_in-slices.ensures.range
