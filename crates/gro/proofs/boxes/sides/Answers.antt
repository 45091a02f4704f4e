use Rattle.std.proofs.Common.{◌≡◌, ◌≤◌, ◌∙◌, false, ℤ, List, Some, ap, length, refl, subst, sym, arith}
use Rattle.std.proofs.lemmas.Grind.{common_steps}
use Rattle.std.proofs.lemmas.Result.{IfErr-weaker, IfOk-weaker}
use Rattle.line_text.specs.Words.{words}
use Rattle.line_text.proofs.StepLaws.{none_is_no_some}
use Rattle.gro.specs.GroFaults.{IsBoxFault}
use Rattle.gro.specs.GroReading.{values_of}
use Rattle.gro.specs.GroText.{IsBox}
use Rattle.gro.proofs.BoxLaws.{box_written, tilted, values_length, values_read}
use Rattle.gro.proofs.boxes.sides.Goals as goal
use Rattle.gro.proofs.boxes.sides.Goals.{then-count-lt3-2-via-then-count-lt3-2, then-count-lt3-2-via-else-count-lt3-2+then-count-gt9}

pub returns-then-count-lt3-2-clause-fault : goal.returns-then-count-lt3-2-clause-fault
returns-then-count-lt3-2-clause-fault c =
    let few : c.args.line.ended ≡ false → 3 ≤ length (words c.args.line.text.now) = grind (arith, common_steps) in (
      refl,
      few,
      λ values h. let count = values_length (words c.args.line.text.now) values h.0 in
          elim c.then-count-lt3-2.branch [
            | then-count-lt3-2-via-then-count-lt3-2 w ↦ omega (arith, count, h.1)
            | then-count-lt3-2-via-else-count-lt3-2+then-count-gt9 w ↦ omega (arith, count, h.2)
          ],
    )

pub returns-in_default-clause-fault : goal.returns-in_default-clause-fault
returns-in_default-clause-fault c =
    let few : c.args.line.ended ≡ false → 3 ≤ length (words c.args.line.text.now) = grind (arith, common_steps) in
    (refl, few, λ values h. none_is_no_some values (c.in_default.ensures.exact ∙ values_read (words c.args.line.text.now) values h.0))

pub returns-clause-found : goal.returns-clause-found
returns-clause-found c =
    let text = c.args.line.text.now in
    let read : values_of (words text) ≡ Some c.as_slice.result.now = sym c.in-Some.ensures.exact ∙ ap (λ (v : List ℤ). Some v) (sym c.as_slice.ensures.value) in
    IfOk-weaker c.rectangular.result _ _ (λ s h. subst (IsBox text) (sym h.0) (box_written text c.as_slice.result.now read (omega arith) (omega arith) h.1)) c.rectangular.ensures.found

pub returns-clause-fault : goal.returns-clause-fault
returns-clause-fault c =
    let text = c.args.line.text.now in
    let read : values_of (words text) ≡ Some c.as_slice.result.now = sym c.in-Some.ensures.exact ∙ ap (λ (v : List ℤ). Some v) (sym c.as_slice.ensures.value) in
    IfErr-weaker c.rectangular.result _ _
    (λ f h. subst (IsBoxFault c.args.number c.args.line.ended text) (sym h.0) (refl, tilted text c.as_slice.result.now read (omega arith) (omega arith) h.1))
    c.rectangular.ensures.fault
