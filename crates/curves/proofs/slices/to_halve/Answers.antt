use Rattle.std.proofs.Common.{◌∙◌, ap, sym}
use Rattle.std.proofs.lemmas.Option.{slice_get_within}
use Rattle.curves.specs.Slices.{Part, is_done}
use Rattle.curves.proofs.PartLaws.{is_read}
use Rattle.curves.proofs.slices.to_halve.Goals as goal

pub bounds-parts-worst : goal.bounds-parts-worst
bounds-parts-worst c = slice_get_within c.args.parts.now c.worst-worst.result c.worst-worst.ensures.0 c.worst-worst.ensures.1.its

pub returns-then-is_done : goal.returns-then-is_done
returns-then-is_done c =
    let worst = c.worst-worst.ensures in
    let read = is_read c.args.column c.args.parts.now c.worst-worst.result worst.0 c.index-parts-worst.result worst.1 c.index-parts-worst.is in (
      c.worst-worst.result,
      worst.0,
      worst.1,
      ap (λ (p : Part). is_done c.args.column p c.args.tried.now) read ∙ sym c.is_done.ensures ∙ c.if-is_done.true,
    )

pub returns-else-is_done : goal.returns-else-is_done
returns-else-is_done c =
    let worst = c.worst-worst.ensures in
    let read = is_read c.args.column c.args.parts.now c.worst-worst.result worst.0 c.index-parts-worst.result worst.1 c.index-parts-worst.is in (
      worst.0,
      worst.1,
      ap (λ (p : Part). is_done c.args.column p c.args.tried.now) read ∙ sym c.is_done.ensures ∙ c.if-is_done.false,
    )
