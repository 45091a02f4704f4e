use Rattle.std.proofs.Common.{◌∙◌, ap, sym}
use Rattle.std.proofs.lemmas.Option.{slice_get_within}
use Rattle.curves.specs.Slices.{Part, in_column}
use Rattle.curves.proofs.PartLaws.{is_read}
use Rattle.curves.proofs.slices.worst_of.Goals as goal

pub bounds-parts-worst : goal.bounds-parts-worst
bounds-parts-worst c = slice_get_within c.args.parts.now c.worst.result c.worst.ensures.0 c.worst.ensures.1.its

pub returns : goal.returns
returns c =
    let worst = c.worst.ensures in
    let read = is_read c.args.column c.args.parts.now c.worst.result worst.0 c.index-parts-worst.result worst.1 c.index-parts-worst.is in (
      c.worst.result,
      worst.0,
      worst.1,
      c.bound.ensures ∙ sym (ap (λ (p : Part). in_column c.args.column p.bounds) read),
      c.range.ensures ∙ sym (ap (λ (p : Part). p.range) read),
    )
