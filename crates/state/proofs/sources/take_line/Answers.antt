use Rattle.std.proofs.Common.{◌∙◌, List, ℕ, ap, is_some}
use Rattle.line_text.specs.Parts.{split_once}
use Rattle.state.proofs.TakeLaws.{from_at, takes_one}
use Rattle.state.proofs.sources.take_line.Goals as goal

pub returns-clause-takes : goal.returns-clause-takes
returns-clause-takes g c =
    let line = from_at c.as_slice-at.result.now c.deref.result.now c.args.text.now.items c.take.new.text.items c.text_from.result.now c.text_from.ensures c.as_slice-at.ensures.value c.deref.ensures.value in
    takes_one c.is_whole.result _ _ c.args.text.now.items c.take.new.text.items c.in_ok-take.ensures.takes (c.is_whole.ensures ∙ ap (λ (t : List ℕ). is_some (split_once 10 t)) line)
