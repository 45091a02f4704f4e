use Rattle.state.proofs.TakeLaws.{takes_text}
use Rattle.state.proofs.sources.next_text.Goals as goal

pub returns-clause-takes : goal.returns-clause-takes
returns-clause-takes g c =
    takes_text c.in_ok-take_lines.field-0 c.in_ok-more.more _ (g.L.Lines.left c.take_front.new.lines) _ c.take_front.new.text.items _ c.in_ok-more.ensures.takes c.in_ok-take_lines.ensures.takes
