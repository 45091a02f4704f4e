use Rattle.curve_lines.proofs.BodyLaws.{no_rows}
use Rattle.curve_lines.proofs.bodies.Body.new.Goals as goal

pub returns-clause-rows : goal.returns-clause-rows
returns-clause-rows g c = no_rows _ c.new.ensures.items c.new-2.ensures.items c.empty.ensures c.empty-2.ensures
