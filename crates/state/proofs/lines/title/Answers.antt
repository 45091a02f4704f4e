use Rattle.std.proofs.Common.{◌≡◌, Some, sym, rules}
use Rattle.state.specs.StateReading.{title_of}
use Rattle.state.proofs.LineLaws.{title_reader}
use Rattle.state.proofs.lines.title.Goals as goal

read : (c : goal.Else-eq) → Some c.in_ok-title.title.now ≡ title_of c.args.line.now
unfolding title_of
read c = search rules

pub returns-clause-title : goal.returns-clause-title
returns-clause-title c = (title_reader.found c.args.line.now c.in_ok-title.title.now c.requires (sym (read c))).1
