use Rattle.std.proofs.Common.{rules}
use Rattle.state.proofs.FormatLaws.{line_lacks}
use Rattle.state.proofs.reading.line.Goals as goal

pub returns-clause-whole : goal.returns-clause-whole
returns-clause-whole c = line_lacks c.args.bytes.now c.ok_or.result (search rules)
