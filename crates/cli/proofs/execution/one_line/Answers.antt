-- a text that isn't cut has no line feed
use Rattle.std.proofs.Common.{string_bytes, sym}
use Rattle.line_text.proofs.LineLaws.{cut_none}
use Rattle.cli.proofs.execution.one_line.Goals as goal

pub returns-in-None-clause-one : goal.returns-in-None-clause-one
returns-in-None-clause-one g c =
    cut_none 10 (string_bytes c.args.text) (rw c.as_bytes.ensures.value at (sym (rw c.in-None.is at c.cut.ensures)))
