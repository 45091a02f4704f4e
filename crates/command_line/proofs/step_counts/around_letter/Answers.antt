use Rattle.std.proofs.Common.{None, arith}
use Rattle.std.proofs.lemmas.Str.Pattern.{split_parts}
use Rattle.command_line.proofs.CountLaws.{large_parts}
use Rattle.command_line.proofs.step_counts.around_letter.Goals as goal

pub returns-in-None : goal.returns-in-None
returns-in-None c =
    let small = split_parts 101 c.args.text.now None c.in-None.ensures.cases (omega arith) in
    large_parts c.args.text.now c.split_once-in-None.result small c.split_once-in-None.ensures.cases
