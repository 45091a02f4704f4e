use Rattle.std.proofs.Common.{codes}
use Rattle.clap.specs.Words.{found_of, rows_of}
use Rattle.command_line.proofs.PartLaws.{part_read}
use Rattle.command_line.proofs.values.part_of.Goals as goal

pub returns : goal.returns
returns c =
    part_read (codes "part") (rows_of (found_of c.args.matches.now)) c.in_ok-text.text.now c.part_of_all.result c.in_ok-text.ensures
    c.part_of_all.ensures
