use Rattle.clap.specs.Words.{found_of, rows_of}
use Rattle.command_line.proofs.PartLaws.{counter_read}
use Rattle.command_line.proofs.values.counter_of.Goals as goal

pub returns : goal.returns
returns c =
    counter_read c.args.name.now (rows_of (found_of c.args.matches.now)) c.in_ok-text.text.now c.counter.result c.in_ok-text.ensures
    c.counter.ensures
