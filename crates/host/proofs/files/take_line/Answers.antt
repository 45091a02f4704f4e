use Rattle.host.proofs.ReaderLaws.{line_taken}
use Rattle.host.proofs.files.take_line.Goals as goal

pub returns-in-Ok : goal.returns-in-Ok
returns-in-Ok g c = line_taken c.args.text.now.items c.read_until.new.buf.items c.read_until.ensures.appends c.read_until.ensures.stops
