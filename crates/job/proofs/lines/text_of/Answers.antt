use Rattle.std.proofs.lemmas.Str.{IsUtf8-from_ascii}
use Rattle.job.proofs.lines.text_of.Goals as goal

pub unreachable-requires : goal.unreachable-requires
unreachable-requires g c = c.in-Err.ensures.cases.0 (IsUtf8-from_ascii c.args.name.now c.requires)
