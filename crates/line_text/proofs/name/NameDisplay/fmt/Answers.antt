use Rattle.std.proofs.lemmas.Str.{IsUtf8-from_ascii}
use Rattle.line_text.proofs.NameLaws.{name_ascii}
use Rattle.line_text.proofs.name.NameDisplay.fmt.Goals as goal

pub unreachable-requires : goal.unreachable-requires
unreachable-requires g c =
    let text = c.as_bytes.result.now in
    c.in-Err.ensures.cases.0 (IsUtf8-from_ascii text (name_ascii text c.as_bytes.ensures.named))
