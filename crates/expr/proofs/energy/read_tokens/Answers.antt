use Rattle.std.proofs.Common.{arith}
use Rattle.std.proofs.lemmas.List.{length-map}
use Rattle.expr.specs.Syntax.{definition_of}
use Rattle.expr.proofs.Programs.{source_few}
use Rattle.expr.proofs.energy.read_tokens.Goals as goal

pub read_source-requires : goal.read_source-requires
read_source-requires g c =
    let few = source_few _ _ _ c.in_ok-source.ensures in
    let count = length-map c.in_ok-source.source.definitions.items definition_of in
    omega (arith, few, count)
