use Rattle.kernel_lanes.specs.declared.queries.Query.{Query}
use Rattle.kernel_lanes.specs.Lanes.{IsServed}
use Rattle.kernel_machine.proofs.Accepted.{gives_value, promised}
use Rattle.kernel_machine.proofs.running.run.Goals as goal

pub follow-ended-requires-clause-gives : goal.follow-ended-requires-clause-gives
follow-ended-requires-clause-gives g c =
    let query : Query = record { a = c.args.a; b = c.args.b; r = c.args.r } in
    let served : IsServed c.args.kernel.now query = record { first = c.requires.first; second = c.requires.second; low = c.requires.low; high = c.requires.high } in
    rw (c.inputs-inputs.ensures, c.frac.ensures, c.as_slice-code.ensures.items, c.code.ensures.code, c.table-table.ensures)
    (gives_value c.args.kernel.now query c.code.ensures.kernel served)

pub returns : goal.returns
returns g c =
    let query : Query = record { a = c.args.a; b = c.args.b; r = c.args.r } in
    let served : IsServed c.args.kernel.now query = record { first = c.requires.first; second = c.requires.second; low = c.requires.low; high = c.requires.high } in
    let ends = rw (c.inputs-inputs.ensures, c.frac.ensures, c.as_slice-code.ensures.items, c.code.ensures.code, c.table-table.ensures) at c.follow-ended.ensures in
    let kept = promised c.args.kernel.now query c.code.ensures.kernel served c.follow-ended.result.turns c.follow-ended.result.value ends in
    record { ends = ends; few = kept.0; small = kept.1 }
