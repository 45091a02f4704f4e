use Rattle.std.proofs.Common.{ap, arith, length}
use Rattle.cli.proofs.TypeLaws.{few_pairs}
use Rattle.cli.proofs.curve_tables.tables_in.Goals as goal

pub overflow_mul-result : goal.overflow_mul-result
overflow_mul-result g c =
    let few = few_pairs (length c.as_slice.result.now) (omega (arith, ap length c.as_slice.ensures.value, c.args.job.now.few_types)) in
    omega (arith, few)

pub returns-in-None-clause-most : goal.returns-in-None-clause-most
returns-in-None-clause-most g c =
    few_pairs (length c.as_slice.result.now) (omega (arith, ap length c.as_slice.ensures.value, c.args.job.now.few_types))
