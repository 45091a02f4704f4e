use Rattle.std.proofs.Common.{◌≤◌, ◌*◌, ap, arith, length}
use Rattle.std.proofs.lemmas.Nat.{mul-le}
use Rattle.cli.proofs.TypeLaws.{few_pairs}
use Rattle.cli.proofs.verdicts.slices_in.Goals as goal

pub overflow_mul-result : goal.overflow_mul-result
overflow_mul-result g c =
    let few = few_pairs (length c.as_slice.result.now) (omega (arith, ap length c.as_slice.ensures.value, c.args.job.now.few_types)) in
    omega (arith, few)

pub overflow_mul-result-2 : goal.overflow_mul-result-2
overflow_mul-result-2 g c =
    let types = length c.as_slice.result.now in
    let few = few_pairs types (omega (arith, ap length c.as_slice.ensures.value, c.args.job.now.few_types)) in
    let most : c.from.result ≤ 65536 = omega (arith, c.from.ensures, c.args.job.now.most_slices) in
    let all = mul-le (types * types) c.from.result 4096 65536 few most in
    omega (arith, all)

pub returns-clause-most : goal.returns-clause-most
returns-clause-most g c =
    let types = length c.as_slice.result.now in
    let few = few_pairs types (omega (arith, ap length c.as_slice.ensures.value, c.args.job.now.few_types)) in
    let most : c.from.result ≤ 65536 = omega (arith, c.from.ensures, c.args.job.now.most_slices) in
    mul-le (types * types) c.from.result 4096 65536 few most
