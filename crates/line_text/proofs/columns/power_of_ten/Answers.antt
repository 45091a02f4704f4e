use Rattle.std.proofs.Common.{◌≡◌, ◌^◌, rules, arith}
use Rattle.std.proofs.Math.Nat.{one-le-pow}
use Rattle.line_text.proofs.columns.power_of_ten.Goals as goal

pub returns-clause-some : goal.returns-clause-some
returns-clause-some c =
    let is : c.pow.result ≡ 10 ^ c.args.decimals = search rules in rw is (one-le-pow c.args.decimals 10 (omega arith))
