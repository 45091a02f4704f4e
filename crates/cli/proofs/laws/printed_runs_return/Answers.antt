use Rattle.cli.proofs.ReturnLaws.{printed_runs_return}
use Rattle.cli.proofs.laws.printed_runs_return.Goals as goal

pub returns : goal.returns
returns c = printed_runs_return
