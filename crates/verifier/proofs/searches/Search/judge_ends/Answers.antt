use Rattle.verifier.specs.Verdicts.{first, neither, second}
use Rattle.verifier.proofs.Searching.{at_ends}
use Rattle.verifier.proofs.searches.Search.judge_ends.Goals as goal

pub returns-in-Err : goal.returns-in-Err
returns-in-Err g c = at_ends _ _ _ _ _ _ _ _ c.requires.two c.requires.stopped (first c.in-Err.ensures)

pub returns-in-Err-judge_one : goal.returns-in-Err-judge_one
returns-in-Err-judge_one g c = at_ends _ _ _ _ _ _ _ _ c.requires.two c.requires.stopped (second c.in_default.ensures c.in-Err-judge_one.ensures)

pub returns : goal.returns
returns g c = at_ends _ _ _ _ _ _ _ _ c.requires.two c.requires.stopped (neither c.in_default.ensures c.in_default-judge_one.ensures)
