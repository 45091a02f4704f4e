-- the result of the arguments, by the status and on standard error
use Rattle.std.proofs.Common.{map}
use Rattle.cli.proofs.AnswerLaws.{answers_done, answers_fault, failure_told, faulty}
use Rattle.cli.proofs.ProgressLaws.{begun, told_behind}
use Rattle.cli.proofs.execution.execute.Goals as goal

pub returns-in-Ok-clause-answers : goal.returns-in-Ok-clause-answers
returns-in-Ok-clause-answers g c =
    answers_done _ _ _ _ _ _ _ _ _ c.code.ensures.code c.in-Ok.ensures.done c.in-Ok.ensures.quiet

pub returns-in-Ok-clause-fails : goal.returns-in-Ok-clause-fails
returns-in-Ok-clause-fails g c = λ some. absurd (some c.code.ensures.code)

pub returns-in-Ok-clause-undone : goal.returns-in-Ok-clause-undone
returns-in-Ok-clause-undone g c = λ some. absurd (some c.code.ensures.code)

pub returns-in-Err-clause-answers : goal.returns-in-Err-clause-answers
returns-in-Err-clause-answers g c =
    answers_fault _ _ _ _ _ _ _ _ _ _ _ c.requires.err c.in-Err.ensures.undone c.report_if_counted-status.ensures

pub returns-in-Err-clause-undone : goal.returns-in-Err-clause-undone
returns-in-Err-clause-undone g c =
    let words = map g.S.AsStr.text c.args.words.now in
    let undone = c.in-Err.ensures.undone in
    let lines = begun words _ _ _ _ _ _ _ _ undone in
    λ some. (_, faulty words _ _ _ _ _ _ _ _ undone, told_behind words _ _ _ _ _ _ _ _ lines c.report_if_counted-status.ensures)

pub returns-in-Err-clause-fails : goal.returns-in-Err-clause-fails
returns-in-Err-clause-fails g c = λ some. failure_told _ _ _ _ _ _ _ _ _ _ _ c.in-Err.ensures.undone c.report_if_counted-status.ensures
