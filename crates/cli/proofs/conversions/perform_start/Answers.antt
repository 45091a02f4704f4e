-- the written text, or the written prefix, is that of the state that starts under the job
use Rattle.cli.specs.Actions.{StartText}
use Rattle.cli.specs.Command.{HasText}
use Rattle.cli.specs.Refusals.{RefusesText}
use Rattle.cli.proofs.PerformLaws.{text_of_files, text_written}
use Rattle.cli.proofs.conversions.perform_start.Goals as goal

pub returns : goal.returns
returns g c =
    let files = c.in_ok-job.ensures in
    let is = c.in_ok-state.ensures.is in
    let frame = c.args.start.frame in
    let job = c.deref.result.now in
    let gro = c.deref-2.result.now in
    text_of_files c.write_result.result (g.F.Files.held c.args.files.now) (g.F.Files.requested c.args.files.now) (g.F.Files.requested c.read_two.new.files)
    c.args.start.job.now c.args.start.gro.now job gro (λ j x. StartText j x frame)
    _ _ files.0 (rw c.deref.ensures.value files.1) (rw c.deref-2.ensures.value files.2)
    (text_written c.write.result c.write_result.result (RefusesText (StartText job gro frame)) (HasText (StartText job gro frame)) _ _ _
    c.write_result.ensures c.write.ensures.writes
    (λ written. record { said = is.0; state = _; job_text = is.1; started = is.2; written = written })
    (λ begun. record { said = is.0; state = _; job_text = is.1; started = is.2; written = begun }))
