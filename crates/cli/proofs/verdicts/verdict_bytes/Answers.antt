-- the written line, or the written prefix, is the verdict on the accepted kernel, after all progress lines
use Rattle.std.proofs.Common.{inl}
use Rattle.cli.specs.Actions.{AreSlices}
use Rattle.cli.specs.Progress.{word_for}
use Rattle.cli.specs.Refusals.{RefusesUnder, RefusesVerdict}
use Rattle.command_line.specs.Views.{bytes_if}
use Rattle.cli.specs.Verdicts.{IsVerdict}
use Rattle.cli.specs.declared.progress.Counted.TheVariants as counted
use Rattle.cli.proofs.RefusalLaws.{line_written}
use Rattle.cli.proofs.VerdictLaws.{verdict}
use Rattle.cli.proofs.WorkLaws.{line_told}
use Rattle.cli.proofs.verdicts.verdict_bytes.Goals as goal

pub returns-clause-wrote : goal.returns-clause-wrote
returns-clause-wrote g c =
    let job = c.args.job.now in
    let listing = bytes_if c.args.listing in
    let is = c.in_ok-known.ensures.is in
    line_written c.write_verdict.result (RefusesUnder job (RefusesVerdict listing)) (IsVerdict job listing) _ _ _ (inl tt)
    (λ written. verdict job listing is.0 is.1 is.2 is.3 _ _ is.4 is.5 _ written)
    (λ begun. verdict job listing is.0 is.1 is.2 is.3 _ _ is.4 is.5 _ begun)
    c.write_verdict.ensures

pub returns-clause-reports : goal.returns-clause-reports
returns-clause-reports g c =
    line_told c.write_verdict.result c.args.progress (word_for counted.Slices) (AreSlices c.args.job.now) _ _ _ _ _ _
    c.in_ok-known.ensures.reports c.write_verdict.ensures
