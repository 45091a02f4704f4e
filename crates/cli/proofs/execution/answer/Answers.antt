-- the text of the help or of the version was printed, or there is a reason why not
use Rattle.std.proofs.Common.{inl, inr, string_bytes}
use Rattle.cli.specs.Command.{version_line}
use Rattle.cli.proofs.RefusalLaws.{help_answered, no_answer, some_text, version_answered}
use Rattle.cli.proofs.execution.answer.Goals as goal

pub returns-in-DisplayHelp-clause-answered : goal.returns-in-DisplayHelp-clause-answered
returns-in-DisplayHelp-clause-answered g c =
    help_answered (λ s. string_bytes s) c.help_text.result c.write_line.result _ _ _ (rw c.kind.ensures at c.in-DisplayHelp.is) c.help_text.ensures c.write_line.ensures

pub returns-in-DisplayHelp-clause-not_answered : goal.returns-in-DisplayHelp-clause-not_answered
returns-in-DisplayHelp-clause-not_answered g c =
    let text = some_text (λ s. string_bytes s) c.help_text.result c.help_text.ensures in
    no_answer c.write_line.result _ text.0 _ _ (λ begun. inl (rw c.kind.ensures at c.in-DisplayHelp.is, (text.0, text.1, begun))) (c.write_line.ensures text.0 text.2)

pub returns-in-DisplayVersion-clause-answered : goal.returns-in-DisplayVersion-clause-answered
returns-in-DisplayVersion-clause-answered g c =
    version_answered c.write_line-in-DisplayVersion.result _ _ _ (rw c.kind.ensures at c.in-DisplayVersion.is) (c.write_line-in-DisplayVersion.ensures version_line c.version_text.ensures)

pub returns-in-DisplayVersion-clause-not_answered : goal.returns-in-DisplayVersion-clause-not_answered
returns-in-DisplayVersion-clause-not_answered g c =
    no_answer c.write_line-in-DisplayVersion.result _ version_line _ _ (λ begun. inr (rw c.kind.ensures at c.in-DisplayVersion.is, begun)) (c.write_line-in-DisplayVersion.ensures version_line c.version_text.ensures)
