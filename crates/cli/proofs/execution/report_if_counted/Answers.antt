-- if no further failed write can be counted, no text is printed
use Rattle.std.proofs.Common.{◌∙◌, ap, arith, inl, inr, refl, codes}
use Rattle.cli.specs.Statuses.{status_number, status_of}
use Rattle.cli.proofs.Printing.{memory_reason}
use Rattle.cli.proofs.execution.report_if_counted.Goals as goal

pub returns-else-failures-lt18446744073709551615 : goal.returns-else-failures-lt18446744073709551615
returns-else-failures-lt18446744073709551615 g c = inl (c.code.ensures.code ∙ ap status_number c.status.ensures, (codes "Memory", memory_reason (status_of c.args.fault.now), inr (refl, omega arith)))
