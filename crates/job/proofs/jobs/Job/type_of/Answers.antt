-- The facts that the call found are named here, one after the other: a search looks for them for seconds, in vain.
use Rattle.std.proofs.Common.{position, bytes_eq, sym, ap, ◌∙◌}
use Rattle.line_text.specs.Names.{name_text}
use Rattle.job.specs.declared.jobs.AtomType.{AtomType}
use Rattle.job.proofs.jobs.Job.type_of.Goals as goal

pub returns-in-Some-clause-index : goal.returns-in-Some-clause-index
returns-in-Some-clause-index g c =
    sym c.in-Some.is ∙ c.type_index.ensures.index ∙ ap (position (λ (t : AtomType g.row.A.Denot). bytes_eq (name_text t.name) c.args.name.now)) c.as_slice.ensures.value

pub returns-in-None-clause-index : goal.returns-in-None-clause-index
returns-in-None-clause-index g c =
    sym c.in-None.is ∙ c.type_index.ensures.index ∙ ap (position (λ (t : AtomType g.row.A.Denot). bytes_eq (name_text t.name) c.args.name.now)) c.as_slice.ensures.value
