use Rattle.std.proofs.Common.{[], ap, false, true}
use Rattle.std.proofs.lemmas.Result.{err_from_is_err_and}
use Rattle.energy_program.specs.Faults.{RepeatedDefinition}
use Rattle.energy_program.proofs.NameLemmas.{repeated_next}
use Rattle.energy_program.proofs.inputs.+refuse_repeated.Goals as goal

pub returns-in_err-name-in-len1-up-clause-refused : goal.returns-in_err-name-in-len1-up-clause-refused
returns-in_err-name-in-len1-up-clause-refused g t c =
    let p = err_from_is_err_and c.from_residual.result c.from_residual.ensures.1 in
    rw (p.1, p.2, repeated_next (λ n. n.now) c.args.names.now (record { ref_ptr = (0, 0); now = [] }) true c.in-len1-up.len_at_least c.if-is_among.ensures) tt

pub returns-then-is_among-clause-refused : goal.returns-then-is_among-clause-refused
returns-then-is_among-clause-refused g t c =
    rw (repeated_next (λ n. n.now) c.args.names.now (record { ref_ptr = (0, 0); now = [] }) true c.in-len1-up.len_at_least c.if-is_among.ensures)
    (ap RepeatedDefinition c.in_ok-name-in-len1-up.ensures)

pub returns-else-is_among-clause-once : goal.returns-else-is_among-clause-once
returns-else-is_among-clause-once g t c =
    rw (repeated_next (λ n. n.now) c.args.names.now (record { ref_ptr = (0, 0); now = [] }) false c.in-len1-up.len_at_least c.if-is_among.ensures)
    c.refuse_repeated.ensures.once

pub returns-else-is_among-clause-refused : goal.returns-else-is_among-clause-refused
returns-else-is_among-clause-refused g t c =
    rw (repeated_next (λ n. n.now) c.args.names.now (record { ref_ptr = (0, 0); now = [] }) false c.in-len1-up.len_at_least c.if-is_among.ensures)
    c.refuse_repeated.ensures.refused
