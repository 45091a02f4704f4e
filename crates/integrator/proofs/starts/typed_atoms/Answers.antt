use Rattle.std.proofs.Common.{sym, ◌∙◌}
use Rattle.std.proofs.lemmas.Result.{err_from_is_err_and}
use Rattle.job.specs.Views.{job_value}
use Rattle.state.specs.StateViews.{state_view}
use Rattle.integrator.proofs.StartLaws.{alike, bits_unlike, no_room, typed, types_refused, unlike}
use Rattle.integrator.proofs.starts.typed_atoms.Goals as goal

pub returns-then-bits-clause-value : goal.returns-then-bits-clause-value
returns-then-bits-clause-value g c =
    bits_unlike (job_value c.args.job.now) (state_view c.args.state.now) (unlike c.args.job.now.frac c.args.state.now.frac c.bits.result c.bits-2.result c.bits.ensures.value c.bits-2.ensures.value c.if-bits.true)

pub returns-in_err-types-clause-value : goal.returns-in_err-types-clause-value
returns-in_err-types-clause-value g c =
    let p = err_from_is_err_and c.from_residual.result c.from_residual.ensures.1 in
    let same = alike c.args.job.now.frac c.args.state.now.frac c.bits.result c.bits-2.result c.bits.ensures.value c.bits-2.ensures.value c.if-bits.false in
    rw (p.1, p.2) (types_refused (job_value c.args.job.now) (state_view c.args.state.now) c.in_err-types.field-0.0 same (rw c.deref.ensures.value at c.in_err-types.ensures.value))

pub returns-then-not-has_room-clause-value : goal.returns-then-not-has_room-clause-value
returns-then-not-has_room-clause-value g c =
    let same = alike c.args.job.now.frac c.args.state.now.frac c.bits.result c.bits-2.result c.bits.ensures.value c.bits-2.ensures.value c.if-bits.false in
    no_room (job_value c.args.job.now) (state_view c.args.state.now) c.in_ok-types.types.items same (rw c.deref.ensures.value at c.in_ok-types.ensures.value) (sym c.has_room.ensures ∙ c.if-not-has_room.true)

pub returns-clause-value : goal.returns-clause-value
returns-clause-value g c =
    let same = alike c.args.job.now.frac c.args.state.now.frac c.bits.result c.bits-2.result c.bits.ensures.value c.bits-2.ensures.value c.if-bits.false in
    typed (job_value c.args.job.now) (state_view c.args.state.now) c.in_ok-types.types.items same (rw c.deref.ensures.value at c.in_ok-types.ensures.value) (sym c.has_room.ensures ∙ c.if-not-has_room.false)
