use Rattle.std.proofs.Common.{ap, sym, ◌∙◌, get_or, length, IsTrue, map}
use Rattle.std.proofs.lemmas.Result.{IfOk-weaker}
use Rattle.line_text.specs.Identifiers.{is_identifier}
use Rattle.line_text.proofs.Items.{all_alike, length-alike}
use Rattle.potential.proofs.EnergyLaws.{names-views}
use Rattle.potential.proofs.energies.names.Goals as goal

pub new-requires-clause-parameters_named : goal.new-requires-clause-parameters_named
new-requires-clause-parameters_named g c =
    rw c.deref-2.ensures.value
    (all_alike (λ n. IsTrue (is_identifier n)) (λ p. p.now) (λ p. p.items) c.in_ok-parameters.parameters.items c.args.job.now.parameters.items c.in_ok-parameters.ensures.value c.args.job.now.named)

pub new-requires-clause-globals_named : goal.new-requires-clause-globals_named
new-requires-clause-globals_named g c =
    let job = c.args.job.now in
    rw c.deref-3.ensures.value
    (all_alike (λ n. IsTrue (is_identifier n)) (λ p. p.now) (λ p. p.name.items) c.in_ok-globals.globals.items job.globals.items (rw c.deref.ensures.value at c.in_ok-globals.ensures.value) (λ k d h. (get_or job.globals.items k d).named))

pub returns-clause-value : goal.returns-clause-value
returns-clause-value g c =
    let job = c.args.job.now in
    let parameters = ap (map (λ p. p.now)) c.deref-2.ensures.value ∙ c.in_ok-parameters.ensures.value in
    let globals = ap (map (λ p. p.now)) c.deref-3.ensures.value ∙ (rw c.deref.ensures.value at c.in_ok-globals.ensures.value) ∙ sym (names-views job.globals.items) in
    rw (parameters, globals) at c.new.ensures.exact

pub returns-clause-parameters : goal.returns-clause-parameters
returns-clause-parameters g c =
    let job = c.args.job.now in
    IfOk-weaker c.new.result _ _
    (λ n h. h ∙ ap length c.deref-2.ensures.value ∙ length-alike (λ p. p.now) (λ p. p.items) c.in_ok-parameters.parameters.items job.parameters.items c.in_ok-parameters.ensures.value)
    c.new.ensures.parameters

pub returns-clause-globals : goal.returns-clause-globals
returns-clause-globals g c =
    let job = c.args.job.now in
    IfOk-weaker c.new.result _ _
    (λ n h. h ∙ ap length c.deref-3.ensures.value ∙ length-alike (λ p. p.now) (λ p. p.name.items) c.in_ok-globals.globals.items job.globals.items (rw c.deref.ensures.value at c.in_ok-globals.ensures.value))
    c.new.ensures.globals
