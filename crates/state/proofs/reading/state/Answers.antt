use Rattle.std.proofs.Common.{rules, ◌≡◌, ℤ, IfErr, IfOk, subst, sym, arith, w64, to_z, of_z}
use Rattle.std.proofs.lemmas.Grind.{common_steps}
use Rattle.std.proofs.lemmas.Result.{IfErr-weaker, IfOk-weaker, err_from_is_err_and}
use Rattle.fallible.proofs.FailureLaws.{refused_weaker}
use Rattle.fallible.specs.Failures.{IfRefused}
use Rattle.state.specs.StateFaults.{HasFault, IsCounted, count_format}
use Rattle.state.specs.StateReading.{count_number}
use Rattle.state.specs.StateViews.{state_view}
use Rattle.state.proofs.FormatLaws.{fault_here, fault_past}
use Rattle.state.proofs.LineLaws.{head_reader, step_reader, title_reader}
use Rattle.state.proofs.StateFits.{state_fits}
use Rattle.state.proofs.StateLaws.{bits_fault, fault_past_bits, text_found}
use Rattle.state.proofs.reading.state.Goals as goal

pub returns-in_err-text-clause-fault : goal.returns-in_err-text-clause-fault
returns-in_err-text-clause-fault g c =
    let p = err_from_is_err_and c.from_residual.result c.from_residual.ensures.1 in
    rw (p.1, p.2) (fault_here head_reader _ 1 _ _ (grind (arith, common_steps)))

pub returns-in_err-version-clause-fault : goal.returns-in_err-version-clause-fault
returns-in_err-version-clause-fault g c =
    let p = err_from_is_err_and c.from_residual-in_err-version.result c.from_residual-in_err-version.ensures.1 in
    rw (p.1, p.2) (fault_here head_reader _ 1 _ _ (grind (arith, common_steps)))

pub returns-in_err-text-2-clause-fault : goal.returns-in_err-text-2-clause-fault
returns-in_err-text-2-clause-fault g c =
    let p = err_from_is_err_and c.from_residual-in_err-text-2.result c.from_residual-in_err-text-2.ensures.1 in
    rw (p.1, p.2) (fault_past head_reader _ 1 _ _ c.in_ok-version.version c.in_ok-text.rest.now (grind (arith, common_steps)) (fault_here title_reader _ 2 _ _ (grind (arith, common_steps))))

pub returns-in_err-title-clause-fault : goal.returns-in_err-title-clause-fault
returns-in_err-title-clause-fault g c =
    let p = err_from_is_err_and c.from_residual-in_err-title.result c.from_residual-in_err-title.ensures.1 in
    rw (p.1, p.2) (fault_past head_reader _ 1 _ _ c.in_ok-version.version c.in_ok-text.rest.now (grind (arith, common_steps)) (fault_here title_reader _ 2 _ _ (grind (arith, common_steps))))

pub returns-in_err-text-3-clause-fault : goal.returns-in_err-text-3-clause-fault
returns-in_err-text-3-clause-fault g c =
    let p = err_from_is_err_and c.from_residual-in_err-text-3.result c.from_residual-in_err-text-3.ensures.1 in
    rw (p.1, p.2) (fault_past head_reader _ 1 _ _ c.in_ok-version.version c.in_ok-text.rest.now (grind (arith, common_steps)) (fault_past title_reader _ 2 _ _ c.in_ok-title.title.now c.in_ok-text-2.rest.now (grind (arith, common_steps)) (fault_here step_reader _ 3 _ _ (grind (arith, common_steps)))))

pub returns-in_err-step-clause-fault : goal.returns-in_err-step-clause-fault
returns-in_err-step-clause-fault g c =
    let p = err_from_is_err_and c.from_residual-in_err-step.result c.from_residual-in_err-step.ensures.1 in
    rw (p.1, p.2) (fault_past head_reader _ 1 _ _ c.in_ok-version.version c.in_ok-text.rest.now (grind (arith, common_steps)) (fault_past title_reader _ 2 _ _ c.in_ok-title.title.now c.in_ok-text-2.rest.now (grind (arith, common_steps)) (fault_here step_reader _ 3 _ _ (grind (arith, common_steps)))))

pub returns-in_err-frac-clause-fault : goal.returns-in_err-frac-clause-fault
returns-in_err-frac-clause-fault g c =
    let p = err_from_is_err_and c.from_residual-in_err-frac.result c.from_residual-in_err-frac.ensures.1 in
    rw (p.1, p.2) (fault_past head_reader _ 1 _ _ c.in_ok-version.version c.in_ok-text.rest.now (grind (arith, common_steps)) (fault_past title_reader _ 2 _ _ c.in_ok-title.title.now c.in_ok-text-2.rest.now (grind (arith, common_steps)) (fault_past step_reader _ 3 _ _ c.in_ok-step.step c.in_ok-text-3.rest.now (grind (arith, common_steps)) (bits_fault c.in_ok-version.version _ _ _ c.in_err-frac.ensures))))

pub returns-clause-found : goal.returns-clause-found
returns-clause-found g c =
    let step : to_z w64 (of_z w64 c.in_ok-step.step) ≡ c.in_ok-step.step = search rules in
    IfOk-weaker c.from_count.result _ _
    (λ s counted. (
      state_fits s,
      text_found (state_view s) c.in_ok-version.version c.in_ok-title.title.now c.in_ok-step.step c.in_ok-frac.frac c.args.bytes.now c.in_ok-text.rest.now c.in_ok-text-2.rest.now
          c.in_ok-text-3.rest.now c.in_ok-frac.rest.now (grind (arith, common_steps)) (grind (arith, common_steps)) (grind (arith, common_steps)) c.in_ok-frac.ensures counted,
    ))
    (subst (λ (z : ℤ). IfOk c.from_count.result (λ s. IsCounted c.in_ok-title.title.now z c.in_ok-frac.frac c.in_ok-frac.rest.now (state_view s))) step c.from_count.ensures.found)

pub returns-clause-fault : goal.returns-clause-fault
returns-clause-fault g c =
    let step : to_z w64 (of_z w64 c.in_ok-step.step) ≡ c.in_ok-step.step = grind (arith, common_steps) in
    let fault : IfErr c.from_count.result (λ failure. IfRefused failure (HasFault (count_format c.in_ok-title.title.now c.in_ok-step.step c.in_ok-frac.frac) (count_number c.in_ok-version.version) c.in_ok-frac.rest.now)) =
    subst (λ (z : ℤ). IfErr c.from_count.result (λ failure. IfRefused failure (HasFault (count_format c.in_ok-title.title.now z c.in_ok-frac.frac) (count_number c.in_ok-version.version) c.in_ok-frac.rest.now))) step
    (rw (sym c.count_number.ensures.value) c.from_count.ensures.fault) in
    IfErr-weaker c.from_count.result _ _
    (λ failure h. refused_weaker _ _ failure (λ f at. fault_past head_reader _ 1 _ _ c.in_ok-version.version c.in_ok-text.rest.now (grind (arith, common_steps))
    (fault_past title_reader _ 2 _ _ c.in_ok-title.title.now c.in_ok-text-2.rest.now (grind (arith, common_steps))
    (fault_past step_reader _ 3 _ _ c.in_ok-step.step c.in_ok-text-3.rest.now (grind (arith, common_steps))
    (fault_past_bits c.in_ok-version.version _ _ (c.in_ok-frac.frac, c.in_ok-frac.rest.now) f c.in_ok-frac.ensures at)))) h)
    fault
