use Rattle.std.proofs.Common.{List, Err, refl, subst, arith}
use Rattle.std.proofs.lemmas.Result.{err_from_is_err_and}
use Rattle.kernel_code.specs.declared.instructions.Instr.{Instr}
use Rattle.kernel_code.specs.Code.{ChecksAs}
use Rattle.kernel_code.proofs.codes.Code.new.Goals as goal

pub invariant_of-result : goal.invariant_of-result
invariant_of-result g c = record { short = omega arith; forward = rw c.as_slice.ensures.value at c.in_ok-check_targets.ensures.forward }

pub returns : goal.returns
returns g c = (refl, record { short = omega arith; forward = rw c.as_slice.ensures.value at c.in_ok-check_targets.ensures.forward })

pub returns-in_err-check_targets : goal.returns-in_err-check_targets
returns-in_err-check_targets g c =
    let p = err_from_is_err_and c.from_residual.result c.from_residual.ensures.1 in
    rw (p.1, p.2) (subst (λ (is : List Instr). ChecksAs is (Err c.in_err-check_targets.field-0.0)) c.as_slice.ensures.value c.in_err-check_targets.ensures.fault)
