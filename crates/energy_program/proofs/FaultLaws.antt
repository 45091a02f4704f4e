-- Failures that say why reading fails.
use Rattle.std.proofs.Common.{◌≡◌, Result, Err}
use Rattle.line_text.specs.Steps.{◌>>=◌}
use Rattle.line_text.proofs.StepLaws.{bind_err}
use Rattle.fallible.proofs.FailureLaws.{fails_as}
use Rattle.fallible.specs.declared.failure.Failure.{Failure}
use Rattle.fallible.specs.declared.failure.Failure.TheVariants.{Refused, Memory}
use Rattle.energy_program.specs.declared.faults.ExprFault.{ExprFault}
use Rattle.energy_program.specs.Faults.{Refusal, Fails, IsFaultOrMemory, refusal_of}

-- if a reading fails, the reading followed by further steps fails with the same error
pub fails_then : {C A B : Type 0} (e : Failure (ExprFault C)) (r : Result A Refusal) (f : A → Result B Refusal) → Fails e r → Fails e (r >>= f)
fails_then e r f h = fails_as refusal_of e r (r >>= f) (λ said is. bind_err r f said is) h

-- if a result fails, an equal result fails with the same error
pub fails_same : {C A : Type 0} (e : Failure (ExprFault C)) (r s : Result A Refusal) → s ≡ r → Fails e r → Fails e s
fails_same e r s same h = rw same h

-- if a reading returns a refusal and the failure states the refusal, the reading fails with the failure
pub fails_says : {C A : Type 0} (e : Failure (ExprFault C)) (r : Refusal) (read : Result A Refusal) → read ≡ Err r → IsFaultOrMemory e r → Fails e read
fails_says (Refused fault) r read h k = rw k h
fails_says Memory r read h k = tt
