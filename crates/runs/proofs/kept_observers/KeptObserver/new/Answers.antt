use Rattle.std.proofs.Common.{refl}
use Rattle.runs.proofs.kept_observers.KeptObserver.new.Goals as goal

pub returns-clause-ready : goal.returns-clause-ready
returns-clause-ready g c = record {
  keeps = λ _. record { observer = c.in_ok-observer.observer; is = refl; observes = c.in_ok-observer.ensures.observer };
}
