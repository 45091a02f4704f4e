use Rattle.engine.proofs.ObserverLaws.{observer_goes_on}
use Rattle.engine.proofs.observers.observers_go_on.Goals as goal

pub returns : goal.returns
returns c = observer_goes_on
