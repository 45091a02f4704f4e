use Rattle.streams.proofs.OneRunLaws as laws
use Rattle.streams.proofs.ShownStates.{shown_states_are_replayed}
use Rattle.streams.proofs.laws.one_runs_are_replayed.Goals as goal

pub returns-clause-same : goal.returns-clause-same
returns-clause-same c = laws.one_runs_are_replayed

pub returns-clause-shown : goal.returns-clause-shown
returns-clause-shown c = shown_states_are_replayed

pub returns-clause-differ : goal.returns-clause-differ
returns-clause-differ c = laws.differing_are_no_run
