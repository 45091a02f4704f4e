use Rattle.streams.proofs.OneReplay as laws
use Rattle.streams.proofs.laws.replays_are_one.Goals as goal

pub returns-clause-states : goal.returns-clause-states
returns-clause-states c = laws.states_are_one

pub returns-clause-line : goal.returns-clause-line
returns-clause-line c = laws.lines_are_one

pub returns-clause-lines : goal.returns-clause-lines
returns-clause-lines c = laws.replays_are_one
