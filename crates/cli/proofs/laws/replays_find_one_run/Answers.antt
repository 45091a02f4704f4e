use Rattle.cli.proofs.ReplayLaws.{runs_are_not_refused, streams_are_one_run}
use Rattle.cli.proofs.laws.replays_find_one_run.Goals as goal

pub returns-clause-found : goal.returns-clause-found
returns-clause-found c = streams_are_one_run c.same_streams_are_one_run.ensures c.replays_are_one.ensures.states

pub returns-clause-accepted : goal.returns-clause-accepted
returns-clause-accepted c = runs_are_not_refused c.one_runs_are_replayed.ensures.same c.replays_are_one.ensures.lines
