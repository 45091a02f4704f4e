use Rattle.rounds.proofs.EventLemmas.{opens, claims, deposits, cuts, joins}
use Rattle.rounds.proofs.laws.steps_are_events.Goals as goal

pub returns : goal.returns
returns c = record { opens = opens; claims = claims; deposits = deposits; cuts = cuts; joins = joins }
