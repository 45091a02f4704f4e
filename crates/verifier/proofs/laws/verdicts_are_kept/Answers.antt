use Rattle.verifier.proofs.Soundness.{accepted_is_safe, refused_is_wrong}
use Rattle.verifier.proofs.laws.verdicts_are_kept.Goals as goal

pub returns-clause-accepted : goal.returns-clause-accepted
returns-clause-accepted c = accepted_is_safe

pub returns-clause-refused : goal.returns-clause-refused
returns-clause-refused c = refused_is_wrong
