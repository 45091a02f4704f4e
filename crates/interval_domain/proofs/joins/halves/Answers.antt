use Rattle.std.proofs.Common.{arith, refl, rules}
use Rattle.std.proofs.lemmas.Int.{ints}
use Rattle.interval_domain.proofs.MemberLemmas.{parts_of}
use Rattle.interval_domain.proofs.joins.halves.Goals as goal

pub returns-clause-cut : goal.returns-clause-cut
returns-clause-cut c = record { from = refl; middle = search rules; next = omega (arith, ints); to = refl }

pub returns-clause-members : goal.returns-clause-members
returns-clause-members c = parts_of c.args.span _ _ (returns-clause-cut c)
