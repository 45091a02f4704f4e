use Rattle.error_bounds.proofs.DecimalLaws.{decimal_was_read, negative_was_read}
use Rattle.error_bounds.proofs.laws.decimals_are_read.Goals as goal

pub returns-clause-decimals : goal.returns-clause-decimals
returns-clause-decimals g c = λ k h bits m p d x is e. decimal_was_read k h bits m p d x is e

pub returns-clause-negatives : goal.returns-clause-negatives
returns-clause-negatives g c = λ k h bits d x w. negative_was_read k h bits d x w
