use Rattle.std.proofs.Common.{◌∙◌, sym}
use Rattle.interval_domain.specs.Views.{range_of}
use Rattle.error_bounds.proofs.Rooms.{slight_moderate}
use Rattle.error_bounds.proofs.products.are_moderate.Goals as goal

pub returns-then-are_slight : goal.returns-then-are_slight
returns-then-are_slight c =
    let slight = c.are_slight.ensures c.if-are_slight.true in
    c.if-are_slight.true ∙ sym (slight_moderate (range_of c.args.factors) (range_of c.args.errors) c.requires.factors slight)
