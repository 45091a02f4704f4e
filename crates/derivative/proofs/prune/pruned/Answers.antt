use Rattle.std.proofs.Common.{◌≡◌, ◌∙◌, ap, map, refl}
use Rattle.energy_program.specs.Tree.{tree_of}
use Rattle.energy_program.specs.Uses.{marks_of}
use Rattle.derivative.proofs.Turns.{left}
use Rattle.derivative.proofs.prune.pruned.Goals as goal

pub returns : goal.returns
returns g c =
    let parts = c.args.parts in
    let marks : c.in_ok-marks.marks.items ≡ marks_of (tree_of parts.body) (map tree_of parts.definitions.items) =
    c.in_ok-marks.ensures.are ∙ ap (λ ds. marks_of (tree_of parts.body) (map tree_of ds)) c.deref.ensures.value in
    left c.deref-2.result.now c.deref-3.result.now parts.body c.renumbered-body.result parts.definitions.items parts.definitions.items c.in_ok-definitions.definitions.items
    (c.deref-2.ensures.value ∙ marks) (c.deref-3.ensures.value ∙ marks) refl c.in_ok-definitions.ensures c.renumbered-body.ensures
