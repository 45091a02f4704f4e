use Rattle.std.proofs.Common.{rules, ◌≡◌, ap, get_or, true, refl}
use Rattle.fixed.specs.Fractions.{bits_of}
use Rattle.energy_program.specs.Tree.{tree_of}
use Rattle.derivative.specs.Written.{moved, power_tree, unless_free, slope_tree}
use Rattle.derivative.proofs.Written.{on_ok_is, at_negated, at_binary, at_applied, at_power, at_select}
use Rattle.derivative.proofs.slopes.+differentiate.Goals as goal

pub differentiate-returns-in_ok-differentiate-in-Negated-clause-tree : goal.differentiate-returns-in_ok-differentiate-in-Negated-clause-tree
differentiate-returns-in_ok-differentiate-in-Negated-clause-tree g t c =
    let setting = c.args.setting.now in
    on_ok_is _ _ _ _ c.negate.ensures.tree
    (at_negated (bits_of setting.frac) (λ j. get_or setting.free.now j true) setting.by (tree_of c.args.tree.now)
    _ _ _ (ap tree_of c.in-Negated.is) (ap tree_of c.deref.ensures)
    c.in_ok-differentiate-in-Negated.ensures.tree c.in_ok-differentiate-in-Negated.ensures.free)

pub differentiate-returns-in_ok-differentiate-in-Binary-clause-tree : goal.differentiate-returns-in_ok-differentiate-in-Binary-clause-tree
differentiate-returns-in_ok-differentiate-in-Binary-clause-tree g t c =
    let setting = c.args.setting.now in
    on_ok_is _ _ _ _ c.differentiate_operation.ensures.tree
    (at_binary (bits_of setting.frac) (λ j. get_or setting.free.now j true) setting.by (tree_of c.args.tree.now)
    _ _ _ _ _ _ _ (ap tree_of c.in-Binary.is)
    (ap tree_of c.deref-in-Binary.ensures) (ap tree_of c.deref-in-Binary-3.ensures)
    (ap tree_of c.deref-in-Binary-2.ensures) (ap tree_of c.deref-in-Binary-3.ensures)
    c.in_ok-differentiate-in-Binary.ensures.tree c.in_ok-differentiate-in-Binary.ensures.free refl refl)

pub differentiate-returns-in_ok-differentiate-in-Applied-clause-tree : goal.differentiate-returns-in_ok-differentiate-in-Applied-clause-tree
differentiate-returns-in_ok-differentiate-in-Applied-clause-tree g t c =
    let setting = c.args.setting.now in
    on_ok_is _ _ _ _ c.apply.ensures.tree
    (at_applied (bits_of setting.frac) (λ j. get_or setting.free.now j true) setting.by (tree_of c.args.tree.now)
    _ _ _ _ (ap tree_of c.in-Applied.is)
    (ap tree_of c.deref-in-Applied.ensures) (ap tree_of c.deref-in-Applied-2.ensures)
    c.in_ok-differentiate-in-Applied.ensures.tree c.in_ok-differentiate-in-Applied.ensures.free)

pub differentiate-returns-in_ok-differentiate-in-Power-clause-tree : goal.differentiate-returns-in_ok-differentiate-in-Power-clause-tree
differentiate-returns-in_ok-differentiate-in-Power-clause-tree g t c =
    let setting = c.args.setting.now in
    let du = c.differentiate-in-Power.new.du in
    let u = tree_of c.deref-in-Power-2.result.now in
    let written : unless_free du.free (power_tree (bits_of setting.frac) c.in-Power.exponent (moved setting.by u) (tree_of du.tree))
    ≡ slope_tree (bits_of setting.frac) (λ j. get_or setting.free.now j true) setting.by (tree_of c.args.tree.now) =
    at_power (bits_of setting.frac) (λ j. get_or setting.free.now j true) setting.by (tree_of c.args.tree.now)
    _ _ _ _ (ap tree_of c.in-Power.is)
    (ap tree_of c.deref-in-Power.ensures) (ap tree_of c.deref-in-Power-2.ensures)
    c.in_ok-differentiate-in-Power.ensures.tree c.in_ok-differentiate-in-Power.ensures.free in
    search (rules, written)

pub differentiate-returns-in_ok-differentiate-in-Select-clause-tree : goal.differentiate-returns-in_ok-differentiate-in-Select-clause-tree
differentiate-returns-in_ok-differentiate-in-Select-clause-tree g t c =
    let setting = c.args.setting.now in
    on_ok_is _ _ _ _ c.differentiate_choice.ensures.tree
    (at_select (bits_of setting.frac) (λ j. get_or setting.free.now j true) setting.by (tree_of c.args.tree.now)
    _ _ _ _ _ _ _ _ (ap tree_of c.in-Select.is)
    (ap tree_of c.deref-in-Select.ensures) (ap tree_of c.deref-in-Select-3.ensures)
    (ap tree_of c.deref-in-Select-2.ensures) (ap tree_of c.deref-in-Select-2.ensures)
    c.in_ok-differentiate-in-Select.ensures.tree c.in_ok-differentiate-in-Select.ensures.free refl refl refl)
