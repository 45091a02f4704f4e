use Rattle.std.proofs.Common.{◌≡◌, ◌∙◌, ap, length, map, rules}
use Rattle.fixed.specs.Fractions.{bits_of}
use Rattle.curves.specs.Slices.{bound_of_all, bounds_view, in_entry, lesser_bound}
use Rattle.curves.specs.declared.slices.Column.TheVariants.{Energy, Slope}
use Rattle.curves.proofs.LeastLaws.{plain_walk, several_walks}
use Rattle.curves.proofs.slices.PairFormula.least_bounds.Goals as goal

pub returns-then-is_empty : goal.returns-then-is_empty
returns-then-is_empty g c = λ program e.
    let none : length c.in_ok-plain.divided.items ≡ 0 = search rules in
    plain_walk (bits_of c.args.self.now.frac) c.args.inputs.now program 3 c.in_ok-plain.plain c.in_ok-plain.divided.items c.bounds_of-plain.result
    (c.in_ok-plain.ensures.plain program e) (c.in_ok-plain.ensures.divided program e) none c.bounds_of-plain.ensures

pub returns : goal.returns
returns g c = λ program e.
    let some : length c.in_ok-plain.divided.items ≡ 0 → ⊥ = search rules in
    let energy : c.lesser.result ≡ lesser_bound c.plain.inside.energy (bound_of_all (map (in_entry Energy) c.in_ok-plain.divided.items)) =
    c.lesser.ensures
    ∙ ap (lesser_bound c.plain.inside.energy) (c.bound_of_all.ensures ∙ ap (λ l. bound_of_all (map (in_entry Energy) l)) c.deref.ensures.value) in
    let slope : c.lesser-2.result ≡ lesser_bound c.plain.inside.slope (bound_of_all (map (in_entry Slope) c.in_ok-plain.divided.items)) =
    c.lesser-2.ensures
    ∙ ap (lesser_bound c.plain.inside.slope) (c.bound_of_all-2.ensures ∙ ap (λ l. bound_of_all (map (in_entry Slope) l)) c.deref-2.ensures.value) in
    several_walks (bits_of c.args.self.now.frac) c.args.inputs.now program 3 c.in_ok-plain.plain c.in_ok-plain.divided.items
    (bounds_view c.plain.inside.energy c.plain.inside.slope) (bounds_view c.lesser.result c.lesser-2.result) (c.in_ok-plain.ensures.plain program e)
    (c.in_ok-plain.ensures.divided program e) some (c.plain.view_is ∙ c.bounds_of-plain.ensures)
    (ap (λ x. bounds_view x c.lesser-2.result) energy ∙ ap (bounds_view _) slope)
