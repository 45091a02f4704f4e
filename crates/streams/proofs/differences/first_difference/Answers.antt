use Rattle.std.proofs.Common.{◌≡◌, length, rules, sym, ◌∙◌}
use Rattle.std.proofs.lemmas.List.{length-map}
use Rattle.state.specs.StateViews.{atom_view}
use Rattle.streams.proofs.differences.first_difference.Goals as goal

pub returns-then-len : goal.returns-then-len
returns-then-len g c =
    let differ : length c.args.run.now.atoms.items ≡ length c.args.stored.now.atoms.items → ⊥ = search rules in (
      search rules,
      λ same. differ (
          sym (length-map c.args.run.now.atoms.items atom_view) ∙ same ∙ length-map c.args.stored.now.atoms.items atom_view),
    )

pub returns-then-ne-2 : goal.returns-then-ne-2
returns-then-ne-2 g c =
    let same : length c.args.run.now.atoms.items ≡ length c.args.stored.now.atoms.items = search rules in (
      search rules,
      length-map c.args.run.now.atoms.items atom_view ∙ same ∙ sym (length-map c.args.stored.now.atoms.items atom_view),
      search rules,
    )

pub returns : goal.returns
returns g c =
    let same : length c.args.run.now.atoms.items ≡ length c.args.stored.now.atoms.items = search rules in (
      search rules,
      length-map c.args.run.now.atoms.items atom_view ∙ same ∙ sym (length-map c.args.stored.now.atoms.items atom_view),
      search rules,
      search rules,
    )
