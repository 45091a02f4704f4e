use Rattle.std.proofs.Common.{◌≡◌, ◌<◌, ◌≤◌, ◌++◌, ◌∷◌, [], get_or, length, take, arith, ap, sym, ◌∙◌, map}
use Rattle.std.proofs.lemmas.List.{get_or-map, map_push, take_more}
use Rattle.std.proofs.lemmas.List.Elements.{All-push, All-same}
use Rattle.job.specs.Views.{type_value}
use Rattle.potential.specs.Tables.{no_type}
use Rattle.integrator.specs.Starts.{mass_of}
use Rattle.integrator.proofs.starts.atom_masses.Goals as goal

pub loop-number-preserved : goal.loop-number-preserved
loop-number-preserved g c =
    let f = mass_of (map type_value c.args.kinds.now) in
    let i = c.loop-number.number-index in
    let types = c.args.types.now in
    let items = c.in_ok-push.ensures.items in
    let kind = get_or c.args.kinds.now (get_or types i 0) c.index-kinds-number.result in
    let here : get_or types i 0 < length c.args.kinds.now = c.requires i 0 c.loop-number-test.true in
    let mass : kind.mass ≡ f (get_or types i 0) =
    sym (ap (λ k. k.mass) (get_or-map type_value c.args.kinds.now (get_or types i 0) c.index-kinds-number.result no_type here)) in
    record {
      value =
          items
          ∙ ap (λ m. c.loop-number.masses.items ++ m ∷ []) mass
          ∙ ap (λ ms. ms ++ f (get_or types i 0) ∷ []) c.loop-number.invariant.value
          ∙ sym (ap (map f) (take_more types i 0 (omega arith)) ∙ map_push f (take i types) (get_or types i 0));
      some = All-same (λ m. 0 < m) _ _ items (All-push (λ m. 0 < m) c.loop-number.masses.items kind.mass c.loop-number.invariant.some kind.some_mass);
      most = All-same (λ m. m ≤ 100000000) _ _ items (All-push (λ m. m ≤ 100000000) c.loop-number.masses.items kind.mass c.loop-number.invariant.most kind.most_mass);
    }
