use Rattle.std.proofs.Common.{◌≡◌, ◌+◌, ◌<◌, ◌∷◌, [], length, drop, arith, ap, sym, refl, ◌∙◌, add-one, length-append, map}
use Rattle.std.proofs.lemmas.List.Elements.{All-push, All-nil, All-same}
use Rattle.std.proofs.Math.Seq.{drop-length}
use Rattle.line_text.specs.Names.{name_text}
use Rattle.job.specs.Views.{type_value}
use Rattle.state.specs.StateViews.{atom_view}
use Rattle.integrator.specs.Starts.{atom_types}
use Rattle.integrator.proofs.StartLaws.{with_front, front_none, front_all, front_more, front_stops, map-drop, found_type}
use Rattle.integrator.proofs.starts.atom_types.Goals as goal

pub loop-k-init : goal.loop-k-init
loop-k-init g c =
    let types = map type_value c.args.job.now.types.items in
    let none = c.new-types.ensures.items in
    record {
      left = rw none (front_none (atom_types types 1 (map atom_view c.args.atoms.now)));
      known = rw none (All-nil (λ t. t < length c.args.job.now.types.items));
      count = rw none refl;
    }

pub returns-in-None-clause-value : goal.returns-in-None-clause-value
returns-in-None-clause-value g c =
    let types = map type_value c.args.job.now.types.items in
    let k = c.loop-k.k in
    let atom = c.index-atoms-k.result in
    let rest = map atom_view (drop (k + 1) c.args.atoms.now) in
    sym c.loop-k.invariant.left
    ∙ ap (λ r. with_front c.loop-k.types.items (atom_types types (k + 1) r)) (map-drop atom_view c.args.atoms.now k atom (omega arith) c.index-atoms-k.is)
    ∙ front_stops c.loop-k.types.items types (k + 1) (atom_view atom) rest
    (found_type c.args.job.now.types.items (name_text atom.name) c.as_bytes.result.now _ c.as_bytes.ensures.text c.in-None.ensures.index)

pub loop-k-preserved : goal.loop-k-preserved
loop-k-preserved g c =
    let types = map type_value c.args.job.now.types.items in
    let k = c.loop-k.k in
    let atom = c.index-atoms-k.result in
    let rest = map atom_view (drop (k + 1) c.args.atoms.now) in
    let items = c.in_ok-push-in-Some.ensures.items in
    let number = c.in-Some.number in
    record {
      left =
          ap (λ i. with_front i (atom_types types (k + 1 + 1) rest)) items
          ∙ (rw add-one (sym (front_more c.loop-k.types.items types (k + 1) (atom_view atom) rest number
          (found_type c.args.job.now.types.items (name_text atom.name) c.as_bytes.result.now _ c.as_bytes.ensures.text c.in-Some.ensures.index))))
          ∙ ap (λ r. with_front c.loop-k.types.items (atom_types types (k + 1) r)) (sym (map-drop atom_view c.args.atoms.now k atom (omega arith) c.index-atoms-k.is))
          ∙ c.loop-k.invariant.left;
      known = All-same (λ t. t < length c.args.job.now.types.items) _ _ items (All-push (λ t. t < length c.args.job.now.types.items) c.loop-k.types.items number c.loop-k.invariant.known c.in-Some.ensures.within);
      count = ap length items ∙ length-append c.loop-k.types.items (number ∷ []) ∙ (omega arith);
    }

pub returns-clause-value : goal.returns-clause-value
returns-clause-value g c =
    let types = map type_value c.args.job.now.types.items in
    let k = c.loop-k.k in
    let atoms = c.args.atoms.now in
    let end : k ≡ length atoms = omega arith in
    sym c.loop-k.invariant.left
    ∙ ap (λ r. with_front c.loop-k.types.items (atom_types types (k + 1) (map atom_view r))) (ap (λ n. drop n atoms) end ∙ drop-length atoms)
    ∙ front_all c.loop-k.types.items types (k + 1)
