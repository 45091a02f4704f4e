use Rattle.std.proofs.Common.{◌≡◌, ◌+◌, ◌++◌, ◌∷◌, [], ◌∙◌, ap, length, map, arith}
use Rattle.std.proofs.lemmas.List.{length-append, length-map, map_push}
use Rattle.std.proofs.lemmas.Result.{err_from_is_err_and}
use Rattle.state.specs.StateViews.{atom_view}
use Rattle.state.proofs.AtomLaws.{atom_reader}
use Rattle.state.proofs.FormatLaws.{line_fault}
use Rattle.state.proofs.StateFits.{atoms_fit}
use Rattle.state.proofs.StateLaws.{atoms_more}
use Rattle.state.proofs.reading.atoms.Goals as goal

pub returns-in_err-atom-clause-fault : goal.returns-in_err-atom-clause-fault
returns-in_err-atom-clause-fault g c =
    let p = err_from_is_err_and c.from_residual.result c.from_residual.ensures.1 in
    let before = map atom_view c.loop-i.atoms.items in
    let count : length before ≡ c.loop-i.i = length-map c.loop-i.atoms.items atom_view ∙ c.loop-i.invariant.len in
    rw (p.1, p.2) (
      before,
      c.loop-i.rest.now,
      atoms_fit c.loop-i.atoms.items,
      c.loop-i.invariant.text,
      omega (arith, count, c.loop-i-test.true),
      line_fault atom_reader (c.args.first + length before) _ _ (rw count c.in_err-atom.ensures),
    )

pub loop-i-preserved : goal.loop-i-preserved
loop-i-preserved g c =
    let a = c.in_ok-atom.atom in
    let before = c.loop-i.atoms.items in
    let e : map atom_view c.push.new.self.items ≡ map atom_view before ++ atom_view a ∷ [] = rw c.in_ok-push.ensures.items (map_push _ before a) in
    record {
      text = rw e (atoms_more (map atom_view before) (atom_view a) _ c.args.bytes.now c.loop-i.rest.now c.in_ok-atom.after.now c.loop-i.invariant.text c.in_ok-atom.ensures);
      len = omega (arith, ap length c.in_ok-push.ensures.items, length-append before (a ∷ []), c.loop-i.invariant.len);
    }
