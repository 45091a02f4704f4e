use Rattle.std.proofs.Common.{◌≡◌, ◌+◌, ◌++◌, ◌∷◌, [], ◌∙◌, ℕ, length, map, subst, sym, arith}
use Rattle.std.proofs.lemmas.Result.{err_from_is_err_and}
use Rattle.std.proofs.lemmas.List.{length-map, map_push}
use Rattle.gro.specs.Frames.{atom_view}
use Rattle.gro.specs.GroFaults.{IsAtomFault, IsNeeded}
use Rattle.gro.proofs.FrameLaws.{atoms_more}
use Rattle.gro.proofs.reading.atoms.Goals as goal

pub returns-in_err-atom-clause-fault : goal.returns-in_err-atom-clause-fault
returns-in_err-atom-clause-fault g c =
    let p = err_from_is_err_and c.from_residual.result c.from_residual.ensures.1 in
    let before = map atom_view c.loop-i.atoms.items in
    let count : length before ≡ c.loop-i.i = length-map c.loop-i.atoms.items atom_view ∙ c.loop-i.invariant.len in
    rw (p.1, p.2) (
      before,
      c.loop-i.rest.now,
      c.loop-i.invariant.atoms,
      omega (arith, count, c.loop-i-test.true),
      subst (λ (k : ℕ). IsNeeded (IsAtomFault (c.args.number + k)) c.loop-i.rest.now c.in_err-atom.field-0.0) (sym count) c.in_err-atom.ensures.fault,
    )

pub loop-i-preserved : goal.loop-i-preserved
loop-i-preserved g c =
    let a = c.in_ok-atom.atom in
    let found = c.in_ok-atom.ensures.found in
    let e : map atom_view c.push.new.self.items ≡ map atom_view c.loop-i.atoms.items ++ atom_view a ∷ [] = rw c.in_ok-push.ensures.items (map_push _ c.loop-i.atoms.items a) in
    record {
      atoms = rw e (atoms_more c.args.bytes.now (map atom_view c.loop-i.atoms.items) c.loop-i.rest.now found.0 c.in_ok-atom.after.now (atom_view a) c.loop-i.invariant.atoms found.1 found.2);
      len = grind (arith, c.in_ok-push.ensures.len, c.loop-i.invariant.len);
      left = omega (arith, c.in_ok-atom.ensures.shorter, c.loop-i.invariant.left);
    }
