use Rattle.std.proofs.Common.{◌≡◌, ◌+◌, ◌∙◌, length, map, refl, arith}
use Rattle.std.proofs.lemmas.Grind.{common_steps}
use Rattle.std.proofs.lemmas.List.{length-map}
use Rattle.std.proofs.lemmas.Result.{err_from_is_err_and}
use Rattle.fallible.proofs.FailureLaws.{refused_weaker}
use Rattle.state.specs.StateViews.{atom_view, sides_view}
use Rattle.state.proofs.FormatLaws.{fault_here, fault_past}
use Rattle.state.proofs.LineLaws.{count_reader, sides_reader}
use Rattle.state.proofs.StateFits.{atoms_fit}
use Rattle.state.proofs.StateLaws.{atoms_fault, counted_found, trailing_fault}
use Rattle.state.proofs.reading.from_count.Goals as goal

pub returns-in_err-text-clause-fault : goal.returns-in_err-text-clause-fault
returns-in_err-text-clause-fault g c =
    let p = err_from_is_err_and c.from_residual.result c.from_residual.ensures.1 in
    rw (p.1, p.2) (fault_here count_reader _ c.args.number _ _ (grind (arith, common_steps)))

pub returns-in_err-count-clause-fault : goal.returns-in_err-count-clause-fault
returns-in_err-count-clause-fault g c =
    let p = err_from_is_err_and c.from_residual-in_err-count.result c.from_residual-in_err-count.ensures.1 in
    rw (p.1, p.2) (fault_here count_reader _ c.args.number _ _ (grind (arith, common_steps)))

pub returns-in_err-text-2-clause-fault : goal.returns-in_err-text-2-clause-fault
returns-in_err-text-2-clause-fault g c =
    let p = err_from_is_err_and c.from_residual-in_err-text-2.result c.from_residual-in_err-text-2.ensures.1 in
    rw (p.1, p.2) (fault_past count_reader _ c.args.number _ _ c.in_ok-count.count c.in_ok-text.rest.now (grind (arith, common_steps)) (fault_here sides_reader _ _ _ _ (grind (arith, common_steps))))

pub returns-in_err-ring-clause-fault : goal.returns-in_err-ring-clause-fault
returns-in_err-ring-clause-fault g c =
    let p = err_from_is_err_and c.from_residual-in_err-ring.result c.from_residual-in_err-ring.ensures.1 in
    rw (p.1, p.2) (fault_past count_reader _ c.args.number _ _ c.in_ok-count.count c.in_ok-text.rest.now (grind (arith, common_steps)) (fault_here sides_reader _ _ _ _ (grind (arith, common_steps))))

pub returns-in_err-atoms-clause-fault : goal.returns-in_err-atoms-clause-fault
returns-in_err-atoms-clause-fault g c =
    let p = err_from_is_err_and c.from_residual-in_err-atoms.result c.from_residual-in_err-atoms.ensures.1 in
    rw (p.1, p.2)
    (refused_weaker _ _ c.in_err-atoms.field-0.0 (λ f h. fault_past count_reader _ c.args.number _ _ c.in_ok-count.count c.in_ok-text.rest.now (grind (arith, common_steps))
    (fault_past sides_reader _ _ _ _ (sides_view c.in_ok-ring.ring) c.in_ok-text-2.rest.now (grind (arith, common_steps)) (atoms_fault c.in_ok-count.count _ _ (c.args.number + 2) c.in_ok-text-2.rest.now f (omega arith) h))) c.in_err-atoms.ensures.fault)

pub returns-then-not-is_empty-clause-fault : goal.returns-then-not-is_empty-clause-fault
returns-then-not-is_empty-clause-fault g c =
    let atoms = map atom_view c.in_ok-atoms.atoms.items in
    let many : length atoms ≡ c.in_ok-count.count = length-map c.in_ok-atoms.atoms.items atom_view ∙ c.in_ok-atoms.ensures.len in
    fault_past count_reader _ c.args.number _ _ c.in_ok-count.count c.in_ok-text.rest.now (grind (arith, common_steps))
    (fault_past sides_reader _ _ _ _ (sides_view c.in_ok-ring.ring) c.in_ok-text-2.rest.now (grind (arith, common_steps)) (trailing_fault atoms c.in_ok-count.count _ _ c.in_ok-text-2.rest.now c.in_ok-atoms.rest.now (atoms_fit c.in_ok-atoms.atoms.items) c.in_ok-atoms.ensures.found many (λ none. grind (arith, common_steps, none))))

pub returns-clause-found : goal.returns-clause-found
returns-clause-found g c =
    let atoms = map atom_view c.in_ok-atoms.atoms.items in
    let many : length atoms ≡ c.in_ok-count.count = length-map c.in_ok-atoms.atoms.items atom_view ∙ c.in_ok-atoms.ensures.len in
    record {
      title' = c.in_ok-title.ensures.items;
      step' = grind (arith, common_steps);
      frac' = refl;
      text = counted_found c.args.number (c.args.number + 1) c.in_ok-count.count (sides_view c.in_ok-ring.ring) atoms c.args.bytes.now c.in_ok-text.rest.now c.in_ok-text-2.rest.now c.in_ok-atoms.rest.now
          (grind (arith, common_steps)) (grind (arith, common_steps)) c.in_ok-atoms.ensures.found (grind (arith, common_steps)) many;
    }
