use Rattle.std.proofs.Common.{◌≡◌, ◌∙◌, ℕ, List, length, map, subst, sym, arith}
use Rattle.std.proofs.lemmas.Grind.{common_steps}
use Rattle.std.proofs.lemmas.List.{length-map}
use Rattle.std.proofs.lemmas.Result.{err_from_is_err_and}
use Rattle.fallible.proofs.FailureLaws.{refused_weaker}
use Rattle.gro.specs.Frames.{atom_view, AtomView}
use Rattle.gro.specs.GroFaults.{bad_atom, bad_box, bad_count, no_title}
use Rattle.gro.specs.GroText.{IsFrame}
use Rattle.gro.proofs.FrameLaws.{starts, frame_whole}
use Rattle.gro.proofs.reading.frame.Goals as goal

pub overflow_add-number : goal.overflow_add-number
overflow_add-number g c = grind (arith, common_steps)

pub overflow_add-number-2 : goal.overflow_add-number-2
overflow_add-number-2 g c = grind (arith, common_steps)

pub overflow_add-number-3 : goal.overflow_add-number-3
overflow_add-number-3 g c = grind (arith, common_steps)

pub overflow_add-number-4 : goal.overflow_add-number-4
overflow_add-number-4 g c = grind (arith, common_steps)

pub returns-clause-shorter : goal.returns-clause-shorter
returns-clause-shorter g c = grind (arith, common_steps)

pub atoms-requires : goal.atoms-requires
atoms-requires g c = grind (arith, common_steps)

pub returns-in_err-title-clause-fault : goal.returns-in_err-title-clause-fault
returns-in_err-title-clause-fault g c =
    let p = err_from_is_err_and c.from_residual.result c.from_residual.ensures.1 in
    rw (p.1, p.2) (no_title c.in_err-title.ensures.none.0 c.in_err-title.ensures.none.1)

pub returns-in_err-count-clause-fault : goal.returns-in_err-count-clause-fault
returns-in_err-count-clause-fault g c =
    let p = err_from_is_err_and c.from_residual-in_err-count.result c.from_residual-in_err-count.ensures.1 in
    let title = c.in_ok-title.title.text.now in
    rw (p.1, p.2) (bad_count title c.in_ok-title.rest.now c.in_ok-title.ensures.line c.in_err-count.ensures.fault)

pub returns-in_err-atoms-clause-fault : goal.returns-in_err-atoms-clause-fault
returns-in_err-atoms-clause-fault g c =
    let p = err_from_is_err_and c.from_residual-in_err-atoms.result c.from_residual-in_err-atoms.ensures.1 in
    let title = c.in_ok-title.title.text.now in
    let count = c.in_ok-count.ensures.found in
    let start = starts c.args.bytes.now title c.in_ok-title.rest.now count.0 c.in_ok-count.rest.now c.in_ok-count.count in
    rw (p.1, p.2)
    (refused_weaker _ _ c.in_err-atoms.field-0.0 (λ f h. bad_atom title c.in_ok-count.count h.0 h.1
    (start h.0 h.1 c.in_ok-title.ensures.line count.1 count.2 h.2) h.3 h.4) c.in_err-atoms.ensures.fault)

pub returns-in_err-sides-clause-fault : goal.returns-in_err-sides-clause-fault
returns-in_err-sides-clause-fault g c =
    let p = err_from_is_err_and c.from_residual-in_err-sides.result c.from_residual-in_err-sides.ensures.1 in
    let title = c.in_ok-title.title.text.now in
    let count = c.in_ok-count.ensures.found in
    let atoms : List AtomView = map atom_view c.in_ok-atoms.atoms.items in
    let all : length atoms ≡ c.in_ok-count.count = length-map c.in_ok-atoms.atoms.items atom_view ∙ c.in_ok-atoms.ensures.len in
    rw (p.1, p.2)
    (bad_box title c.in_ok-count.count atoms c.in_ok-atoms.rest.now
    (starts c.args.bytes.now title c.in_ok-title.rest.now count.0 c.in_ok-count.rest.now c.in_ok-count.count atoms c.in_ok-atoms.rest.now c.in_ok-title.ensures.line count.1 count.2 c.in_ok-atoms.ensures.found)
    all c.in_err-sides.ensures.fault)

pub returns-clause-found : goal.returns-clause-found
returns-clause-found g c =
    let title = c.in_ok-title.title.text.now in
    let count = c.in_ok-count.ensures.found in
    let box = c.in_ok-sides.ensures.found in
    let atoms : List AtomView = map atom_view c.in_ok-atoms.atoms.items in
    let all : length atoms ≡ c.in_ok-count.count = length-map c.in_ok-atoms.atoms.items atom_view ∙ c.in_ok-atoms.ensures.len in
    subst (λ (t : List ℕ). IsFrame c.args.bytes.now (record { title = t; atoms = atoms; sides = c.in_ok-sides.sides }) c.in_ok-sides.rest.now) (sym c.in_ok-title-2.ensures.items)
    (frame_whole c.args.bytes.now title c.in_ok-count.count atoms c.in_ok-atoms.rest.now box.0 c.in_ok-sides.sides c.in_ok-sides.rest.now
    (starts c.args.bytes.now title c.in_ok-title.rest.now count.0 c.in_ok-count.rest.now c.in_ok-count.count atoms c.in_ok-atoms.rest.now c.in_ok-title.ensures.line count.1 count.2 c.in_ok-atoms.ensures.found)
    all box.1 box.2)
