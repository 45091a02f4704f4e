use Rattle.std.proofs.Common.{codes, refl, sym, ◌∙◌}
use Rattle.std.proofs.lemmas.Result.{err_from_is_err_and}
use Rattle.energy_program.proofs.NameLemmas.{first_in, first_fails, second_fails, globals_left}
use Rattle.energy_program.proofs.inputs.all_variables.Goals as goal

pub returns-in_err-add_all : goal.returns-in_err-add_all
returns-in_err-add_all g c =
    let p = err_from_is_err_and c.from_residual-in_err-add_all.result c.from_residual-in_err-add_all.ensures.1 in
    let r = first_in c.new-names.result.keys _ _ (codes "r") (rw c.new-names.ensures.empty refl) c.in_ok-from_slice.ensures.items c.in_ok-insert.ensures.keys in
    rw (p.1, p.2) (first_fails (λ p. p.now) (λ g. g.now) c.args.parameters.now c.args.globals.now _ _ (rw r at c.in_err-add_all.ensures))

pub returns-in_err-add_all-2 : goal.returns-in_err-add_all-2
returns-in_err-add_all-2 g c =
    let p = err_from_is_err_and c.from_residual-in_err-add_all-2.result c.from_residual-in_err-add_all-2.ensures.1 in
    let r = first_in c.new-names.result.keys _ _ (codes "r") (rw c.new-names.ensures.empty refl) c.in_ok-from_slice.ensures.items c.in_ok-insert.ensures.keys in
    rw (p.1, p.2)
    (second_fails (λ p. p.now) (λ g. g.now) c.args.parameters.now c.args.globals.now _ _ _ (rw r at c.in_ok-add_all.ensures) c.in_err-add_all-2.ensures)

pub returns-in_err-add_all-3 : goal.returns-in_err-add_all-3
returns-in_err-add_all-3 g c =
    let p = err_from_is_err_and c.from_residual-in_err-add_all-3.result c.from_residual-in_err-add_all-3.ensures.1 in
    let r = first_in c.new-names.result.keys _ _ (codes "r") (rw c.new-names.ensures.empty refl) c.in_ok-from_slice.ensures.items c.in_ok-insert.ensures.keys in
    rw (p.1, p.2, ← globals_left (λ p. p.now) (λ g. g.now) c.args.parameters.now c.args.globals.now _ _ _ (rw r at c.in_ok-add_all.ensures) c.in_ok-add_all-2.ensures)
    c.in_err-add_all-3.ensures

pub returns : goal.returns
returns g c =
    let r = first_in c.new-names.result.keys _ _ (codes "r") (rw c.new-names.ensures.empty refl) c.in_ok-from_slice.ensures.items c.in_ok-insert.ensures.keys in
    sym (globals_left (λ p. p.now) (λ g. g.now) c.args.parameters.now c.args.globals.now _ _ _ (rw r at c.in_ok-add_all.ensures) c.in_ok-add_all-2.ensures)
    ∙ c.in_ok-add_all-3.ensures
