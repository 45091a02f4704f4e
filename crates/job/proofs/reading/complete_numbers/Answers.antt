use Rattle.std.proofs.Common.{◌≡◌, length, map, sym, arith, eqb-true, inl, inr, refl, ◌∙◌}
use Rattle.std.proofs.lemmas.Bool.{eqb-false}
use Rattle.std.proofs.lemmas.List.{length-map}
use Rattle.std.proofs.lemmas.Result.{err_from_is_err_and}
use Rattle.job.proofs.PartLemmas.{text_none, text_some}
use Rattle.job.proofs.reading.complete_numbers.Goals as goal

pub returns-then-is_empty-clause-fault : goal.returns-then-is_empty-clause-fault
returns-then-is_empty-clause-fault g c =
    let none = eqb-true _ _ (sym c.is_empty.ensures ∙ c.if-is_empty.true) in
    inl (rw (text_none c.args.draft.now.energy.items (omega (arith, none))) refl)

pub returns-in_err-numbers-clause-fault : goal.returns-in_err-numbers-clause-fault
returns-in_err-numbers-clause-fault g c =
    let some = eqb-false _ _ (sym c.is_empty.ensures ∙ c.if-is_empty.false) in
    let p = err_from_is_err_and c.from_residual.result c.from_residual.ensures.1 in
    rw (p.1, p.2) (inl (rw (text_some c.args.draft.now.energy.items (omega (arith, some))) c.in_err-numbers.ensures.fault))

pub returns-in_err-check_counts-clause-fault : goal.returns-in_err-check_counts-clause-fault
returns-in_err-check_counts-clause-fault g c =
    let d = c.args.draft.now in
    let some = eqb-false _ _ (sym c.is_empty.ensures ∙ c.if-is_empty.false) in
    let p = err_from_is_err_and c.from_residual-in_err-check_counts.result c.from_residual-in_err-check_counts.ensures.1 in
    let count : c.len.result ≡ length (map (λ p. p.items) d.parameters.items) = omega (arith, c.len.ensures, d.parameters.ok.0, length-map d.parameters.items (λ p. p.items)) in
    rw (p.1, p.2)
    (inr (rw (text_some d.energy.items (omega (arith, some))) c.in_ok-numbers.ensures.none, rw (c.as_slice.ensures.value, count) at c.in_err-check_counts.ensures.fault))

pub returns-clause-energy : goal.returns-clause-energy
returns-clause-energy g c = let some = eqb-false _ _ (sym c.is_empty.ensures ∙ c.if-is_empty.false) in omega (arith, some)

pub returns-clause-whole : goal.returns-clause-whole
returns-clause-whole g c = rw (c.as_slice.ensures.value, c.len.ensures, c.args.draft.now.parameters.ok.0) at c.in_ok-check_counts.ensures.whole
