use Rattle.std.proofs.Common.{◌≡◌, ap, refl, ◌∙◌, rules, to_z, of_z, w64}
use Rattle.integrator.specs.States.{current_frame, previous_frame}
use Rattle.observables.specs.Sums.{moments_between, products_about, squares_about}
use Rattle.engine.specs.Engines.{EngineView, engine_dynamics}
use Rattle.runs.proofs.ObservationLaws.{current_sized, next_sized, previous_sized}
use Rattle.runs.proofs.observations.observe.Goals as goal

-- all frames are of the engine's atoms
pub squares-requires-clause-previous : goal.squares-requires-clause-previous
squares-requires-clause-previous g c = previous_sized c.next_frame.new.self _ _ c.masses-masses.ensures.atoms c.previous-previous.ensures

pub squares-requires-clause-current : goal.squares-requires-clause-current
squares-requires-clause-current g c = current_sized c.next_frame.new.self _ _ c.masses-masses.ensures.atoms c.current-current.ensures

pub squares-requires-clause-next : goal.squares-requires-clause-next
squares-requires-clause-next g c =
    next_sized c.next_frame.new.self _ _ c.masses-masses.ensures.atoms _ c.observe.new.self c.deref.ensures.value c.in_ok-next.ensures.next c.next_frame.ensures.same

pub products-requires-clause-previous : goal.products-requires-clause-previous
products-requires-clause-previous g c = previous_sized c.next_frame.new.self _ _ c.masses-masses.ensures.atoms c.previous-previous.ensures

pub products-requires-clause-current : goal.products-requires-clause-current
products-requires-clause-current g c = current_sized c.next_frame.new.self _ _ c.masses-masses.ensures.atoms c.current-current.ensures

pub products-requires-clause-next : goal.products-requires-clause-next
products-requires-clause-next g c =
    next_sized c.next_frame.new.self _ _ c.masses-masses.ensures.atoms _ c.observe.new.self c.deref-2.ensures.value c.in_ok-next.ensures.next c.next_frame.ensures.same

pub momentum-requires-clause-previous : goal.momentum-requires-clause-previous
momentum-requires-clause-previous g c = previous_sized c.next_frame.new.self _ _ c.masses-masses.ensures.atoms c.previous-previous.ensures

pub momentum-requires-clause-current : goal.momentum-requires-clause-current
momentum-requires-clause-current g c = current_sized c.next_frame.new.self _ _ c.masses-masses.ensures.atoms c.current-current.ensures

-- the observed values; the sums and the next frame leave the engine unchanged
pub returns-clause-observation : goal.returns-clause-observation
returns-clause-observation g c =
    let here : c.next_frame.new.self ≡ c.args.engine.now = c.next_frame.ensures.same ∙ c.observe.ensures.same in
    let masses = c.masses-masses.ensures.value ∙ ap (λ (e : EngineView). (engine_dynamics e).masses) here in
    let previous = c.previous-previous.ensures ∙ ap (λ (e : EngineView). previous_frame e.state.atoms) here in
    let current = c.current-current.ensures ∙ ap (λ (e : EngineView). current_frame e.state.atoms) here in
    let step : to_z w64 (of_z w64 c.step.result) ≡ c.step.result = search rules in
    record {
      step = step ∙ c.step.ensures ∙ ap (λ (e : EngineView). e.state.step) here;
      pairs = c.in_ok-pairs.ensures.totals;
      next = c.in_ok-next.next.items;
      follows = rw c.observe.ensures.same at c.in_ok-next.ensures.next;
      squares =
          c.squares.ensures.value
          ∙ (ap (λ m. squares_about m c.previous-previous.result.now c.current-current.result.now c.deref.result.now) masses
          ∙ rw (previous, current, c.deref.ensures.value) refl);
      products =
          c.products.ensures.value
          ∙ (ap (λ m. products_about m c.previous-previous.result.now c.current-current.result.now c.deref-2.result.now) masses
          ∙ rw (previous, current, c.deref-2.ensures.value) refl);
      momentum =
          c.momentum.ensures.value
          ∙ (ap (λ m. moments_between m c.previous-previous.result.now c.current-current.result.now) masses
          ∙ rw (previous, current) refl);
    }
