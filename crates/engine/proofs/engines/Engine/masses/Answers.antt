use Rattle.std.proofs.Common.{length, ap, sym, ◌∙◌}
use Rattle.std.proofs.lemmas.List.{length-map}
use Rattle.state.specs.StateViews.{atom_view}
use Rattle.engine.proofs.engines.Engine.masses.Goals as goal

pub returns-clause-value : goal.returns-clause-value
returns-clause-value g c = rw (← c.self.view_is) (c.deref.ensures.value ∙ ap (λ d. d.masses) c.self.invariant.system.dynamics)

pub returns-clause-atoms : goal.returns-clause-atoms
returns-clause-atoms g c =
    rw (← c.self.view_is) (ap length c.deref.ensures.value ∙ sym c.self.invariant.system.atoms ∙ sym (length-map c.self.inside.state.atoms.items atom_view))
