-- Without `grind` the check searches for seconds, in vain, before it closes these goals.
use Rattle.std.proofs.Common.{◌≡◌, ap, arith, map, sym, ◌∙◌}
use Rattle.std.proofs.lemmas.Grind.{common_steps}
use Rattle.std.proofs.lemmas.Simd.{map-map}
use Rattle.state.specs.StateText.{AtomView}
use Rattle.state.specs.StateViews.{atom_view}
use Rattle.integrator.specs.Frames.{Frame, frames}
use Rattle.integrator.specs.States.{previous_frame}
use Rattle.integrator.proofs.states.frames_of.Goals as goal

pub loop-atom-preserved : goal.loop-atom-preserved
loop-atom-preserved g c = (grind (arith, common_steps), grind (arith, common_steps))

pub returns-clause-value : goal.returns-clause-value
returns-clause-value g c =
    let atoms = c.args.state.now.atoms.items in
    let previous : c.loop-atom.previous.items ≡ map (λ a. a.previous) atoms = grind (arith, common_steps) in
    let current : c.loop-atom.current.items ≡ map (λ a. a.current) atoms = grind (arith, common_steps) in
    ap (λ (p : Frame). frames p c.loop-atom.current.items) (previous ∙ sym (map-map (λ (a : AtomView). a.previous) atom_view atoms))
    ∙ ap (frames (previous_frame (map atom_view atoms))) (current ∙ sym (map-map (λ (a : AtomView). a.current) atom_view atoms))

pub returns-clause-previous : goal.returns-clause-previous
returns-clause-previous g c = grind (arith, common_steps)

pub returns-clause-current : goal.returns-clause-current
returns-clause-current g c = grind (arith, common_steps)
