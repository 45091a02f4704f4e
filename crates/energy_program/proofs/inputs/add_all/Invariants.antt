-- Filling in all names equals filling in the remaining names after the names so far.
use Rattle.std.proofs.Common.{◌≡◌, ◌++◌, drop, map}
use Rattle.energy_program.specs.Variables.{filled, names_in}
use Rattle.energy_program.proofs.inputs.add_all.Given as goal

abbrev pub invariant-loop-beginning : goal.invariant-loop-beginning
invariant-loop-beginning g l =
    filled (names_in l.initial.names) (map (λ b. b.now ++ l.end) l.beginnings)
    ≡ filled (names_in l.names) (map (λ b. b.now ++ l.end) (drop l.beginning-index l.beginnings))
