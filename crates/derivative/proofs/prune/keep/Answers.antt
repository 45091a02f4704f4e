use Rattle.std.proofs.Common.{◌≡◌, true, false, rules}
use Rattle.energy_program.specs.Tree.{tree_of}
use Rattle.energy_program.specs.Uses.{is_marked}
use Rattle.derivative.proofs.Turns.{keep_turn, skip_turn}
use Rattle.derivative.proofs.prune.keep.Goals as goal

pub returns-then-not-is_marked : goal.returns-then-not-is_marked
returns-then-not-is_marked g c =
    let u : is_marked c.args.marks.now c.args.number ≡ false = search rules in
    skip_turn c.args.marks.now c.args.left.now.items c.args.number (tree_of c.args.definition) u

pub returns : goal.returns
returns g c =
    let u : is_marked c.args.marks.now c.args.number ≡ true = search rules in
    keep_turn c.args.marks.now c.args.left.now.items c.push.new.self.items c.args.number (tree_of c.args.definition) c.renumbered.result u c.renumbered.ensures c.in_ok-push.ensures.items
