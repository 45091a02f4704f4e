use Rattle.std.proofs.Common.{◌≡◌, [], ◌∷◌, drop}
use Rattle.fixed.specs.Fractions.{bits_of}
use Rattle.formula_bounds.specs.Nodes.{IsNotSingle, after_nodes_of, dividing, undivided}
use Rattle.formula_bounds.proofs.walks.AllWalks.walk.Given as goal

-- the walks after the nodes from the index on
abbrev pub invariant-loop-index : goal.invariant-loop-index
invariant-loop-index g l = record {
  plain : (undivided l.self.plain ∷ []) ≡ after_nodes_of (bits_of l.frac) l.inputs (drop l.index l.nodes) (undivided l.fn.self.plain ∷ []);
  dividing : dividing l.self ≡ after_nodes_of (bits_of l.frac) l.inputs (drop l.index l.nodes) (dividing l.fn.self);
  several : IsNotSingle l.fn.self.divided → IsNotSingle l.self.divided;
}
