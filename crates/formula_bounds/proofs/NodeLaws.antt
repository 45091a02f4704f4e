-- A walk over the nodes of a tree from their end computes the tree's entry.
use Rattle.std.proofs.Common.{◌≡◌, ℕ, List, ◌∷◌, ◌++◌, refl, append_assoc}
use Rattle.energy_program.specs.Tree.{Tree, Number, Input, Definition, Negated, Binary, Applied, Power, Select}
use Rattle.formula_bounds.specs.declared.nodes.Node.{Node}
use Rattle.error_bounds.specs.Approximations.{Approximation}
use Rattle.formula_bounds.specs.Entries.{Entry, entry_of}
use Rattle.formula_bounds.specs.Nodes.{after_nodes, nodes_of}

module _ (bits : ℕ) (inputs : List Approximation) (known : ℕ → Entry) where
  -- the stack after these nodes
  abbrev after : List Node → List Entry
  after ns = after_nodes bits inputs known ns

  -- the walk over a tree's nodes puts its entry on top of the stack
  pub walks : (t : Tree) (rest : List Node) → after (nodes_of t ++ rest) ≡ entry_of bits inputs known t ∷ after rest
  walks (Number z) rest = refl
  walks (Input i) rest = refl
  walks (Definition j) rest = refl
  walks (Negated a) rest = rw (walks a rest) refl
  walks (Binary o a b) rest =
      rw (append_assoc (nodes_of b) (nodes_of a) rest, walks b (nodes_of a ++ rest), walks a rest) refl
  walks (Applied g a) rest = rw (walks a rest) refl
  walks (Power a n) rest = rw (walks a rest) refl
  walks (Select x a b) rest =
      rw (
        append_assoc (nodes_of b) (nodes_of a ++ nodes_of x) rest,
        append_assoc (nodes_of a) (nodes_of x) rest,
        walks b (nodes_of a ++ (nodes_of x ++ rest)),
        walks a (nodes_of x ++ rest),
        walks x rest,
      ) refl
