-- Pruning: a program without the definitions that its body doesn't need. The others are renumbered in order.
use Rattle.std.specs.Prelude.{ℕ, zero, suc, ◌+◌, Bool, if◌then◌else◌, List, [], ◌∷◌, EachIndex}
use Rattle.energy_program.specs.Tree.{Tree, Number, Input, Definition, Negated, Binary, Applied, Power, Select}
use Rattle.energy_program.specs.Uses.{Needs, is_marked}

-- the body needs every definition
abbrev pub AllNeeded : Tree → List Tree → Type 0
AllNeeded body definitions = EachIndex definitions (λ k. Needs body definitions k)

-- the new number of definition j: the number of marked definitions below it
abbrev pub rank : List Bool → ℕ → ℕ
rank marks zero = 0
rank marks (suc j) = rank marks j + (if is_marked marks j then 1 else 0)

-- the tree with definitions renumbered
abbrev pub renumbered : (ℕ → ℕ) → Tree → Tree
renumbered r (Number c) = Number c
renumbered r (Input i) = Input i
renumbered r (Definition j) = Definition (r j)
renumbered r (Negated a) = Negated (renumbered r a)
renumbered r (Binary o a b) = Binary o (renumbered r a) (renumbered r b)
renumbered r (Applied g a) = Applied g (renumbered r a)
renumbered r (Power a n) = Power (renumbered r a) n
renumbered r (Select x a b) = Select (renumbered r x) (renumbered r a) (renumbered r b)

-- the marked definitions among these, which are numbered from i, renumbered
abbrev pub kept_from : List Bool → ℕ → List Tree → List Tree
kept_from marks i [] = []
kept_from marks i (d ∷ ds) =
    if is_marked marks i then renumbered (rank marks) d ∷ kept_from marks (i + 1) ds else kept_from marks (i + 1) ds
