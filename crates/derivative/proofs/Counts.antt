-- The number of nodes of a tree, by which recursions over trees end.
use Rattle.std.proofs.Common.{ℕ, ◌+◌}
use Rattle.energy_program.specs.Tree.{Tree, Number, Input, Definition, Negated, Binary, Applied, Power, Select}

abbrev pub nodes : Tree → ℕ
nodes (Number c) = 1
nodes (Input i) = 1
nodes (Definition j) = 1
nodes (Negated a) = 1 + nodes a
nodes (Binary o a b) = 1 + (nodes a + nodes b)
nodes (Applied g a) = 1 + nodes a
nodes (Power a k) = 1 + nodes a
nodes (Select x a b) = 1 + (nodes x + (nodes a + nodes b))
