-- The number of nodes of a tree, by which recursions over trees end.
use Rattle.std.proofs.Common.{ℕ, ◌+◌}
use Rattle.expr.specs.Syntax.{Syntax, Number, Name, Negated, Binary, Applied, Power, Select}

abbrev pub nodes : Syntax → ℕ
nodes (Number c) = 1
nodes (Name bytes) = 1
nodes (Negated a) = 1 + nodes a
nodes (Binary o a b) = 1 + (nodes a + nodes b)
nodes (Applied g a) = 1 + nodes a
nodes (Power a k) = 1 + nodes a
nodes (Select x a b) = 1 + (nodes x + (nodes a + nodes b))
