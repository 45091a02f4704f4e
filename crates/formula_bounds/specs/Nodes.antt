-- The nodes of a tree in a list, each before its parts and the last part first, and the entry that a walk over the list
-- from its end computes with a stack.
use Rattle.std.specs.List.{flat_map, list_any}
use Rattle.std.specs.Prelude.{ℕ, ◌≡◌, ◌-◌, ◌==◌, ◌||◌, Bool, true, false, if◌then◌else◌, Option, Some, None, List, [], ◌∷◌, ◌++◌, length, map, drop, slice_get, slice_index_or, slice_set, Vec}
use Rattle.fixed.specs.declared.operations.Operator.{Operator}
use Rattle.fixed.specs.declared.operations.Operator.TheVariants as op
use Rattle.fixed.specs.declared.operations.Function.{Function}
use Rattle.fixed.specs.declared.operations.Function.TheVariants as f
use Rattle.energy_program.specs.Programs.{Trees}
use Rattle.energy_program.specs.Tree.{Tree, Number, Input, Definition, Negated, Binary, Applied, Power, Select}
use Rattle.formula_bounds.specs.declared.nodes.Node.{Node}
use Rattle.formula_bounds.specs.declared.nodes.Node.TheVariants as node
use Rattle.error_bounds.specs.Approximations.{Approximation}
use Rattle.formula_bounds.specs.Entries as e
use Rattle.formula_bounds.specs.Entries.{Entry, known_from, missing}
use Rattle.formula_bounds.specs.Walks as w

-- the node of a tree's root
abbrev pub node_of : Tree → Node
node_of (Number c) = node.Number c
node_of (Input i) = node.Input i
node_of (Definition j) = node.Definition j
node_of (Negated a) = node.Negated
node_of (Binary o a b) = node.Binary o
node_of (Applied g a) = node.Applied g
node_of (Power a n) = node.Power n
node_of (Select x a b) = node.Select

-- the nodes of a tree
abbrev pub nodes_of : Tree → List Node
nodes_of (Number c) = node.Number c ∷ []
nodes_of (Input i) = node.Input i ∷ []
nodes_of (Definition j) = node.Definition j ∷ []
nodes_of (Negated a) = node.Negated ∷ nodes_of a
nodes_of (Binary o a b) = node.Binary o ∷ (nodes_of b ++ nodes_of a)
nodes_of (Applied g a) = node.Applied g ∷ nodes_of a
nodes_of (Power a n) = node.Power n ∷ nodes_of a
nodes_of (Select x a b) = node.Select ∷ (nodes_of b ++ (nodes_of a ++ nodes_of x))

-- the entry at this depth of a stack, whose top is first
abbrev pub at_depth : List Entry → ℕ → Entry
at_depth stack depth = slice_index_or stack depth missing

module _ (bits : ℕ) (inputs : List Approximation) (known : ℕ → Entry) where
  -- the stack after a node
  abbrev pub after_node : Node → List Entry → List Entry
  after_node (node.Number c) stack = e.number bits c ∷ stack
  after_node (node.Input i) stack = e.input bits i (slice_get inputs i) ∷ stack
  after_node (node.Definition j) stack = known j ∷ stack
  after_node node.Negated stack = e.negated bits (at_depth stack 0) ∷ drop 1 stack
  after_node (node.Binary o) stack = e.binary bits o (at_depth stack 1) (at_depth stack 0) ∷ drop 2 stack
  after_node (node.Applied g) stack = e.applied bits g (at_depth stack 0) ∷ drop 1 stack
  after_node (node.Power n) stack = e.power bits (at_depth stack 0) n ∷ drop 1 stack
  after_node node.Select stack = e.select bits (at_depth stack 2) (at_depth stack 1) (at_depth stack 0) ∷ drop 3 stack

  -- the stack after a list of nodes, from its end
  abbrev pub after_nodes : List Node → List Entry
  after_nodes [] = []
  after_nodes (n ∷ ns) = after_node n (after_nodes ns)

-- ---- choices

-- a minimum or a maximum
abbrev pub is_choice_of_two : Operator → Bool
is_choice_of_two op.Minimum = true
is_choice_of_two op.Maximum = true
is_choice_of_two op.Add = false
is_choice_of_two op.Subtract = false
is_choice_of_two op.Multiply = false
is_choice_of_two op.Divide = false

-- an absolute value
abbrev pub is_choice_of_one : Function → Bool
is_choice_of_one f.Absolute = true
is_choice_of_one f.SquareRoot = false
is_choice_of_one (f.Flat g) = false

abbrev pub is_choice : Node → Bool
is_choice (node.Number c) = false
is_choice (node.Input i) = false
is_choice (node.Definition j) = false
is_choice node.Negated = false
is_choice (node.Binary o) = is_choice_of_two o
is_choice (node.Applied g) = is_choice_of_one g
is_choice (node.Power n) = false
is_choice node.Select = true

-- ---- walks that divide

-- a walk: the entries of all definitions, the stack, and the number of choices at which the walk may still divide
pub record Walk : Type 0 where
  pub known : List Entry
  pub stack : List Entry
  pub left : ℕ

abbrev pub walk : (known stack : List Entry) → (left : ℕ) → Walk
walk known stack left = record { known = known; stack = stack; left = left }

-- the walk that is there, if one is
abbrev pub if_there : Option Walk → List Walk
if_there None = []
if_there (Some w) = w ∷ []

-- the number of a node's parts
abbrev pub parts_of : Node → ℕ
parts_of (node.Number c) = 0
parts_of (node.Input i) = 0
parts_of (node.Definition j) = 0
parts_of node.Negated = 1
parts_of (node.Binary o) = 2
parts_of (node.Applied g) = 1
parts_of (node.Power n) = 1
parts_of node.Select = 3

-- a walk that goes on with a branch of a node
abbrev pub with_branch : Node → Entry → Walk → Walk
with_branch n x w = walk w.known (x ∷ drop (parts_of n) w.stack) (w.left - 1)

module _ (bits : ℕ) where
  -- the branches of a node, if it is an open choice, whose parts are on top of the stack
  abbrev pub branches_at : Node → List Entry → Option (Entry × Entry)
  branches_at (node.Number c) stack = None
  branches_at (node.Input i) stack = None
  branches_at (node.Definition j) stack = None
  branches_at node.Negated stack = None
  branches_at (node.Binary o) stack = w.branches_of_two bits o (at_depth stack 1) (at_depth stack 0)
  branches_at (node.Applied g) stack = w.branches_of_one bits g (at_depth stack 0)
  branches_at (node.Power n) stack = None
  branches_at node.Select stack = w.branches_of_select (at_depth stack 2) (at_depth stack 1) (at_depth stack 0)

  -- the branches of the next node of a walk, if it is an open choice at which the walk may divide
  abbrev pub branches_in : Node → Walk → Option (Entry × Entry)
  branches_in n w = if w.left == 0 then None else branches_at n w.stack

  -- a walk that goes on by a node without division
  abbrev pub gone_on : (inputs : List Approximation) → Node → Walk → Walk
  gone_on inputs n w = walk w.known (after_node bits inputs (known_from bits 0 w.known) n w.stack) w.left

  -- the walks after a node of a walk with these branches
  abbrev pub divided : (inputs : List Approximation) → Node → Option (Entry × Entry) → Walk → List Walk
  divided inputs n None w = gone_on inputs n w ∷ []
  divided inputs n (Some (first, second)) w = with_branch n first w ∷ with_branch n second w ∷ []

  abbrev pub after_node_of : (inputs : List Approximation) → Node → Walk → List Walk
  after_node_of inputs n w = divided inputs n (branches_in n w) w

  -- the walks after a list of nodes, from its end
  abbrev pub after_nodes_of : (inputs : List Approximation) → List Node → List Walk → List Walk
  after_nodes_of inputs [] walks = walks
  after_nodes_of inputs (n ∷ ns) walks = flat_map (after_node_of inputs n) (after_nodes_of inputs ns walks)

-- a walk after a definition with this number, whose entry is on top of the stack
abbrev pub after_definition : (number : ℕ) → Walk → Walk
after_definition number w = walk (slice_set w.known number (at_depth w.stack 0)) (drop 1 w.stack) w.left

abbrev pub top_of : Walk → Entry
top_of w = at_depth w.stack 0

-- ---- a walk that doesn't divide, beside those that do

-- there isn't exactly one element
abbrev pub IsNotSingle : {A : Type 0} → List A → Type 0
IsNotSingle xs = length xs ≡ 1 → ⊥

-- the walk that doesn't divide, and those that did: none before the first open choice, then two or more
pub record AllWalks : Type 0 where
  pub plain : Walk
  pub divided : List Walk

abbrev pub all_walks : (plain : Walk) → (divided : List Walk) → AllWalks
all_walks plain divided = record { plain = plain; divided = divided }

-- the walks that go on with the branches of a node, if it has any
abbrev pub branched : Node → Option (Entry × Entry) → Walk → List Walk
branched n None w = []
branched n (Some (first, second)) w = with_branch n first w ∷ with_branch n second w ∷ []

-- the walk with no choice left at which it may divide
abbrev pub undivided : Walk → Walk
undivided w = walk w.known w.stack 0

-- the walks that divide at open choices; before the first one, the walk that doesn't divide is the only one
abbrev pub dividing : AllWalks → List Walk
dividing all = w.or_one all.plain all.divided

-- ---- formulas

-- the nodes of the body, and of each definition
pub record FormulaView : Type 0 where
  pub body : List Node
  pub definitions : List (List Node)

abbrev pub formula_view : List Node → List (List Node) → FormulaView
formula_view body definitions = record { body = body; definitions = definitions }

-- the elements of each of these vectors
abbrev pub items_of : {A : Type 0} → List (Vec Node A) → List (List Node)
items_of all = map (λ v. v.items) all

-- the formula of a program
abbrev pub formula_of : Trees → FormulaView
formula_of (body, definitions) = formula_view (nodes_of body) (map nodes_of definitions)

-- the formula has a choice, in the body or in a definition
abbrev pub has_choice : FormulaView → Bool
has_choice f = list_any is_choice f.body || list_any (list_any is_choice) f.definitions
