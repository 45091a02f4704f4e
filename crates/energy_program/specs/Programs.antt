-- The trees of programs, without their memory.
use Rattle.std.specs.Prelude.{ℕ, List, map}
use Rattle.energy_program.specs.declared.programs.Program.{Program}
use Rattle.energy_program.specs.Tree.{Tree, variable_count, substituted, tree_of}

-- the tree of the body
abbrev pub body_of : {A : Type 0} → Program A → Tree
body_of p = tree_of p.body

-- the trees of the definitions
abbrev pub definitions_of : {A : Type 0} → Program A → List Tree
definitions_of p = map tree_of p.definitions.items

-- the tree of a program: its body with every definition substituted
abbrev pub program_tree : {A : Type 0} → Program A → Tree
program_tree p = substituted (body_of p) (definitions_of p)

-- the trees of a body and its definitions
abbrev pub Trees : Type 0
Trees = Tree × List Tree

-- the trees of a program
abbrev pub trees_of : {A : Type 0} → Program A → Trees
trees_of p = (body_of p, definitions_of p)

-- the number of inputs: the distance, the parameters of both particles and the globals
abbrev pub input_count_of : {A : Type 0} → Program A → ℕ
input_count_of p = variable_count p.parameters p.globals
