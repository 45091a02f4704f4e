-- The program of a derivative, as trees.
use Rattle.std.specs.Prelude.{ℕ, nat_lt, if◌then◌else◌, map, length, Result, Ok, Err}
use Rattle.derivative.specs.declared.parts.Parts.{Parts}
use Rattle.energy_program.specs.Faults.{Refusal, TooLarge}
use Rattle.energy_program.specs.Tree.{tree_of}
use Rattle.derivative.specs.Written.{slope_tree, free_among, all_slopes}
use Rattle.energy_program.specs.Uses.{marks_of}
use Rattle.energy_program.specs.Programs.{Trees}
use Rattle.derivative.specs.Used.{rank, renumbered, kept_from}

-- the trees of a body and definitions
abbrev pub parts_of : {A : Type 0} → Parts A → Trees
parts_of p = (tree_of p.body, map tree_of p.definitions.items)

-- the derivative, with the derivatives of all definitions and all definitions
abbrev pub with_all : ℕ → Trees → Trees
with_all bits (body, definitions) =
    (slope_tree bits (free_among definitions) (length definitions) body, all_slopes bits (free_among definitions) definitions)

-- the program without the definitions that its body doesn't use, directly or through another
abbrev pub pruned : Trees → Trees
pruned (body, definitions) =
    (renumbered (rank (marks_of body definitions)) body, kept_from (marks_of body definitions) 0 definitions)

-- The program of the derivative, or `TooLarge` if it would have more than 128 definitions.
abbrev pub slope_program : ℕ → Trees → Result Trees Refusal
slope_program bits program =
    if nat_lt 128 (length (pruned (with_all bits program)).1) then Err TooLarge else Ok (pruned (with_all bits program))
