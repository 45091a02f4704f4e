-- Tables of arguments and of commands, row by row.
use Rattle.std.proofs.Common.{◌≡◌, ◌<◌, ◌≤◌, ◌-◌, List, [], ◌∷◌, ap, arith, drop, get_or, length, map, refl, take, take_all}
use Rattle.clap.specs.Words.{App, Rule, Shape, with_rule, with_subcommand}
use Rattle.command_line.specs.CommandLine.{taking, with_commands}

-- the first row and those behind it are the table
first_and_rest : {T : Type 0} (rows : List T) (d : T) → 1 ≤ length rows → get_or rows 0 d ∷ take (length rows - 1) (drop 1 rows) ≡ rows
first_and_rest [] d some = absurd (omega (arith, some))
first_and_rest {T} (row ∷ rows) d some = ap (λ (r : List T). row ∷ r) (take_all (length (row ∷ rows) - 1) rows (omega arith))

-- a command with the first argument, and then with those behind it, has all arguments
pub taking_row : {T : Type 0} (rule : T → Rule) (rows : List T) (d : T) (app : App) → 1 ≤ length rows
    → taking (with_rule app (rule (get_or rows 0 d))) (map rule (take (length rows - 1) (drop 1 rows))) ≡ taking app (map rule rows)
taking_row {T} rule rows d app some = ap (λ (r : List T). taking app (map rule r)) (first_and_rest rows d some)

-- a command with no further arguments is the command itself
pub taking_none : {T : Type 0} (rule : T → Rule) (rows : List T) (app : App) → length rows < 1 → taking app (map rule rows) ≡ app
taking_none rule [] app none = refl
taking_none rule (row ∷ rows) app none = absurd (omega (arith, none))

-- a program with the first command, and then with those behind it, has all commands
pub commands_row : {T : Type 0} (shape : T → Shape) (rows : List T) (d : T) (app : App) → 1 ≤ length rows
    → with_commands (with_subcommand app (shape (get_or rows 0 d))) (map shape (take (length rows - 1) (drop 1 rows)))
    ≡ with_commands app (map shape rows)
commands_row {T} shape rows d app some = ap (λ (r : List T). with_commands app (map shape r)) (first_and_rest rows d some)

-- a program with no further commands is the program itself
pub commands_none : {T : Type 0} (shape : T → Shape) (rows : List T) (app : App) → length rows < 1
    → with_commands app (map shape rows) ≡ app
commands_none shape [] app none = refl
commands_none shape (row ∷ rows) app none = absurd (omega (arith, none))
