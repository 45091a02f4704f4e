-- Statements about the contents of files, and about the task of a command.
use Rattle.command_line.specs.Commands.{CommandView}
use Rattle.std.proofs.Common.{◌≡◌, ◌∙◌, ℕ, List, [], ◌∷◌, None, Some, inl, inr, subst, sym, IfSome}
use Rattle.cli.specs.Actions.{Contents, Held, IsHeld, OfFiles, OfKnownFiles, OfTask, Paths, Task, UpTo, action_of, also_requested, files_of}
use Rattle.cli.specs.CommandFailure.{IsUnreadable}

-- these are the contents of the files at these paths
abbrev pub AreHeld : Held → (paths : List (List ℕ)) → Contents paths → Type 0
AreHeld held [] contents = Unit {0}
AreHeld held (path ∷ more) contents = IsHeld held path contents.0 × AreHeld held more contents.1

-- the contents that a statement is about
pub gather : (held : Held) (paths : List (List ℕ)) (Holds : Contents paths → Type 0) → OfFiles held paths Holds
    → (contents : Contents paths) × AreHeld held paths contents × Holds contents
gather held [] Holds h = (tt, tt, h)
gather held (path ∷ more) Holds (bytes, gives, h) =
    let rest = gather held more (λ r. Holds (bytes, r)) h in ((bytes, rest.0), (gives, rest.1), rest.2)

-- a statement about contents is one about their files
pub spread : (held : Held) (paths : List (List ℕ)) (contents : Contents paths) (Holds : Contents paths → Type 0)
    → AreHeld held paths contents → Holds contents → OfFiles held paths Holds
spread held [] contents Holds gives h = h
spread held (path ∷ more) contents Holds gives h =
    (contents.0, gives.0, spread held more contents.1 (λ rest. Holds (contents.0, rest)) gives.1 h)

-- a statement about a task with the contents of its files is one about the command
pub of_task : (held : Held) (c : CommandView) (contents : Contents (files_of c)) (Holds : Task → Type 0)
    → AreHeld held (files_of c) contents → Holds ((action_of c).task contents) → OfTask held c Holds
of_task held c contents Holds gives h = spread held (files_of c) contents (λ x. Holds ((action_of c).task x)) gives h

-- a statement about the task of a command implies each weaker one
pub task_also : (held : Held) (c : CommandView) (Holds Holds' : Task → Type 0) → ((t : Task) → Holds t → Holds' t) → OfTask held c Holds
    → OfTask held c Holds'
task_also held c Holds Holds' also h =
    let read = gather held (files_of c) (λ x. Holds ((action_of c).task x)) h in
    of_task held c read.0 Holds' read.1 (also ((action_of c).task read.0) read.2)

-- ---- known files

-- the bytes read from a file are its known bytes
pub given : (held : Held) (path bytes told : List ℕ) → held path ≡ Some told → IsHeld held path bytes → bytes ≡ told
given held path bytes told is h = subst (λ o. IfSome o (λ t. bytes ≡ t)) is h

-- a statement about the known contents of files is one about the contents that they give
pub of_known : (held : Held) (paths : List (List ℕ)) (contents : Contents paths) (Holds : Contents paths → Type 0)
    → AreHeld held paths contents → OfKnownFiles held paths Holds → Holds contents
of_known held [] contents Holds gives h = h
of_known held (path ∷ more) contents Holds gives (told, known, h) =
    subst (λ bytes. Holds (bytes, contents.1)) (sym (given held path contents.0 told known gives.0))
    (of_known held more contents.1 (λ rest. Holds (told, rest)) gives.1 h)

-- a statement about known contents implies each weaker one
pub known_also : (held : Held) (paths : List (List ℕ)) (Holds Holds' : Contents paths → Type 0)
    → ((contents : Contents paths) → Holds contents → Holds' contents) → OfKnownFiles held paths Holds
    → OfKnownFiles held paths Holds'
known_also held [] Holds Holds' also h = also tt h
known_also held (path ∷ more) Holds Holds' also (told, known, h) =
    (told, known, known_also held more (λ r. Holds (told, r)) (λ r. Holds' (told, r)) (λ r. also (told, r)) h)

-- files whose contents are known can be read
pub known_lacks : (held : Held) (paths : List (List ℕ)) (Holds : Contents paths → Type 0) (requested requested' : Paths)
    → OfKnownFiles held paths Holds → UpTo (IsUnreadable held) paths requested requested' → ⊥
known_lacks held [] Holds requested requested' known lacks = lacks
known_lacks held (path ∷ more) Holds requested requested' (told, known, h) (inl lacks) = let bad : None ≡ Some told = sym lacks.1 ∙ known in cc
known_lacks held (path ∷ more) Holds requested requested' (told, known, h) (inr lacks) =
    known_lacks held more (λ r. Holds (told, r)) (also_requested requested path) requested' h lacks
