-- Walks that divide: at a choice that isn't decided, a walk may go on as two, one for each branch. A choice is a minimum, a
-- maximum, an absolute value or a select that depends on the distance.
use Rattle.std.specs.Prelude.{ℕ, zero, suc, ◌+◌, ◌&&◌, Bool, false, if◌then◌else◌, List, [], ◌∷◌, map, Option, Some, None, slice_get}
use Rattle.std.specs.List.{flat_map}
use Rattle.fixed.specs.declared.operations.Operator.{Operator}
use Rattle.fixed.specs.declared.operations.Operator.TheVariants as op
use Rattle.fixed.specs.declared.operations.Function.{Function}
use Rattle.fixed.specs.declared.operations.Function.TheVariants as f
use Rattle.energy_program.specs.Programs.{Trees}
use Rattle.energy_program.specs.Tree.{Tree, Number, Input, Definition, Negated, Binary, Applied, Power, Select}
use Rattle.error_bounds.specs.Approximations.{Approximation, Outcomes, outcomes_of}
use Rattle.error_bounds.specs.Approximate.{applied, approximate}
use Rattle.error_bounds.specs.Rules.{either_outcomes, is_undecided, of_outcomes}
use Rattle.formula_bounds.specs.Entries as e
use Rattle.formula_bounds.specs.Entries.{Entry, entry, known_from}

-- ---- choices

-- the second if the first is there
abbrev pub if_there : (x y : Option Approximation) → Option Approximation
if_there None y = None
if_there (Some x) y = y

module _ (bits : ℕ) where
  -- The condition of a minimum or a maximum: not 0 if the first operand is the result, 0 if the second is. Other operations
  -- have none.
  abbrev pub condition_of_two : Operator → (x y : Entry) → Option Approximation
  condition_of_two op.Minimum x y = (approximate bits).step ((approximate bits).difference y.value x.value)
  condition_of_two op.Maximum x y = (approximate bits).step ((approximate bits).difference x.value y.value)
  condition_of_two op.Add x y = None
  condition_of_two op.Subtract x y = None
  condition_of_two op.Multiply x y = None
  condition_of_two op.Divide x y = None

  -- The condition of an absolute value: not 0 if the operand is the result, 0 if its negative is. There is none unless the
  -- absolute value has an approximation.
  abbrev pub condition_of_one : Function → Entry → Option Approximation
  condition_of_one f.Absolute x = if_there (applied bits f.Absolute x.value) ((approximate bits).step x.value)
  condition_of_one f.SquareRoot x = None
  condition_of_one (f.Flat g) x = None

-- the condition has an approximation, but decides nothing
abbrev pub is_open : Option Approximation → Bool
is_open None = false
is_open (Some x) = is_undecided x

-- a branch that is taken: it counts as depending on the distance, as the choice does
abbrev pub taken : Entry → Entry
taken x = entry false x.value x.slope

-- both branches of a choice that depends on the distance and is open
abbrev pub branches_if_open : (free : Bool) → (condition : Option Approximation) → (first second : Entry) → Option (Entry × Entry)
branches_if_open free condition first second =
    if free then None else if is_open condition then Some (taken first, taken second) else None

module _ (bits : ℕ) where
  abbrev pub branches_of_two : Operator → (x y : Entry) → Option (Entry × Entry)
  branches_of_two o x y = branches_if_open (x.free && y.free) (condition_of_two bits o x y) x y

  abbrev pub branches_of_one : Function → Entry → Option (Entry × Entry)
  branches_of_one g x = branches_if_open x.free (condition_of_one bits g x) x (e.negated bits x)

abbrev pub branches_of_select : (x y z : Entry) → Option (Entry × Entry)
branches_of_select x y z = branches_if_open (x.free && (y.free && z.free)) x.value y z

-- ---- walks

-- these elements if there are two or more, else none
abbrev pub several : {A : Type 0} → List A → List A
several [] = []
several (x ∷ []) = []
several (x ∷ y ∷ ys) = x ∷ y ∷ ys

-- the entry of a tree in a walk, and the number of choices at which the walk may still divide
pub record Walked : Type 0 where
  pub entry : Entry
  pub left : ℕ

abbrev pub walked : Entry → (left : ℕ) → Walked
walked x left = record { entry = x; left = left }

-- the walks after a part with these branches, if it is an open choice, and this entry, if the walk doesn't divide
abbrev pub after_part : Option (Entry × Entry) → (joined : Entry) → (left : ℕ) → List Walked
after_part (Some (first, second)) joined (suc left) = walked first left ∷ walked second left ∷ []
after_part (Some branches) joined zero = walked joined zero ∷ []
after_part None joined left = walked joined left ∷ []

-- the entries of definitions in a walk
pub record Defined : Type 0 where
  pub entries : List Entry
  pub left : ℕ

abbrev pub defined : List Entry → (left : ℕ) → Defined
defined entries left = record { entries = entries; left = left }

module _ (bits : ℕ) where
  abbrev pub after_binary : Operator → (x y : Entry) → (left : ℕ) → List Walked
  after_binary o x y left = after_part (branches_of_two bits o x y) (e.binary bits o x y) left

  abbrev pub after_applied : Function → Entry → (left : ℕ) → List Walked
  after_applied g x left = after_part (branches_of_one bits g x) (e.applied bits g x) left

  abbrev pub after_select : (x y z : Entry) → (left : ℕ) → List Walked
  after_select x y z left = after_part (branches_of_select x y z) (e.select bits x y z) left

  module _ (inputs : List Approximation) where
    -- the walks over a tree, from left to right, if `known` has the entries of definitions
    abbrev pub walks_of : (known : ℕ → Entry) → Tree → (left : ℕ) → List Walked
    walks_of known (Number c) left = walked (e.number bits c) left ∷ []
    walks_of known (Input i) left = walked (e.input bits i (slice_get inputs i)) left ∷ []
    walks_of known (Definition j) left = walked (known j) left ∷ []
    walks_of known (Negated x) left = map (λ (w : Walked). walked (e.negated bits w.entry) w.left) (walks_of known x left)
    walks_of known (Binary o x y) left =
        flat_map (λ (w : Walked). flat_map (λ (v : Walked). after_binary o w.entry v.entry v.left) (walks_of known y w.left))
        (walks_of known x left)
    walks_of known (Applied g x) left = flat_map (λ (w : Walked). after_applied g w.entry w.left) (walks_of known x left)
    walks_of known (Power x n) left = map (λ (w : Walked). walked (e.power bits w.entry n) w.left) (walks_of known x left)
    walks_of known (Select x y z) left =
        flat_map (λ (w : Walked).
        flat_map (λ (v : Walked).
        flat_map (λ (u : Walked). after_select w.entry v.entry u.entry u.left) (walks_of known z v.left))
        (walks_of known y w.left))
        (walks_of known x left)

    -- the walks over these definitions, which are numbered from i, from the last to the first
    abbrev pub walks_from : ℕ → List Tree → (left : ℕ) → List Defined
    walks_from i [] left = defined [] left ∷ []
    walks_from i (d ∷ ds) left =
        flat_map (λ (k : Defined). map (λ (w : Walked). defined (w.entry ∷ k.entries) w.left)
        (walks_of (known_from bits (i + 1) k.entries) d k.left))
        (walks_from (i + 1) ds left)

    -- the entries of a program's body, one for each walk over the program
    abbrev pub entries_of_program : Trees → (left : ℕ) → List Entry
    entries_of_program (body, definitions) left =
        map (λ (w : Walked). w.entry)
        (flat_map (λ (k : Defined). walks_of (known_from bits 0 k.entries) body k.left) (walks_from 0 definitions left))

    -- the entries of the walks that divided: all entries if there are two or more, none of a single walk
    abbrev pub divided_entries : Trees → (left : ℕ) → List Entry
    divided_entries program left = several (entries_of_program program left)

-- these elements, or if there are none, this one
abbrev pub or_one : {A : Type 0} (one : A) → List A → List A
or_one one [] = one ∷ []
or_one one (x ∷ xs) = x ∷ xs

-- ---- what several walks say

abbrev pub outcomes_if_there : Option Approximation → Option Outcomes
outcomes_if_there None = None
outcomes_if_there (Some p) = Some (outcomes_of p)

-- the outcomes of either, if both are there
abbrev pub either_if_there : (s t : Option Outcomes) → Option Outcomes
either_if_there (Some s) (Some t) = Some (either_outcomes s t)
either_if_there _ _ = None

-- the outcomes of all, if each is there
abbrev pub outcomes_of_all : List (Option Approximation) → Option Outcomes
outcomes_of_all [] = None
outcomes_of_all (p ∷ []) = outcomes_if_there p
outcomes_of_all (p ∷ q ∷ qs) = either_if_there (outcomes_if_there p) (outcomes_of_all (q ∷ qs))

-- the approximation of a value with these outcomes, if they are there
abbrev pub of_outcomes_if_there : Option Outcomes → Option Approximation
of_outcomes_if_there None = None
of_outcomes_if_there (Some s) = of_outcomes s

-- the approximation of a value with the outcomes of all
abbrev pub approximation_of_all : List (Option Approximation) → Option Approximation
approximation_of_all ps = of_outcomes_if_there (outcomes_of_all ps)
