-- Reachability of definitions: the relation that contracts state, and the marking algorithm that computes it.
use Rattle.std.specs.Prelude.{◌≡◌, ℕ, ◌+◌, ◌⊎◌, Bool, true, false, List, [], ◌∷◌, length, replicate, Some, slice_get, slice_index_or, slice_set}
use Rattle.energy_program.specs.Tree.{Tree}
use Rattle.energy_program.specs.Tree as t

-- the tree uses the definition with this number directly
abbrev pub Uses : Tree → ℕ → Type 0
Uses (t.Number c) k = ⊥
Uses (t.Input i) k = ⊥
Uses (t.Definition j) k = j ≡ k
Uses (t.Negated a) k = Uses a k
Uses (t.Binary o a b) k = Uses a k ⊎ Uses b k
Uses (t.Applied g a) k = Uses a k
Uses (t.Power a n) k = Uses a k
Uses (t.Select x a b) k = Uses x k ⊎ (Uses a k ⊎ Uses b k)

-- the body uses the definition, directly or through another
pub data Needs (body : Tree) (definitions : List Tree) : ℕ → Type 0 where
  directly : {k : ℕ} → Uses body k → Needs body definitions k
  through : {i k : ℕ} {d : Tree} → Needs body definitions i → slice_get definitions i ≡ Some d → Uses d k → Needs body definitions k

-- ---- marks: one per definition, true if it is needed

-- the definition is marked; false past the end of the list
abbrev pub is_marked : List Bool → ℕ → Bool
is_marked marks k = slice_index_or marks k false

-- the marks, with the definitions that the tree uses marked as well; its parts are marked from the last to the first
abbrev pub mark : List Bool → Tree → List Bool
mark marks (t.Number c) = marks
mark marks (t.Input i) = marks
mark marks (t.Definition j) = slice_set marks j true
mark marks (t.Negated a) = mark marks a
mark marks (t.Binary o a b) = mark (mark marks b) a
mark marks (t.Applied g a) = mark marks a
mark marks (t.Power a n) = mark marks a
mark marks (t.Select x a b) = mark (mark (mark marks b) a) x

-- the marks after a definition: its uses are marked if it is marked itself
abbrev pub mark_if : Bool → List Bool → Tree → List Bool
mark_if true marks d = mark marks d
mark_if false marks d = marks

-- the marks after one pass over these definitions, numbered from i; one pass is enough, as they use only later ones
abbrev pub mark_from : ℕ → List Bool → List Tree → List Bool
mark_from i marks [] = marks
mark_from i marks (d ∷ ds) = mark_from (i + 1) (mark_if (is_marked marks i) marks d) ds

-- the marks of the definitions that the body needs
unfoldable pub marks_of : Tree → List Tree → List Bool
marks_of body definitions = mark_from 0 (mark (replicate (length definitions) false) body) definitions
