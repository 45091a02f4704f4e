-- Symmetries of the motion: translation, a uniform drift of all atoms, and permutation of the axes.
-- Two symmetries don't hold. Mirror images of frames need not lead to mirror images: `component_of` is the floor of g a
-- / d, so a mirrored component isn't the negative of the original one unless the quotient is an integer. Exchanging two
-- atoms of one type need not lead to the same frames with these atoms exchanged: the force of a pair is computed for
-- the atom with the lower number, and the other atom gets its negative. Unless a quotient is an integer, that negative
-- differs from the force computed for the other atom.
use Rattle.std.specs.Prelude.{◌≡◌, ℕ, suc, ◌+◌, ◌*◌, ℤ, pos, ◌+ℤ◌, List, [], ◌∷◌, map, slice_index}
use Rattle.energy_program.specs.Tree.{Tree}
use Rattle.job.specs.Values.{JobValue}
use Rattle.state.specs.StateText.{AtomView, IsState, StateView, state_text}
use Rattle.ring_box.specs.Places.{ArePlaces, place_at}
use Rattle.ring_box.specs.declared.vectors.Place3.{Place3}
use Rattle.ring_box.specs.declared.vectors.Vector.{Vector}
use Rattle.integrator.specs.Frames.{AreOfSameAtoms, frames}
use Rattle.integrator.specs.declared.direction.Direction.{Direction}
use Rattle.engine.specs.Engines.{AreSafe}
use Rattle.engine.specs.RunSpecification.{IsLevesqueVerletRun, IsPairForce, Lead, Leads}

-- ---- translations

-- the grid coordinate s units further, modulo 2^32
abbrev pub place_shifted : ℕ → ℕ → ℕ
place_shifted s x = place_at (pos x +ℤ pos s)

-- coordinates shifted by s along each axis
abbrev pub shifted : Place3 → Place3 → Place3
shifted s p = record { x = place_shifted s.x p.x; y = place_shifted s.y p.y; z = place_shifted s.z p.z }

-- a frame with all atoms shifted by s
abbrev pub shifted_frame : Place3 → List Place3 → List Place3
shifted_frame s frame = map (shifted s) frame

abbrev pub shifted_atom : Place3 → AtomView → AtomView
shifted_atom s atom = record atom { previous = shifted s atom.previous; current = shifted s atom.current }

-- a state with both frames shifted by s
abbrev pub shifted_state : Place3 → StateView → StateView
shifted_state s state = record state { atoms = map (shifted_atom s) state.atoms }

-- every shift has an inverse shift
abbrev pub ShiftsAreUndone : Type 0
ShiftsAreUndone = (s : Place3) → (back : Place3) × ((p : Place3) → ArePlaces p → shifted back (shifted s p) ≡ p)

-- a common shift of two atoms doesn't change their force
abbrev pub ForcesAreTranslated : Type 0
ForcesAreTranslated = (s : Place3) (j : JobValue) (tree : Tree) (sides types : List ℕ) (pair : ℕ × ℕ) (a b : Place3) (v : Vector ℤ)
    → ArePlaces a → ArePlaces b → IsPairForce j tree sides types pair a b v
    → IsPairForce j tree sides types pair (shifted s a) (shifted s b) v

-- Steps are translation-invariant: k steps from two shifted frames lead to the shifted images of the frames to which k
-- steps lead from the original two.
abbrev pub StepsAreTranslated : Type 0
StepsAreTranslated = (s : Place3) (j : JobValue) (tree : Tree) (sides types : List ℕ) (k : ℕ) (p c p' c' : List Place3)
    → AreOfSameAtoms (frames p c) → Lead j tree sides types k p c p' c'
    → Lead j tree sides types k (shifted_frame s p) (shifted_frame s c) (shifted_frame s p') (shifted_frame s c')

-- the shift of the frame t: s at the frame 0, and d more at each next frame
abbrev pub drifted : Place3 → Place3 → ℕ → Place3
drifted s d t = record { x = s.x + t * d.x; y = s.y + t * d.y; z = s.z + t * d.z }

-- Steps are invariant under a uniform drift of all atoms: if the shift grows by d in each step, the frames of the
-- motion are shifted and otherwise unchanged.
abbrev pub StepsDrift : Type 0
StepsDrift = (s d : Place3) (j : JobValue) (tree : Tree) (sides types : List ℕ) (k : ℕ) (p c p' c' : List Place3)
    → AreOfSameAtoms (frames p c) → Lead j tree sides types k p c p' c'
    → Lead j tree sides types k (shifted_frame (drifted s d 0) p) (shifted_frame (drifted s d 1) c)
    (shifted_frame (drifted s d k) p') (shifted_frame (drifted s d (suc k)) c')

-- Steps of states are translation-invariant in both directions.
abbrev pub StatesAreTranslated : Type 0
StatesAreTranslated = (s : Place3) (direction : Direction) (j : JobValue) (tree : Tree) (types : List ℕ) (k : ℕ) (before after : StateView)
    → IsState before → Leads direction j tree types k before after
    → Leads direction j tree types k (shifted_state s before) (shifted_state s after)

-- Runs are translation-invariant: a run from the text of the shifted state writes the text of the shifted final state.
abbrev pub RunsAreTranslated : Type 0
RunsAreTranslated =
    (s : Place3) (job state : List ℕ) (direction : Direction) (k : ℕ) (text : List ℕ) (run : IsLevesqueVerletRun job state direction k text)
    → IsLevesqueVerletRun job (state_text (shifted_state s run.before)) direction k (state_text (shifted_state s run.after))

-- the code of the job's derivative is accepted for the shifted state too
abbrev pub TranslatedAreSafe : Type 0
TranslatedAreSafe =
    (s : Place3) (job : List ℕ) (state : StateView) → IsState state → AreSafe job (state_text state)
    → AreSafe job (state_text (shifted_state s state))

-- ---- axes

-- an order of the axes: which of x, y and z is first, second and third
pub data AxisOrder : Type 0 where
  xyz : AxisOrder
  xzy : AxisOrder
  yxz : AxisOrder
  yzx : AxisOrder
  zxy : AxisOrder
  zyx : AxisOrder

-- the values of x, y and z in an order
abbrev pub in_order : {X : Type 0} → AxisOrder → X → X → X → X × X × X
in_order xyz x y z = (x, y, z)
in_order xzy x y z = (x, z, y)
in_order yxz x y z = (y, x, z)
in_order yzx x y z = (y, z, x)
in_order zxy x y z = (z, x, y)
in_order zyx x y z = (z, y, x)

-- the coordinates in an order of the axes
abbrev pub reordered : AxisOrder → Place3 → Place3
reordered o p = record { x = (in_order o p.x p.y p.z).0; y = (in_order o p.x p.y p.z).1; z = (in_order o p.x p.y p.z).2 }

abbrev pub reordered_force : AxisOrder → Vector ℤ → Vector ℤ
reordered_force o v = record { x = (in_order o v.x v.y v.z).0; y = (in_order o v.x v.y v.z).1; z = (in_order o v.x v.y v.z).2 }

-- the three sides of a state in an order of the axes
abbrev pub three_in_order : AxisOrder → ℕ → ℕ → ℕ → List ℕ
three_in_order o x y z = (in_order o x y z).0 ∷ (in_order o x y z).1 ∷ (in_order o x y z).2 ∷ []

abbrev pub reordered_sides : AxisOrder → List ℕ → List ℕ
reordered_sides o sides = three_in_order o (slice_index sides 0) (slice_index sides 1) (slice_index sides 2)

abbrev pub reordered_frame : AxisOrder → List Place3 → List Place3
reordered_frame o frame = map (reordered o) frame

abbrev pub reordered_atom : AxisOrder → AtomView → AtomView
reordered_atom o atom = record atom { previous = reordered o atom.previous; current = reordered o atom.current }

-- a state with its box and both frames in an order of the axes
abbrev pub reordered_state : AxisOrder → StateView → StateView
reordered_state o state = record state { sides = reordered_sides o state.sides; atoms = map (reordered_atom o) state.atoms }

-- every reordering of the axes has an inverse
abbrev pub OrdersAreUndone : Type 0
OrdersAreUndone = (o : AxisOrder) → (back : AxisOrder) × ((p : Place3) → reordered back (reordered o p) ≡ p)

-- if atoms and box are reordered, the force of two atoms is reordered with them
abbrev pub ForcesAreReordered : Type 0
ForcesAreReordered = (o : AxisOrder) (j : JobValue) (tree : Tree) (sides types : List ℕ) (pair : ℕ × ℕ) (a b : Place3) (v : Vector ℤ)
    → IsPairForce j tree sides types pair a b v
    → IsPairForce j tree (reordered_sides o sides) types pair (reordered o a) (reordered o b) (reordered_force o v)

-- Steps don't depend on the order of the axes: k steps from two reordered frames in the reordered box lead to the
-- reordered images of the frames to which k steps lead from the original two.
abbrev pub StepsAreReordered : Type 0
StepsAreReordered = (o : AxisOrder) (j : JobValue) (tree : Tree) (sides types : List ℕ) (k : ℕ) (p c p' c' : List Place3)
    → Lead j tree sides types k p c p' c'
    → Lead j tree (reordered_sides o sides) types k (reordered_frame o p) (reordered_frame o c) (reordered_frame o p')
    (reordered_frame o c')

-- Steps of states don't depend on the order of the axes, in both directions.
abbrev pub StatesAreReordered : Type 0
StatesAreReordered =
    (o : AxisOrder) (direction : Direction) (j : JobValue) (tree : Tree) (types : List ℕ) (k : ℕ) (before after : StateView)
    → Leads direction j tree types k before after → Leads direction j tree types k (reordered_state o before) (reordered_state o after)

-- Runs don't depend on the order of the axes: a run from the text of the reordered state writes the text of the
-- reordered final state.
abbrev pub RunsAreReordered : Type 0
RunsAreReordered =
    (o : AxisOrder) (job state : List ℕ) (direction : Direction) (k : ℕ) (text : List ℕ)
    (run : IsLevesqueVerletRun job state direction k text)
    → IsLevesqueVerletRun job (state_text (reordered_state o run.before)) direction k (state_text (reordered_state o run.after))

-- the code of the job's derivative is accepted for the reordered state too
abbrev pub ReorderedAreSafe : Type 0
ReorderedAreSafe =
    (o : AxisOrder) (job : List ℕ) (state : StateView) → IsState state → AreSafe job (state_text state)
    → AreSafe job (state_text (reordered_state o state))
