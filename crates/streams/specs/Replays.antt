-- Replays of streams: whether each state of a stream is the run of the state before it, as many steps forward or back
-- as their counters are apart. Two neighbouring states are a segment.
use Rattle.std.specs.Prelude.{◌≡◌, ◌≢◌, ◌⊎◌, ℕ, ℤ, suc, List, [], ◌∷◌, ◌++◌, length, slice_get, take, Bool, true, false, Option, Some, None, is_some, codes}
use Rattle.std.specs.Fmt.{decimal, signed_decimal}
use Rattle.engine.specs.Engines.{AreSafe}
use Rattle.engine.specs.RunSpecification.{IsLevesqueVerletRun, IsTextOf, who}
use Rattle.integrator.specs.States.{counter_after}
use Rattle.integrator.specs.declared.direction.Direction.{Direction}
use Rattle.ring_box.specs.declared.vectors.Axis.{Axis}
use Rattle.ring_box.specs.declared.vectors.Axis.TheVariants.{X, Y, Z}
use Rattle.ring_box.specs.declared.vectors.Place3.{Place3}
use Rattle.state.specs.StateText.{AtomView, StateView}
use Rattle.streams.specs.Plans.{IsReplayed, ReplayPlanView}
use Rattle.streams.specs.Streams.{StreamOutput}
use Rattle.streams.specs.declared.differences.AtomPart.{AtomPart}
use Rattle.streams.specs.declared.differences.AtomPart.TheVariants.{Name, Previous, Current}
use Rattle.streams.specs.declared.differences.Difference.{Difference}
use Rattle.streams.specs.declared.differences.Difference.TheVariants.{Title, Atoms, Sides, Atom}

-- ---- differences

-- two places differ on this axis, and on none before it
abbrev pub DifferOn : Place3 → Place3 → Axis → Type 0
DifferOn a b X = a.x ≢ b.x
DifferOn a b Y = (a.x ≡ b.x) × (a.y ≢ b.y)
DifferOn a b Z = (a.x ≡ b.x) × (a.y ≡ b.y) × (a.z ≢ b.z)

-- two atoms differ in this part of their lines, and in none before it
abbrev pub DifferIn : AtomView → AtomView → AtomPart → Type 0
DifferIn a b Name = who a ≢ who b
DifferIn a b (Previous axis) = (who a ≡ who b) × DifferOn a.previous b.previous axis
DifferIn a b (Current axis) = (who a ≡ who b) × (a.previous ≡ b.previous) × DifferOn a.current b.current axis

-- the atoms before the one with this number, from 1, are the same in both lists, and these two differ in this part
pub record DifferAt (xs ys : List AtomView) (number : ℕ) (part : AtomPart) : Type 0 where
  pub before : ℕ
  pub number' : number ≡ suc before
  pub same : take before xs ≡ take before ys
  pub a : AtomView
  pub b : AtomView
  pub first : slice_get xs before ≡ Some a
  pub second : slice_get ys before ≡ Some b
  pub differ : DifferIn a b part

-- the first atoms that differ, with their number and the part
abbrev pub IsFirstAtom : List AtomView → List AtomView → ℕ × AtomPart → Type 0
IsFirstAtom xs ys at = DifferAt xs ys at.0 at.1

-- Two states with the same counter and number of fraction bits first differ here, in the order of their texts. A run
-- keeps the number of fraction bits, which both states share with the job.
abbrev pub IsDifference : StateView → StateView → Difference → Type 0
IsDifference s t Title = s.title ≢ t.title
IsDifference s t Atoms = (s.title ≡ t.title) × (length s.atoms ≢ length t.atoms)
IsDifference s t Sides = (s.title ≡ t.title) × (length s.atoms ≡ length t.atoms) × (s.sides ≢ t.sides)
IsDifference s t (Atom number part) =
    (s.title ≡ t.title) × (length s.atoms ≡ length t.atoms) × (s.sides ≡ t.sides)
    × DifferAt s.atoms t.atoms number part

-- ---- the words for them

abbrev pub axis_words : Axis → List ℕ
axis_words X = codes "x"
axis_words Y = codes "y"
axis_words Z = codes "z"

abbrev pub part_words : AtomPart → List ℕ
part_words Name = codes "name"
part_words (Previous axis) = codes "previous " ++ axis_words axis
part_words (Current axis) = axis_words axis

abbrev pub difference_words : Difference → List ℕ
difference_words Title = codes "title"
difference_words Atoms = codes "atoms"
difference_words Sides = codes "box"
difference_words (Atom number part) = codes "atom " ++ decimal number ++ codes " " ++ part_words part

-- ---- segments

-- the state that a run leads to is the stored one, or first differs from it here
abbrev pub IsVerdict : (run stored : StateView) → Option Difference → Type 0
IsVerdict run stored None = run ≡ stored
IsVerdict run stored (Some d) = IsDifference run stored d

abbrev pub verdict_words : Option Difference → List ℕ
verdict_words None = codes "same"
verdict_words (Some d) = codes "differs: " ++ difference_words d

-- the line of a segment: the counters of its states, and the verdict
abbrev pub segment_line : (from to : ℤ) → Option Difference → List ℕ
segment_line from to d = signed_decimal from ++ codes " " ++ signed_decimal to ++ codes " " ++ verdict_words d ++ 10 ∷ []

-- `line` is the line of the segment of the states with these texts. The run that starts at the first makes `steps`
-- steps to the counter of the second, and its text is the text of the state `run`.
pub record IsLineOf (job before after : List ℕ) (difference : Option Difference) (line : List ℕ) : Type 0 where
  pub s : StateView
  pub t : StateView
  pub first : IsTextOf before s
  pub second : IsTextOf after t
  pub direction : Direction
  pub steps : ℕ
  pub counted : counter_after direction s.step steps ≡ Some t.step
  pub run : StateView
  pub text : List ℕ
  pub run_text : IsTextOf text run
  pub is_run : IsLevesqueVerletRun job before direction steps text
  pub verdict : IsVerdict run t difference
  pub line' : line ≡ segment_line s.step t.step difference

-- ---- streams

-- a statement about the counters of the states with these texts
pub record OfCounters (before after : List ℕ) (Holds : ℤ → ℤ → Type 0) : Type 0 where
  pub s : StateView
  pub t : StateView
  pub first : IsTextOf before s
  pub second : IsTextOf after t
  pub holds : Holds s.step t.step

-- What was written of the segment with this number, from 0: nothing if it isn't to be replayed, and otherwise its line.
pub data IsWritten (plan : ReplayPlanView) (job : List ℕ) (number : ℕ) (before after : List ℕ)
    : (differs : Bool) → List ℕ → Type 0 where
  passed : OfCounters before after (λ from to. IsReplayed plan number from to → ⊥) → IsWritten plan job number before after false []
  replayed : (difference : Option Difference) (line : List ℕ) → OfCounters before after (IsReplayed plan number)
      → IsLineOf job before after difference line → IsWritten plan job number before after (is_some difference) line

-- one more, if this segment differs
abbrev pub and_one : Bool → ℕ → ℕ
and_one true n = suc n
and_one false n = n

-- The first `count` states of a stream have the texts `front`, one after another, and `last` is the text of the last of
-- them. The code is safe for each of them. `text` was written of their segments, of which `differing` differ.
pub data AreReplayed (plan : ReplayPlanView) (job : List ℕ)
    : (count differing : ℕ) → (front last text : List ℕ) → Type 0 where
  begins : (state : List ℕ) → AreSafe job state → AreReplayed plan job 1 0 state state []
  goes_on : (number differing : ℕ) (front before text after line : List ℕ) (differs : Bool)
      → AreReplayed plan job (suc number) differing front before text → AreSafe job after
      → IsWritten plan job number before after differs line
      → AreReplayed plan job (suc (suc number)) (and_one differs differing) (front ++ after) after (text ++ line)

-- `text` is the line of a segment that is to be replayed, and the code is safe for its second state
pub record IsNextLine (plan : ReplayPlanView) (job : List ℕ) (number : ℕ) (before after text : List ℕ) : Type 0 where
  pub safe : AreSafe job after
  pub replayed : OfCounters before after (IsReplayed plan number)
  pub difference : Option Difference
  pub line : IsLineOf job before after difference text

-- What an output has of a stream that is replayed: the lines of its segments. Before the first state it has nothing.
abbrev pub replayed_by : ReplayPlanView → (job : List ℕ) → StreamOutput
replayed_by plan job = record {
  has = λ count differing front text. ((count ≡ 0) × (differing ≡ 0) × (front ≡ []) × (text ≡ []))
      ⊎ ((last : List ℕ) × AreReplayed plan job count differing front last text);
  next = λ count front state text. (number : ℕ) × (differing : ℕ) × (before : List ℕ) × (earlier : List ℕ)
      × (count ≡ suc number) × AreReplayed plan job count differing front before earlier
      × IsNextLine plan job number before state text;
  observes = ⊥;
}
