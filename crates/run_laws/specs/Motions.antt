-- The steps of the run specification as motions of two frames: one past and one future, time reversal, and recurrence.
use Rattle.std.specs.Prelude.{◌≡◌, ◌↔◌, ℕ, ◌*◌, ◌^◌, ◌<◌, ◌≤◌, List, length}
use Rattle.energy_program.specs.Tree.{Tree}
use Rattle.job.specs.JobText.{IsJobText, limits}
use Rattle.job.specs.Values.{JobValue}
use Rattle.state.specs.StateText.{StateView}
use Rattle.ring_box.specs.declared.vectors.Place3.{Place3}
use Rattle.integrator.specs.Frames.{AreOfSameAtoms, frames}
use Rattle.engine.specs.Engines.{AreSafe}
use Rattle.engine.specs.RunSpecification.{AreTypes, Follows, IsJobEnergy, IsTextOf, Lead, current, previous}

-- ---- one past, and one future

-- Two frames of the same atoms have one past: if k steps lead from two pairs of frames to the same pair, the two pairs
-- are equal.
abbrev pub OnePast : Type 0
OnePast = (j : JobValue) (tree : Tree) (sides types : List ℕ) (k : ℕ) (p c q e p' c' : List Place3)
    → AreOfSameAtoms (frames p c) → AreOfSameAtoms (frames q e)
    → Lead j tree sides types k p c p' c' → Lead j tree sides types k q e p' c' → (p ≡ q) × (c ≡ e)

-- Two frames with equal numbers of atoms have one future: k steps lead from them to only one pair of frames.
abbrev pub OneFuture : Type 0
OneFuture = (j : JobValue) (tree : Tree) (sides types : List ℕ) (k : ℕ) (p c p' c' q e : List Place3) → length p ≡ length c
    → Lead j tree sides types k p c p' c' → Lead j tree sides types k p c q e → (p' ≡ q) × (c' ≡ e)

-- ---- reversal

-- Time reversal: k steps lead from the frames p, c of the same atoms to p', c' exactly if k steps lead from the frames
-- c', p' of the same atoms to c, p.
abbrev pub StepsReverse : Type 0
StepsReverse = (j : JobValue) (tree : Tree) (sides types : List ℕ) (k : ℕ) (p c p' c' : List Place3)
    → (AreOfSameAtoms (frames p c) × Lead j tree sides types k p c p' c')
    ↔ (AreOfSameAtoms (frames c' p') × Lead j tree sides types k c' p' c p)

-- ---- recurrence

-- Some positive number of steps leads from two frames back to them. The bound is the number of pairs of frames: an atom
-- has 2^96 possible positions in each frame.
pub record Recur (j : JobValue) (tree : Tree) (sides types : List ℕ) (p c : List Place3) : Type 0 where
  pub steps : ℕ
  pub some : 0 < steps
  pub at_most : steps ≤ 2 ^ (192 * length c)
  pub lead : Lead j tree sides types steps p c p c

-- any two frames of n atoms have a next frame
abbrev pub AreAllFollowed : JobValue → Tree → (sides types : List ℕ) → ℕ → Type 0
AreAllFollowed j tree sides types n =
    (p c : List Place3) → AreOfSameAtoms (frames p c) → length c ≡ n → (next : List Place3) × Follows j tree sides types p c next

-- if any two frames of n atoms have a next frame, any two of them recur
abbrev pub FramesRecur : Type 0
FramesRecur = (j : JobValue) (tree : Tree) (sides types : List ℕ) (n : ℕ) (p c : List Place3)
    → AreAllFollowed j tree sides types n → AreOfSameAtoms (frames p c) → length c ≡ n
    → Recur j tree sides types p c

-- ---- accepted jobs

-- If the code of the job's derivative is accepted for a state's atoms, any two frames with the state's number of atoms
-- have a next frame.
abbrev pub AcceptedAreFollowed : Type 0
AcceptedAreFollowed =
    (job state : List ℕ) (j : JobValue) (tree : Tree) (s : StateView) (types : List ℕ) → IsJobText limits job j
    → IsJobEnergy j tree → IsTextOf state s → AreTypes j s.atoms types → AreSafe job state
    → AreAllFollowed j tree s.sides types (length s.atoms)

-- If the code is accepted, the state's two frames recur.
abbrev pub AcceptedRecur : Type 0
AcceptedRecur = (job state : List ℕ) (j : JobValue) (tree : Tree) (s : StateView) (types : List ℕ)
    → IsJobText limits job j → IsJobEnergy j tree → IsTextOf state s → AreTypes j s.atoms types → AreSafe job state
    → Recur j tree s.sides types (previous s) (current s)
