-- Computed trees name only definitions that are there.
use Rattle.std.proofs.Common.{◌≡◌, ℕ, ◌+◌, List, [], ◌∷◌, length, refl, inl, inr, Bool, true, false, IsTrue, arith, slice_index_or}
use Rattle.energy_program.specs.Tree.{Tree, is_scoped, are_scoped}
use Rattle.energy_program.specs.Tree as t
use Rattle.energy_program.specs.Uses.{Uses, marks_of}
use Rattle.energy_program.proofs.Scopes.{IsValid, AreValid, valid_of, are_valid}
use Rattle.energy_program.proofs.MarkLaws.{AreMarked, body_marked, definitions_marked}
use Rattle.kernel_compiler.proofs.Runs.{IsFine}

-- a valid tree is fine under marks that hold its uses
fine_marked : (inputs j count : ℕ) (m : List Bool) (e : Tree) → IsValid inputs j count e → ((k : ℕ) → Uses e k → slice_index_or m k false ≡ true) → IsFine inputs m j e
fine_marked inputs j count m (t.Number c) valid h = tt
fine_marked inputs j count m (t.Input k) valid h = valid
fine_marked inputs j count m (t.Definition k) valid h = (valid.0, h k refl)
fine_marked inputs j count m (t.Binary o a b) valid h = (fine_marked inputs j count m a valid.0 (λ k u. h k (inl u)), fine_marked inputs j count m b valid.1 (λ k u. h k (inr u)))
fine_marked inputs j count m (t.Negated a) valid h = fine_marked inputs j count m a valid h
fine_marked inputs j count m (t.Applied g a) valid h = fine_marked inputs j count m a valid h
fine_marked inputs j count m (t.Power a n) valid h = fine_marked inputs j count m a valid.1 h
fine_marked inputs j count m (t.Select c a b) valid h = (fine_marked inputs j count m c valid.0 (λ k u. h k (inl u)), fine_marked inputs j count m a valid.1 (λ k u. h k (inr (inl u))), fine_marked inputs j count m b valid.2 (λ k u. h k (inr (inr u))))

-- each marked definition is fine
abbrev pub AreFine : ℕ → List Bool → ℕ → List Tree → Type 0
AreFine inputs m j [] = Unit {0}
AreFine inputs m j (d ∷ ds) = (slice_index_or m j false ≡ true → IsFine inputs m (j + 1) d) × AreFine inputs m (j + 1) ds

all_fine : (inputs count j : ℕ) (m : List Bool) (ds : List Tree) → AreValid inputs j count ds → AreMarked m j ds → AreFine inputs m j ds
all_fine inputs count j m [] valid marked = tt
all_fine inputs count j m (d ∷ ds) valid marked =
    ((λ h. fine_marked inputs (j + 1) count m d valid.0 (marked.0 h)), all_fine inputs count (j + 1) m ds valid.1 marked.1)

-- the body is fine, and each definition that is needed
pub program_fine : (inputs : ℕ) (body : Tree) (ds : List Tree) → IsTrue (is_scoped inputs 0 (length ds) body) → IsTrue (are_scoped inputs 0 ds)
    → IsFine inputs (marks_of body ds) 0 body × AreFine inputs (marks_of body ds) 0 ds
program_fine inputs body ds whole each = (
  fine_marked inputs 0 (length ds) (marks_of body ds) body (valid_of inputs 0 (length ds) body whole) (body_marked inputs body ds whole each),
  all_fine inputs (length ds) 0 (marks_of body ds) ds (are_valid inputs 0 (length ds) ds (omega arith) each) (definitions_marked inputs body ds whole each),
)
