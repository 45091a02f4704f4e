-- The meaning of definitions: of the first of a list, of the later ones, and of a number past them all.
use Rattle.std.proofs.Common.{◌≡◌, ℕ, ◌+◌, ◌≤◌, ◌==◌, pos, false, true, List, [], ◌∷◌, length, refl, ◌∙◌, arith}
use Rattle.std.proofs.lemmas.Bool.{ne_eqb, eq-eqb}
use Rattle.fixed.specs.Constants.{exactly}
use Rattle.energy_program.specs.Tree.{Tree, Number, put, meaning}

-- a later definition is not the first
pub skip : (i j : ℕ) (d : Tree) (ds : List Tree) → i + 1 ≤ j → meaning i (d ∷ ds) j ≡ meaning (i + 1) ds j
skip i j d ds h = let e : (j == i) ≡ false = ne_eqb j i (λ w. omega arith) in rw e refl

-- the first definition means its tree with each later definition replaced by its meaning
pub here : (i j : ℕ) (d : Tree) (ds : List Tree) → j ≡ i → meaning i (d ∷ ds) j ≡ put (meaning (i + 1) ds) d
here i j d ds h = let e : (j == i) ≡ true = eq-eqb j i h in rw e refl

-- past the definitions there is 0
pub past : (i : ℕ) (ds : List Tree) (j : ℕ) → i + length ds ≤ j → meaning i ds j ≡ Number (exactly (pos 0))
past i [] j h = refl
past i (d ∷ ds) j h = skip i j d ds (omega arith) ∙ past (i + 1) ds j (omega arith)
