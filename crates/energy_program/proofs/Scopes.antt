-- The scope of trees, as facts on each part.
use Rattle.std.proofs.Common.{◌≡◌, ℕ, Bool, true, false, refl, ◌+◌, ◌<◌, ◌≤◌, List, [], ◌∷◌, length, IsTrue, arith, subst}
use Rattle.std.specs.Prelude.{◌&&◌, nat_lt, nat_le}
use Rattle.std.proofs.lemmas.Bool.{and_parts, ltb-true, leb-true}
use Rattle.energy_program.specs.Tree.{Tree, is_scoped, are_scoped, is_exponent}
use Rattle.energy_program.specs.Tree as t

-- each variable is an input, each definition that is used has a number from j up to, not with, count, and powers are of
-- exponents that there are
abbrev pub IsValid : (inputs j count : ℕ) → Tree → Type 0
IsValid inputs j count (t.Number c) = Unit {0}
IsValid inputs j count (t.Input k) = k < inputs
IsValid inputs j count (t.Definition k) = (j ≤ k) × (k < count)
IsValid inputs j count (t.Negated a) = IsValid inputs j count a
IsValid inputs j count (t.Binary o a b) = IsValid inputs j count a × IsValid inputs j count b
IsValid inputs j count (t.Applied g a) = IsValid inputs j count a
IsValid inputs j count (t.Power a n) = IsTrue (is_exponent n) × IsValid inputs j count a
IsValid inputs j count (t.Select x a b) = IsValid inputs j count x × IsValid inputs j count a × IsValid inputs j count b

-- each of these definitions, the first with the number j, names only inputs and the definitions after it
abbrev pub AreValid : (inputs j count : ℕ) → List Tree → Type 0
AreValid inputs j count [] = Unit {0}
AreValid inputs j count (d ∷ ds) = IsValid inputs (j + 1) count d × AreValid inputs (j + 1) count ds

-- a tree that tests as scoped is valid
pub valid_of : (inputs j count : ℕ) (e : Tree) → IsTrue (is_scoped inputs j count e) → IsValid inputs j count e
valid_of inputs j count (t.Number c) h = tt
valid_of inputs j count (t.Input k) h = ltb-true k inputs h
valid_of inputs j count (t.Definition k) h =
    let p = and_parts (nat_le j k) (nat_lt k count) h in
    (leb-true j k p.0, ltb-true k count p.1)
valid_of inputs j count (t.Negated a) h = valid_of inputs j count a h
valid_of inputs j count (t.Binary o a b) h =
    let p = and_parts (is_scoped inputs j count a) (is_scoped inputs j count b) h in
    (valid_of inputs j count a p.0, valid_of inputs j count b p.1)
valid_of inputs j count (t.Applied g a) h = valid_of inputs j count a h
valid_of inputs j count (t.Power a n) h =
    let p = and_parts (is_exponent n) (is_scoped inputs j count a) h in
    (p.0, valid_of inputs j count a p.1)
valid_of inputs j count (t.Select x a b) h =
    let p = and_parts (is_scoped inputs j count x) (is_scoped inputs j count a && is_scoped inputs j count b) h in
    let q = and_parts (is_scoped inputs j count a) (is_scoped inputs j count b) p.1 in
    (valid_of inputs j count x p.0, valid_of inputs j count a q.0, valid_of inputs j count b q.1)

-- definitions that test as scoped are valid
pub are_valid : (inputs j count : ℕ) (ds : List Tree) → count ≡ j + length ds → IsTrue (are_scoped inputs j ds) → AreValid inputs j count ds
are_valid inputs j count [] e h = tt
are_valid inputs j count (d ∷ ds) e h =
    let p = and_parts (is_scoped inputs (j + 1) (j + (1 + length ds)) d) (are_scoped inputs (j + 1) ds) h in
    let here : j + (1 + length ds) ≡ count = omega arith in (
      valid_of inputs (j + 1) count d (subst (λ n. IsTrue (is_scoped inputs (j + 1) n d)) here p.0),
      are_valid inputs (j + 1) count ds (omega arith) p.1,
    )

-- if the combined test of a program passes, each of its bounds and tests holds
pub program_parts : (count parameters globals : ℕ) (body each : Bool) → (nat_le count 128 && nat_le parameters 8 && nat_le globals 16 && body && each) ≡ true
    → (count ≤ 128) × (parameters ≤ 8) × (globals ≤ 16) × (body ≡ true) × (each ≡ true)
program_parts count parameters globals body each h =
    let p = and_parts (nat_le count 128 && nat_le parameters 8 && nat_le globals 16 && body) each h in
    let q = and_parts (nat_le count 128 && nat_le parameters 8 && nat_le globals 16) body p.0 in
    let r = and_parts (nat_le count 128 && nat_le parameters 8) (nat_le globals 16) q.0 in
    let s = and_parts (nat_le count 128) (nat_le parameters 8) r.0 in
    (leb-true count 128 s.0, leb-true parameters 8 s.1, leb-true globals 16 r.1, q.1, p.1)

-- if each of two tests passes, their conjunction passes
pub both : (a b : Bool) → IsTrue a → IsTrue b → IsTrue (a && b)
both true b h k = k
both false b h k = h

-- these definitions, numbered from i, name only definitions after them, with numbers below n
abbrev pub scoped_below : ℕ → ℕ → ℕ → List Tree → Bool
scoped_below inputs n i [] = true
scoped_below inputs n i (d ∷ ds) = is_scoped inputs (i + 1) n d && scoped_below inputs n (i + 1) ds

-- if definitions use only later ones, they use only numbers below the number of the list's end
pub to_below : (inputs n i : ℕ) (ds : List Tree) → i + length ds ≡ n → IsTrue (are_scoped inputs i ds) → IsTrue (scoped_below inputs n i ds)
to_below inputs n i [] e h = refl
to_below inputs n i (d ∷ ds) e h =
    let end : i + (1 + length ds) ≡ n = omega arith in
    let p = and_parts (is_scoped inputs (i + 1) (i + (1 + length ds)) d) (are_scoped inputs (i + 1) ds) h in
    both _ _ (subst (λ k. IsTrue (is_scoped inputs (i + 1) k d)) end p.0) (to_below inputs n (i + 1) ds (omega arith) p.1)

-- if definitions use only numbers after their own and below the number of the list's end, they use only later ones
pub from_below : (inputs n i : ℕ) (ds : List Tree) → i + length ds ≡ n → IsTrue (scoped_below inputs n i ds) → IsTrue (are_scoped inputs i ds)
from_below inputs n i [] e h = refl
from_below inputs n i (d ∷ ds) e h =
    let end : n ≡ i + (1 + length ds) = omega arith in
    let p = and_parts (is_scoped inputs (i + 1) n d) (scoped_below inputs n (i + 1) ds) h in
    both _ _ (subst (λ k. IsTrue (is_scoped inputs (i + 1) k d)) end p.0) (from_below inputs n (i + 1) ds (omega arith) p.1)
