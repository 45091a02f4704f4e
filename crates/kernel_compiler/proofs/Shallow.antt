-- Short code is shallow: the part that needs more of the stack comes first.
use Rattle.std.proofs.Common.{◌≡◌, ℕ, ◌+◌, ◌-◌, ◌*◌, ◌<◌, ◌≤◌, min, max, List, [], ◌∷◌, refl, ap, ℤ, pos, negsuc, arith, ⊎_elim, inl, inr, Bool, true, false, nat_lt, ◌^◌, pow_mono, add-one, mul_comm, ◌∙◌}
use Rattle.std.proofs.Math.Nat.{pow-suc}
use Rattle.std.proofs.lemmas.Bool.{cases_lt}
use Rattle.std.proofs.lemmas.Bool.Decides.{nat_tests}
use Rattle.energy_program.specs.Tree.{Tree}
use Rattle.energy_program.specs.Tree as t
use Rattle.energy_program.specs.Uses.{is_marked}
use Rattle.kernel_compiler.specs.Code.{raised_need, pair_need, is_second_first, stack_depth}
use Rattle.kernel_compiler.specs.Sizes.{size, raised_size, kept_size, definitions_size}

-- the stack depth of a definition's code if the definition is marked, else 0
abbrev pub need_if : Bool → Tree → ℕ
need_if true d = stack_depth d
need_if false d = 0

-- the greatest stack depth of the marked ones of these definitions, which are numbered from j
abbrev pub definitions_need : ℕ → List Bool → List Tree → ℕ
definitions_need j ms [] = 0
definitions_need j ms (d ∷ ds) = max (need_if (is_marked ms j) d) (definitions_need (j + 1) ms ds)

rises : (m n : ℕ) → m ≤ n → 2 ^ m ≤ 2 ^ n
rises m n h = pow_mono h

two_more : (n : ℕ) → 2 ^ (n + 1) ≡ 2 * 2 ^ n
two_more n = rw add-one (pow-suc 2 n ∙ mul_comm (2 ^ n) 2)

max_within : (m n s : ℕ) → 2 ^ (m - 48) ≤ s → 2 ^ (n - 48) ≤ s → 2 ^ (max m n - 48) ≤ s
max_within m n s h g =
    ⊎_elim
    (λ (lt : m < n). let e : max m n ≡ n = omega arith in omega (arith, ap (λ k. 2 ^ (k - 48)) e))
    (λ (le : n ≤ m). let e : max m n ≡ m = omega arith in omega (arith, ap (λ k. 2 ^ (k - 48)) e))
    (cases_lt m n)

pair_within : (swap : Bool) (x y s r : ℕ) → nat_lt (max 47 x) y ≡ swap → 2 ^ (x - 48) ≤ 2 * s → 2 ^ (y - 48) ≤ 2 * r → 2 ^ (min 65 (pair_need swap x y) - 48) ≤ 2 * (s + r)
pair_within true x y s r test h g =
    let lt : max 47 x < y = grind (arith, nat_tests) in
    omega (arith, rises (min 65 (max y (x + 1)) - 48) (y - 48) (omega arith))
pair_within false x y s r test h g =
    let le : y ≤ max 47 x = grind (arith, nat_tests) in
    ⊎_elim
    (λ (low : max x (y + 1) - 48 ≤ x - 48). omega (arith, rises (min 65 (max x (y + 1)) - 48) (x - 48) (omega arith)))
    (λ (high : x - 48 < max x (y + 1) - 48).
    let same : x - 48 ≡ y - 48 = omega arith in
    omega (arith, ap (λ k. 2 ^ k) same, two_more (y - 48), rises (min 65 (max x (y + 1)) - 48) (y - 48 + 1) (omega arith)))
    (⊎_elim (λ l. inr l) (λ l. inl l) (cases_lt (x - 48) (max x (y + 1) - 48)))

raised_need_most : (n : ℤ) → raised_need n ≤ 3
raised_need_most (pos n) = omega arith
raised_need_most (negsuc n) = omega arith

raised_size_least : (n : ℤ) → 1 ≤ raised_size n
raised_size_least (pos n) = omega arith
raised_size_least (negsuc n) = omega arith

power_need : (e : Tree) → 2 ^ (stack_depth e - 48) ≤ 2 * size e
power_need (t.Negated a) = omega (arith, power_need a)
power_need (t.Binary o a b) = omega (arith, pair_within (is_second_first (stack_depth a) (stack_depth b)) (stack_depth a) (stack_depth b) (size a) (size b) refl (power_need a) (power_need b))
power_need (t.Applied g a) = omega (arith, power_need a)
power_need (t.Power a n) =
    let h1 : 2 ^ (stack_depth a - 48) ≤ 2 * (size a + raised_size n) = omega (arith, power_need a) in
    let low = raised_need_most n in
    let none : raised_need n - 48 ≡ 0 = omega arith in
    let h2 : 2 ^ (raised_need n - 48) ≤ 2 * (size a + raised_size n) = omega (arith, ap (λ k. 2 ^ k) none, raised_size_least n) in
    max_within (stack_depth a) (raised_need n) _ h1 h2
power_need (t.Select x a b) =
    let s = size x + 1 + size a + 1 + size b in
    let hx : 2 ^ (stack_depth x - 48) ≤ 2 * s = omega (arith, power_need x) in
    let ha : 2 ^ (stack_depth a - 48) ≤ 2 * s = omega (arith, power_need a) in
    let hb : 2 ^ (stack_depth b - 48) ≤ 2 * s = omega (arith, power_need b) in
    max_within (stack_depth x) (max (stack_depth a) (stack_depth b)) _ hx (max_within (stack_depth a) (stack_depth b) _ ha hb)
power_need _ = omega arith

-- so no code within the limit pushes more than 63 values
pub shallow : (e : Tree) → size e ≤ 16384 → stack_depth e ≤ 63
shallow e h =
    ⊎_elim
    (λ (lt : stack_depth e < 64). let g : stack_depth e ≤ 63 = omega arith in g)
    (λ (le : 64 ≤ stack_depth e). absurd (omega (arith, power_need e, rises 16 (stack_depth e - 48) (omega arith))))
    (cases_lt (stack_depth e) 64)

kept_shallow : (b : Bool) (d : Tree) → kept_size b d ≤ 16384 → need_if b d ≤ 64
kept_shallow true d h = omega (arith, shallow d (omega arith))
kept_shallow false d h = omega arith

-- definitions whose code is within the limit need no 65th value on the stack
pub definitions_shallow : (j : ℕ) (m : List Bool) (ds : List Tree) → definitions_size j m ds ≤ 16384 → definitions_need j m ds ≤ 64
definitions_shallow j m [] h = omega arith
definitions_shallow j m (d ∷ ds) h =
    let b = is_marked m j in
    omega (arith, kept_shallow b d (omega arith), definitions_shallow (j + 1) m ds (omega arith))
