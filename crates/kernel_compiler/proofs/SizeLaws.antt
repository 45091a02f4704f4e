-- How long codes are.
use Rattle.std.proofs.Common.{◌≡◌, ℕ, suc, ◌+◌, List, [], ◌∷◌, ◌++◌, length, refl, arith, length-append, ℤ, pos, negsuc, Bool, true, false}
use Rattle.fixed.specs.declared.operations.Operator.{Operator}
use Rattle.fixed.specs.declared.operations.Operator.TheVariants.{Divide}
use Rattle.fixed.specs.declared.operations.UnaryOperator.TheVariants.{Negate, Apply}
use Rattle.kernel_code.specs.declared.instructions.Instr.{Instr}
use Rattle.kernel_code.specs.declared.instructions.Instr.TheVariants.{Keep, Binary, Unary, JumpIfZero, Jump}
use Rattle.energy_program.specs.Tree.{Tree}
use Rattle.energy_program.specs.Tree as t
use Rattle.energy_program.specs.Uses.{is_marked, marks_of}
use Rattle.kernel_compiler.specs.Code.{local_of, power_code, raised_code, is_second_first, stack_depth, exchange_code, pair_code, tree_code, kept_code, definitions_code, program_code}
use Rattle.kernel_compiler.specs.Sizes.{raised_size, pair_size, size, kept_size, definitions_size}

length-raised : (bits : ℕ) (n : ℤ) → length (raised_code bits n) ≡ raised_size n
length-raised bits (pos n) = omega arith
length-raised bits (negsuc n) = omega (arith, length-append (power_code (suc n)) (Binary Divide ∷ []))

length-pair : (swap : Bool) (o : Operator) (at : ℕ) (fa fb : ℕ → List Instr) (na nb : ℕ) → ((p : ℕ) → length (fa p) ≡ na) → ((p : ℕ) → length (fb p) ≡ nb) → length (pair_code swap o at fa fb) ≡ na + nb + pair_size swap
length-pair false o at fa fb na nb la lb =
    let ca = fa at in
    let cb = fb (at + length ca) in
    omega (arith, length-append ca (cb ++ (Binary o ∷ [])), length-append cb (Binary o ∷ []), la at, lb (at + length ca))
length-pair true o at fa fb na nb la lb =
    let tail = exchange_code ++ (Binary o ∷ []) in
    let cb = fb at in
    let ca = fa (at + length cb) in
    omega (arith, length-append cb (ca ++ tail), length-append ca tail, lb at, la (at + length cb))

-- the length of a tree's code is the tree's `size`
pub length-tree : (bits at : ℕ) (e : Tree) → length (tree_code bits at e) ≡ size e
length-tree bits at (t.Negated a) = omega (arith, length-append (tree_code bits at a) (Unary Negate ∷ []), length-tree bits at a)
length-tree bits at (t.Binary o a b) = length-pair (is_second_first (stack_depth a) (stack_depth b)) o at (λ p. tree_code bits p a) (λ p. tree_code bits p b) (size a) (size b) (λ p. length-tree bits p a) (λ p. length-tree bits p b)
length-tree bits at (t.Applied g a) = omega (arith, length-append (tree_code bits at a) (Unary (Apply g) ∷ []), length-tree bits at a)
length-tree bits at (t.Power a n) = omega (arith, length-append (tree_code bits at a) (raised_code bits n), length-tree bits at a, length-raised bits n)
length-tree bits at (t.Select x a b) =
    let cx = tree_code bits at x in
    let first = at + length cx + 1 in
    let ca = tree_code bits first a in
    let second = first + length ca + 1 in
    let cb = tree_code bits second b in
    omega (arith, length-append cx (JumpIfZero second ∷ (ca ++ (Jump (second + length cb) ∷ cb))), length-append ca (Jump (second + length cb) ∷ cb), length-tree bits at x, length-tree bits first a, length-tree bits second b)
length-tree bits at _ = refl

length-kept : (swap : Bool) (bits at j : ℕ) (d : Tree) → length (kept_code swap bits at j d) ≡ kept_size swap d
length-kept true bits at j d = omega (arith, length-append (tree_code bits at d) (Keep (local_of j) ∷ []), length-tree bits at d)
length-kept false bits at j d = refl

-- the length of the code of the marked definitions is their `definitions_size`
pub length-definitions : (bits j : ℕ) (ms : List Bool) (ds : List Tree) → length (definitions_code bits j ms ds) ≡ definitions_size j ms ds
length-definitions bits j ms [] = refl
length-definitions bits j ms (d ∷ ds) =
    let later = definitions_code bits (j + 1) ms ds in
    let kept = is_marked ms j in
    omega (arith, length-append later (kept_code kept bits (length later) j d), length-definitions bits (j + 1) ms ds, length-kept kept bits (length later) j d)

-- the length of a program's code is the size of its marked definitions plus the size of its body
pub length-program : (bits : ℕ) (body : Tree) (ds : List Tree) → length (program_code bits body ds) ≡ definitions_size 0 (marks_of body ds) ds + size body
unfolding program_code
length-program bits body ds =
    let first = definitions_code bits 0 (marks_of body ds) ds in
    omega (arith, length-append first (tree_code bits (length first) body), length-definitions bits 0 (marks_of body ds) ds, length-tree bits (length first) body)
