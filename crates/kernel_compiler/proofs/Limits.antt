-- When the code of a program is within the limits.
use Rattle.std.proofs.Common.{◌≡◌, ℕ, zero, suc, ◌+◌, ◌/◌, ◌%◌, ◌==◌, ◌<◌, ◌≤◌, List, [], ◌∷◌, ◌++◌, length, Some, refl, sym, ◌∙◌, subst, arith, length-append, ℤ, pos, negsuc, Bool, true, false, if◌then◌else◌, nat_lt, slice_get, nat_le, ◌&&◌, ap, leb-true}
use Rattle.std.proofs.lemmas.Bool.Decides.{nat_tests}
use Rattle.fixed.specs.declared.operations.Operator.{Operator}
use Rattle.fixed.specs.declared.operations.Operator.TheVariants.{Multiply, Divide}
use Rattle.fixed.specs.declared.operations.UnaryOperator.TheVariants.{Square, Negate, Apply}
use Rattle.kernel_code.specs.declared.instructions.Instr.{Instr}
use Rattle.kernel_code.specs.declared.instructions.Instr.TheVariants.{Get, Keep, Binary, Unary, JumpIfZero, Jump}
use Rattle.kernel_code.specs.Code.{goes_forward, IsCode}
use Rattle.energy_program.specs.Tree.{Tree}
use Rattle.energy_program.specs.Tree as t
use Rattle.energy_program.specs.Uses.{is_marked, marks_of}
use Rattle.kernel_compiler.specs.Code.{base, local_of, power_code_within, power_code, raised_code, is_second_first, stack_depth, exchange_code, pair_code, tree_code, kept_code, definitions_code, program_code, is_within_limits}
use Rattle.kernel_compiler.specs.Sizes.{size, definitions_size}
use Rattle.kernel_compiler.proofs.SizeLaws.{length-program}

-- ---- each instruction leads forward only

-- the instructions, from this index on, in a code of this length
abbrev AllGood : ℕ → ℕ → List Instr → Type 0
AllGood len pc [] = Unit {0}
AllGood len pc (i ∷ is) = (goes_forward len pc i ≡ true) × AllGood len (pc + 1) is

join : (len pc : ℕ) (a b : List Instr) → AllGood len pc a → AllGood len (pc + length a) b → AllGood len pc (a ++ b)
join len pc [] b h g = let e : pc + 0 ≡ pc = omega arith in subst (λ p. AllGood len p b) e g
join len pc (i ∷ a) b h g =
    (h.0, join len (pc + 1) a b h.1 (subst (λ p. AllGood len p b) (omega arith) g))

jumps : (len pc to : ℕ) → pc < to → to ≤ len → (nat_lt pc to && nat_le to len) ≡ true
jumps len pc to h g =
    let a : nat_lt pc to ≡ true = grind (arith, nat_tests) in
    let b : nat_le to len ≡ true = grind (arith, nat_tests) in
    rw (a, b) refl

half_good : (len pc : ℕ) (is_one is_even : Bool) (half : List Instr) → AllGood len pc half
    → AllGood len pc (if is_one then Get base ∷ [] else if is_even then half ++ (Unary Square ∷ []) else half ++ (Unary Square ∷ Get base ∷ Binary Multiply ∷ []))
half_good len pc true even half h = (refl, tt)
half_good len pc false true half h = join len pc half (Unary Square ∷ []) h (refl, tt)
half_good len pc false false half h = join len pc half (Unary Square ∷ Get base ∷ Binary Multiply ∷ []) h (refl, (refl, (refl, tt)))

power_good : (len pc halvings n : ℕ) → AllGood len pc (power_code_within halvings n)
unfolding power_code_within
power_good len pc zero n = (refl, tt)
power_good len pc (suc halvings) n = half_good len pc (n == 1) (n % 2 == 0) (power_code_within halvings (n / 2)) (power_good len pc halvings (n / 2))

raised_good : (len pc bits : ℕ) (n : ℤ) → AllGood len pc (raised_code bits n)
raised_good len pc bits (pos n) = (refl, power_good len (pc + 1) n n)
raised_good len pc bits (negsuc n) = (refl, (refl, join len (pc + 1 + 1) (power_code (suc n)) (Binary Divide ∷ []) (power_good len (pc + 1 + 1) (suc n) (suc n)) (refl, tt)))

pair_good : (swap : Bool) (o : Operator) (len at : ℕ) (fa fb : ℕ → List Instr) → at + length (pair_code swap o at fa fb) ≤ len → ((p : ℕ) → p + length (fa p) ≤ len → AllGood len p (fa p)) → ((p : ℕ) → p + length (fb p) ≤ len → AllGood len p (fb p)) → AllGood len at (pair_code swap o at fa fb)
pair_good false o len at fa fb h ha hb =
    let ca = fa at in
    let cb = fb (at + length ca) in
    let l1 = length-append ca (cb ++ (Binary o ∷ [])) in
    let l2 = length-append cb (Binary o ∷ []) in
    join len at ca _ (ha at (omega arith)) (join len _ cb (Binary o ∷ []) (hb (at + length ca) (omega arith)) (refl, tt))
pair_good true o len at fa fb h ha hb =
    let tail = exchange_code ++ (Binary o ∷ []) in
    let cb = fb at in
    let ca = fa (at + length cb) in
    let l1 = length-append cb (ca ++ tail) in
    let l2 = length-append ca tail in
    join len at cb _ (hb at (omega arith)) (join len _ ca tail (ha (at + length cb) (omega arith)) (refl, (refl, (refl, (refl, (refl, tt))))))

tree_good : (len bits at : ℕ) (e : Tree) → at + length (tree_code bits at e) ≤ len → AllGood len at (tree_code bits at e)
tree_good len bits at (t.Negated a) h =
    let l1 = length-append (tree_code bits at a) (Unary Negate ∷ []) in
    join len at (tree_code bits at a) (Unary Negate ∷ []) (tree_good len bits at a (omega arith)) (refl, tt)
tree_good len bits at (t.Binary o a b) h = pair_good (is_second_first (stack_depth a) (stack_depth b)) o len at (λ p. tree_code bits p a) (λ p. tree_code bits p b) h (λ p g. tree_good len bits p a g) (λ p g. tree_good len bits p b g)
tree_good len bits at (t.Applied f a) h =
    let l1 = length-append (tree_code bits at a) (Unary (Apply f) ∷ []) in
    join len at (tree_code bits at a) (Unary (Apply f) ∷ []) (tree_good len bits at a (omega arith)) (refl, tt)
tree_good len bits at (t.Power a n) h =
    let l1 = length-append (tree_code bits at a) (raised_code bits n) in
    join len at (tree_code bits at a) (raised_code bits n) (tree_good len bits at a (omega arith)) (raised_good len _ bits n)
tree_good len bits at (t.Select x a b) h =
    let cx = tree_code bits at x in
    let first = at + length cx + 1 in
    let ca = tree_code bits first a in
    let second = first + length ca + 1 in
    let cb = tree_code bits second b in
    let l1 = length-append cx (JumpIfZero second ∷ (ca ++ (Jump (second + length cb) ∷ cb))) in
    let l2 = length-append ca (Jump (second + length cb) ∷ cb) in
    join len at cx _ (tree_good len bits at x (omega arith)) (
      jumps len _ second (omega arith) (omega arith),
      join len first ca _ (tree_good len bits first a (omega arith)) (jumps len _ _ (omega arith) (omega arith), tree_good len bits second b (omega arith)),
    )
tree_good len bits at _ h = (refl, tt)

kept_good : (kept : Bool) (len bits at j : ℕ) (d : Tree) → at + length (kept_code kept bits at j d) ≤ len → AllGood len at (kept_code kept bits at j d)
kept_good true len bits at j d h =
    let l1 = length-append (tree_code bits at d) (Keep (local_of j) ∷ []) in
    join len at (tree_code bits at d) (Keep (local_of j) ∷ []) (tree_good len bits at d (omega arith)) (refl, tt)
kept_good false len bits at j d h = tt

definitions_good : (len bits j : ℕ) (ms : List Bool) (ds : List Tree) → length (definitions_code bits j ms ds) ≤ len → AllGood len 0 (definitions_code bits j ms ds)
definitions_good len bits j ms [] h = tt
definitions_good len bits j ms (d ∷ ds) h =
    let later = definitions_code bits (j + 1) ms ds in
    let kept = is_marked ms j in
    let l1 = length-append later (kept_code kept bits (length later) j d) in
    join len 0 later _ (definitions_good len bits (j + 1) ms ds (omega arith))
    (subst (λ p. AllGood len p (kept_code kept bits (length later) j d)) (omega arith) (kept_good kept len bits (length later) j d (omega arith)))

program_good : (bits : ℕ) (body : Tree) (ds : List Tree) → AllGood (length (program_code bits body ds)) 0 (program_code bits body ds)
unfolding program_code
program_good bits body ds =
    let first = definitions_code bits 0 (marks_of body ds) ds in
    let last = tree_code bits (length first) body in
    let l1 = length-append first last in
    join (length (first ++ last)) 0 first last (definitions_good _ bits 0 (marks_of body ds) ds (omega arith))
    (subst (λ p. AllGood (length (first ++ last)) p last) (omega arith) (tree_good (length (first ++ last)) bits (length first) body (omega arith)))

by_index : (len pc : ℕ) (is : List Instr) → AllGood len pc is → (k : ℕ) (i : Instr) → slice_get is k ≡ Some i → goes_forward len (pc + k) i ≡ true
by_index len pc [] h k i e = absurd (cc)
by_index len pc (x ∷ is) h zero i e =
    let same : x ≡ i = cc in
    subst (λ q. goes_forward len q i ≡ true) (omega arith) (subst (λ (y : Instr). goes_forward len pc y ≡ true) same h.0)
by_index len pc (x ∷ is) h (suc k) i e =
    subst (λ q. goes_forward len q i ≡ true) (omega arith) (by_index len (pc + 1) is h.1 k i e)

-- a program's code within the limit is code
pub program_is_code : (bits : ℕ) (body : Tree) (ds : List Tree) → definitions_size 0 (marks_of body ds) ds + size body ≤ 16384 → IsCode (program_code bits body ds)
program_is_code bits body ds short = record {
  short = omega (arith, length-program bits body ds);
  forward = λ pc i here.
      subst (λ q. goes_forward (length (program_code bits body ds)) q i ≡ true) (omega arith)
      (by_index (length (program_code bits body ds)) 0 (program_code bits body ds) (program_good bits body ds) pc i here);
}

-- a program's code is within the limit exactly if the sizes of its parts are
pub limit_of_sizes : (bits : ℕ) (body : Tree) (ds : List Tree)
    → is_within_limits (program_code bits body ds) ≡ nat_le (definitions_size 0 (marks_of body ds) ds + size body) 16384
unfolding is_within_limits
limit_of_sizes bits body ds = ap (λ n. nat_le n 16384) (length-program bits body ds)

-- the sizes of the parts of a program whose code is within the limit
pub within_has : (bits : ℕ) (body : Tree) (ds : List Tree) → is_within_limits (program_code bits body ds) ≡ true
    → definitions_size 0 (marks_of body ds) ds + size body ≤ 16384
within_has bits body ds h = leb-true _ _ (sym (limit_of_sizes bits body ds) ∙ h)
