-- Jumps are written after the instructions that they pass.
use Rattle.std.proofs.Common.{◌≡◌, ℕ, ◌+◌, List, [], ◌∷◌, ◌++◌, length, sym, ap, ◌∙◌, arith, append_assoc, length-append, slice_set}
use Rattle.std.proofs.Math.Seq.{set-append_seam}
use Rattle.kernel_code.specs.declared.instructions.Instr.{Instr}
use Rattle.kernel_code.specs.declared.instructions.Instr.TheVariants.{JumpIfZero, Jump}
use Rattle.energy_program.specs.Tree.{Tree}
use Rattle.energy_program.specs.Tree as t
use Rattle.kernel_compiler.specs.Code.{tree_code}

two_writes : (c a b : List Instr) (x y i j : Instr) → slice_set (slice_set (c ++ x ∷ (a ++ y ∷ b)) (length c) i) (length (c ++ i ∷ a)) j ≡ c ++ i ∷ (a ++ j ∷ b)
two_writes c a b x y i j =
    ap (λ l. slice_set l (length (c ++ i ∷ a)) j) (set-append_seam c x (a ++ y ∷ b) i ∙ sym (append_assoc c (i ∷ a) (y ∷ b)))
    ∙ set-append_seam (c ++ i ∷ a) y b j
    ∙ append_assoc c (i ∷ a) (j ∷ b)

-- writing the two jumps of a choice over their placeholders completes the code of the choice
pub patch_choice : (bits : ℕ) (k a b : Tree) (base c1 c2 c3 c4 c5 : List Instr) (x y : Instr) (n1 n2 s e : ℕ) → c1 ≡ base ++ tree_code bits (length base) k → n1 ≡ length c1 → c2 ≡ c1 ++ x ∷ [] → c3 ≡ c2 ++ tree_code bits (length c2) a → n2 ≡ length c3 → c4 ≡ c3 ++ y ∷ [] → s ≡ length c4 → c5 ≡ c4 ++ tree_code bits (length c4) b → e ≡ length c5 → slice_set (slice_set c5 n1 (JumpIfZero s)) n2 (Jump e) ≡ base ++ tree_code bits (length base) (t.Select k a b)
patch_choice bits k a b base c1 c2 c3 c4 c5 x y n1 n2 s e e1 m1 e2 e3 m2 e4 m3 e5 m4 =
    let ck = tree_code bits (length base) k in
    let first = length base + length ck + 1 in
    let ca = tree_code bits first a in
    let second = first + length ca + 1 in
    let cb = tree_code bits second b in
    let l1 = ap length e1 ∙ length-append base ck in
    let l2 = ap length e2 ∙ length-append c1 (x ∷ []) in
    let e3' : c3 ≡ c2 ++ ca = e3 ∙ ap (λ p. c2 ++ tree_code bits p a) (omega arith) in
    let l3 = ap length e3' ∙ length-append c2 ca in
    let l4 = ap length e4 ∙ length-append c3 (y ∷ []) in
    let e5' : c5 ≡ c4 ++ cb = e5 ∙ ap (λ p. c4 ++ tree_code bits p b) (omega arith) in
    let l5 = ap length e5' ∙ length-append c4 cb in
    let i = JumpIfZero s in
    let j = Jump e in
    let at : n2 ≡ length (c1 ++ i ∷ ca) = omega (arith, length-append c1 (i ∷ ca)) in
    let all : c5 ≡ (((c1 ++ x ∷ []) ++ ca) ++ y ∷ []) ++ cb = cc in
    let flat : (((c1 ++ x ∷ []) ++ ca) ++ y ∷ []) ++ cb ≡ c1 ++ x ∷ (ca ++ y ∷ cb) = simp append_assoc in
    ap (λ l. slice_set (slice_set l n1 i) n2 j) (all ∙ flat)
    ∙ ap (λ n. slice_set (slice_set (c1 ++ x ∷ (ca ++ y ∷ cb)) n i) n2 j) m1
    ∙ ap (λ n. slice_set (slice_set (c1 ++ x ∷ (ca ++ y ∷ cb)) (length c1) i) n j) at
    ∙ two_writes c1 ca cb x y i j
    ∙ ap (λ l. l ++ i ∷ (ca ++ j ∷ cb)) e1
    ∙ append_assoc base ck (i ∷ (ca ++ j ∷ cb))
    ∙ ap (λ n. base ++ (ck ++ JumpIfZero n ∷ (ca ++ j ∷ cb))) (omega arith)
    ∙ ap (λ n. base ++ (ck ++ JumpIfZero second ∷ (ca ++ Jump n ∷ cb))) (omega arith)
