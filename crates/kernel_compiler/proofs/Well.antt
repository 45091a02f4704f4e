-- No path of a tree's code misses anything.
use Rattle.std.proofs.Common.{◌≡◌, ℕ, zero, suc, ◌+◌, ◌-◌, ◌/◌, ◌%◌, ◌==◌, ◌≤◌, min, List, [], ◌∷◌, ◌++◌, length, refl, sym, ◌∙◌, ⊎_elim, arith, length-append, ℤ, pos, negsuc, Bool, true, false, get_or-set_other, get_or-set_same, slice_set, slice_index_or, length-set}
use Rattle.fixed.specs.Arithmetic.{one}
use Rattle.fixed.specs.declared.operations.Operator.{Operator}
use Rattle.fixed.specs.declared.operations.Operator.TheVariants.{Multiply, Divide}
use Rattle.fixed.specs.declared.operations.UnaryOperator.TheVariants.{Square, Negate, Apply}
use Rattle.kernel_code.specs.declared.instructions.Instr.{Instr}
use Rattle.kernel_code.specs.declared.instructions.Instr.TheVariants.{Input, Get, Binary, Unary, JumpIfZero, Jump}
use Rattle.kernel_code.proofs.EveryPath.{Well, well_on, well_at, get_well, push_well, keep_well, unary_well, binary_well}
use Rattle.energy_program.specs.Tree.{Tree}
use Rattle.energy_program.specs.Tree as t
use Rattle.kernel_compiler.specs.Code.{base, spare, local_of, power_code_within, power_code, raised_code, raised_need, is_second_first, pair_need, stack_depth, exchange_code, pair_code, tree_code}
use Rattle.kernel_compiler.proofs.CodeParts.{HasAt, has_front, has_back}
use Rattle.kernel_compiler.proofs.KeptLocals.{Kept, kept_scratch}
use Rattle.kernel_compiler.proofs.Runs.{IsFine, after_half, need_least}

-- each definition from j on that is marked is kept
abbrev pub Keeps : List Bool → ℕ → List Bool → Type 0
Keeps ms j set = Kept Bool false (λ k b. b ≡ true) ms j set

module _ (code : List Instr) (inputs : ℕ) where
  -- ---- powers

  power_step : (is_one is_even : Bool) (half : List Instr) (pc height : ℕ) (set : List Bool) → HasAt code pc (after_half is_one is_even half) → height + 2 ≤ 64 → slice_index_or set base false ≡ true
      → (HasAt code pc half → Well code inputs (pc + length half) (height + 1) set → Well code inputs pc height set)
      → Well code inputs (pc + length (after_half is_one is_even half)) (height + 1) set → Well code inputs pc height set
  power_step true even half pc height set has h e g w = get_well code inputs base pc height set has.0 (omega arith) e w
  power_step false true half pc height set has h e g w =
      let tail = Unary Square ∷ [] in
      let len : pc + length (half ++ tail) ≡ pc + length half + 1 = omega (arith, length-append half tail) in
      g (has_front code pc half tail has) (unary_well code inputs Square (pc + length half) height set (has_back code pc half tail has).0 (well_at code inputs _ _ (height + 1) (height + 1) set len refl w))
  power_step false false half pc height set has h e g w =
      let tail = Unary Square ∷ Get base ∷ Binary Multiply ∷ [] in
      let hb = has_back code pc half tail has in
      let len : pc + length (half ++ tail) ≡ pc + length half + 1 + 1 + 1 = omega (arith, length-append half tail) in
      let w3 = binary_well code inputs Multiply (pc + length half + 1 + 1) height set hb.1.1.0 (well_at code inputs _ _ (height + 1) (height + 1) set len refl w) in
      let w2 = get_well code inputs base (pc + length half + 1) (height + 1) set hb.1.0 (omega arith) e w3 in
      g (has_front code pc half tail has) (unary_well code inputs Square (pc + length half) height set hb.0 w2)

  power_well : (halvings n pc height : ℕ) (set : List Bool) → HasAt code pc (power_code_within halvings n) → height + 2 ≤ 64 → slice_index_or set base false ≡ true → Well code inputs (pc + length (power_code_within halvings n)) (height + 1) set → Well code inputs pc height set
  unfolding power_code_within
  power_well zero n pc height set has h e w = get_well code inputs base pc height set has.0 (omega arith) e w
  power_well (suc halvings) n pc height set has h e w =
      power_step (n == 1) (n % 2 == 0) (power_code_within halvings (n / 2)) pc height set has h e
      (λ has' w'. power_well halvings (n / 2) pc height set has' h e w') w

  raised_well : (bits : ℕ) (n : ℤ) (pc height : ℕ) (set : List Bool) → HasAt code pc (raised_code bits n) → height + raised_need n ≤ 64 → slice_index_or (slice_set set base true) base false ≡ true → Well code inputs (pc + length (raised_code bits n)) (height + 1) (slice_set set base true) → Well code inputs pc (height + 1) set
  raised_well bits (pos n) pc height set has h e w =
      let set' = slice_set set base true in
      keep_well code inputs base pc height set has.0 (power_well n n (pc + 1) height set' has.1 h e (well_at code inputs _ _ (height + 1) (height + 1) set' (omega arith) refl w))
  raised_well bits (negsuc n) pc height set has h e w =
      let set' = slice_set set base true in
      let front = power_code (suc n) in
      let tail = Binary Divide ∷ [] in
      let len : pc + length (raised_code bits (negsuc n)) ≡ pc + 1 + 1 + length front + 1 = omega (arith, length-append front tail) in
      let hb = has_back code (pc + 1 + 1) front tail has.1.1 in
      let w3 = binary_well code inputs Divide (pc + 1 + 1 + length front) height set' hb.0 (well_at code inputs _ _ (height + 1) (height + 1) set' len refl w) in
      let w2 = power_well (suc n) (suc n) (pc + 1 + 1) (height + 1) set' (has_front code (pc + 1 + 1) front tail has.1.1) (omega arith) e w3 in
      keep_well code inputs base pc height set has.0 (push_well code inputs (one bits) (pc + 1) height set' has.1.0 (omega arith) w2)

  module _ (ms : List Bool) (j : ℕ) where
    -- two values in the other order, and an operation
    swap_well : (o : Operator) (pc height : ℕ) (set : List Bool) → HasAt code pc (exchange_code ++ (Binary o ∷ [])) → height + 2 ≤ 64 → Keeps ms j set → ((set' : List Bool) → Keeps ms j set' → Well code inputs (pc + 5) (height + 1) set') → Well code inputs pc (height + 1 + 1) set
    swap_well o pc height set has h held next =
        let s1 = slice_set set spare true in
        let s2 = slice_set s1 base true in
        let held2 = kept_scratch Bool false _ ms j base s1 true (omega arith) (kept_scratch Bool false _ ms j spare set true (omega arith) held) in
        let size = held.size in
        let size1 : length s1 ≡ 256 = simp length-set size in
        let e1 = get_or-set_other s1 base spare true false (omega arith) ∙ get_or-set_same set spare true false (omega arith) in
        let e2 = get_or-set_same s1 base true false (omega arith) in
        let w5 : Well code inputs (pc + 1 + 1 + 1 + 1) (height + 1 + 1) s2 = binary_well code inputs o (pc + 1 + 1 + 1 + 1) height s2 has.1.1.1.1.0 (well_at code inputs _ _ (height + 1) (height + 1) s2 (omega arith) refl (next s2 held2)) in
        let w4 : Well code inputs (pc + 1 + 1 + 1) (height + 1) s2 = get_well code inputs base (pc + 1 + 1 + 1) (height + 1) s2 has.1.1.1.0 (omega arith) e2 w5 in
        let w3 : Well code inputs (pc + 1 + 1) height s2 = get_well code inputs spare (pc + 1 + 1) height s2 has.1.1.0 (omega arith) e1 w4 in
        let w2 : Well code inputs (pc + 1) (height + 1) s1 = keep_well code inputs base (pc + 1) height s1 has.1.0 w3 in
        keep_well code inputs spare pc (height + 1) set has.0 w2

    pair_well : (swap : Bool) (o : Operator) (fa fb : ℕ → List Instr) (na nb : ℕ) (pc height : ℕ) (set : List Bool) → 1 ≤ na → HasAt code pc (pair_code swap o pc fa fb) → height + min 65 (pair_need swap na nb) ≤ 64
        → ((p q : ℕ) (k : List Bool) → HasAt code p (fa p) → q + na ≤ 64 → Keeps ms j k → ((k' : List Bool) → Keeps ms j k' → Well code inputs (p + length (fa p)) (q + 1) k') → Well code inputs p q k)
        → ((p q : ℕ) (k : List Bool) → HasAt code p (fb p) → q + nb ≤ 64 → Keeps ms j k → ((k' : List Bool) → Keeps ms j k' → Well code inputs (p + length (fb p)) (q + 1) k') → Well code inputs p q k)
        → Keeps ms j set → ((k' : List Bool) → Keeps ms j k' → Well code inputs (pc + length (pair_code swap o pc fa fb)) (height + 1) k') → Well code inputs pc height set
    pair_well false o fa fb na nb pc height set least has h wa wb held next =
        let ca = fa pc in
        let cb = fb (pc + length ca) in
        let hb = has_back code pc ca (cb ++ (Binary o ∷ [])) has in
        let at = (has_back code (pc + length ca) cb (Binary o ∷ []) hb).0 in
        let len : pc + length (ca ++ (cb ++ (Binary o ∷ []))) ≡ pc + length ca + length cb + 1 = omega (arith, length-append ca (cb ++ (Binary o ∷ [])), length-append cb (Binary o ∷ [])) in
        wa pc height set (has_front code pc ca _ has) (omega arith) held (λ k1 held1.
        wb (pc + length ca) (height + 1) k1 (has_front code _ cb _ hb) (omega arith) held1 (λ k2 held2.
        binary_well code inputs o (pc + length ca + length cb) height k2 at (well_at code inputs _ _ (height + 1) (height + 1) k2 len refl (next k2 held2))))
    pair_well true o fa fb na nb pc height set least has h wa wb held next =
        let tail = exchange_code ++ (Binary o ∷ []) in
        let cb = fb pc in
        let ca = fa (pc + length cb) in
        let ha = has_back code pc cb (ca ++ tail) has in
        let at = has_back code (pc + length cb) ca tail ha in
        let len : pc + length (cb ++ (ca ++ tail)) ≡ pc + length cb + length ca + 5 = omega (arith, length-append cb (ca ++ tail), length-append ca tail) in
        wb pc height set (has_front code pc cb _ has) (omega arith) held (λ k1 held1.
        wa (pc + length cb) (height + 1) k1 (has_front code _ ca _ ha) (omega arith) held1 (λ k2 held2.
        swap_well o (pc + length cb + length ca) height k2 at (omega arith) held2 (λ k3 held3. well_at code inputs _ _ (height + 1) (height + 1) k3 len refl (next k3 held3))))

    -- ---- trees

    -- if each path after a tree's code, with one more value on the stack, is well-formed, each path from the code's
    -- beginning is well-formed
    pub tree_well : (bits : ℕ) (e : Tree) (pc height : ℕ) (set : List Bool) → HasAt code pc (tree_code bits pc e) → IsFine inputs ms j e → height + stack_depth e ≤ 64 → Keeps ms j set → ((set' : List Bool) → Keeps ms j set' → Well code inputs (pc + length (tree_code bits pc e)) (height + 1) set') → Well code inputs pc height set
    tree_well bits (t.Number c) pc height set has fine h held next = push_well code inputs c.value pc height set has.0 h (next set held)
    tree_well bits (t.Input k) pc height set has fine h held next =
        well_on code inputs (Input k) pc height set has.0 fine (omega arith) (λ to may. well_at code inputs (pc + 1) to _ _ set (sym may) refl (next set held))
    tree_well bits (t.Definition k) pc height set has fine h held next = get_well code inputs (local_of k) pc height set has.0 h (held.each k fine.0 fine.1) (next set held)
    tree_well bits (t.Negated a) pc height set has fine h held next =
        let ca = tree_code bits pc a in
        let tail = Unary Negate ∷ [] in
        let len : pc + length (ca ++ tail) ≡ pc + length ca + 1 = omega (arith, length-append ca tail) in
        tree_well bits a pc height set (has_front code pc ca tail has) fine h held (λ k1 held1.
        unary_well code inputs Negate (pc + length ca) height k1 (has_back code pc ca tail has).0 (well_at code inputs _ _ (height + 1) (height + 1) k1 len refl (next k1 held1)))
    tree_well bits (t.Binary o a b) pc height set has fine h held next =
        pair_well (is_second_first (stack_depth a) (stack_depth b)) o (λ p. tree_code bits p a) (λ p. tree_code bits p b) (stack_depth a) (stack_depth b) pc height set (need_least a) has h
        (λ p q k has' h' held' next'. tree_well bits a p q k has' fine.0 h' held' next')
        (λ p q k has' h' held' next'. tree_well bits b p q k has' fine.1 h' held' next')
        held next
    tree_well bits (t.Applied g a) pc height set has fine h held next =
        let ca = tree_code bits pc a in
        let tail = Unary (Apply g) ∷ [] in
        let len : pc + length (ca ++ tail) ≡ pc + length ca + 1 = omega (arith, length-append ca tail) in
        tree_well bits a pc height set (has_front code pc ca tail has) fine h held (λ k1 held1.
        unary_well code inputs (Apply g) (pc + length ca) height k1 (has_back code pc ca tail has).0 (well_at code inputs _ _ (height + 1) (height + 1) k1 len refl (next k1 held1)))
    tree_well bits (t.Power a n) pc height set has fine h held next =
        let ca = tree_code bits pc a in
        let tail = raised_code bits n in
        let len : pc + length (ca ++ tail) ≡ pc + length ca + length tail = omega (arith, length-append ca tail) in
        tree_well bits a pc height set (has_front code pc ca tail has) fine (omega arith) held (λ k1 held1.
        let size = held1.size in
        let k2 = slice_set k1 base true in
        raised_well bits n (pc + length ca) height k1 (has_back code pc ca tail has) (omega arith) (get_or-set_same k1 base true false (omega arith))
        (well_at code inputs _ _ (height + 1) (height + 1) k2 len refl (next k2 (kept_scratch Bool false _ ms j base k1 true (omega arith) held1))))
    tree_well bits (t.Select x a b) pc height set has fine h held next =
        let cx = tree_code bits pc x in
        let first = pc + length cx + 1 in
        let ca = tree_code bits first a in
        let second = first + length ca + 1 in
        let cb = tree_code bits second b in
        let tail = ca ++ (Jump (second + length cb) ∷ cb) in
        let hk = has_back code pc cx (JumpIfZero second ∷ tail) has in
        let hb = has_back code first ca (Jump (second + length cb) ∷ cb) hk.1 in
        let len : pc + length (cx ++ (JumpIfZero second ∷ tail)) ≡ second + length cb = omega (arith, length-append cx (JumpIfZero second ∷ tail), length-append ca (Jump (second + length cb) ∷ cb)) in
        let q : height ≡ height + 1 - 1 = omega arith in
        let end : (k3 : List Bool) → Keeps ms j k3 → Well code inputs (second + length cb) (height + 1) k3 = λ k3 held3. well_at code inputs _ _ (height + 1) (height + 1) k3 len refl (next k3 held3) in
        tree_well bits x pc height set (has_front code pc cx _ has) fine.0 (omega arith) held (λ k1 held1.
        let wa : Well code inputs first height k1 = tree_well bits a first height k1 (has_front code first ca _ hk.1) fine.1 (omega arith) held1 (λ k2 held2.
        well_on code inputs (Jump (second + length cb)) (first + length ca) (height + 1) k2 hb.0 tt tt (λ to may. well_at code inputs _ to _ _ k2 (sym may) refl (end k2 held2))) in
        let wb : Well code inputs second height k1 = tree_well bits b second height k1 hb.1 fine.2 (omega arith) held1 end in
        well_on code inputs (JumpIfZero second) (pc + length cx) (height + 1) k1 hk.0 (omega arith) tt (λ to may.
        ⊎_elim (λ e. well_at code inputs first to height (height + 1 - 1) k1 (sym e) q wa) (λ e. well_at code inputs second to height (height + 1 - 1) k1 (sym e) q wb) may))
