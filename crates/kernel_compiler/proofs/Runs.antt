-- The machine computes a tree's value.
use Rattle.std.proofs.Common.{◌≡◌, ℕ, zero, suc, ◌+◌, ◌/◌, ◌%◌, ◌==◌, ◌<◌, ◌≤◌, min, List, [], ◌∷◌, ◌++◌, length, Option, Some, None, Result, Ok, Err, refl, sym, ap, ◌∙◌, subst, arith, length-append, ℤ, pos, negsuc, Bool, true, false, nat_lt, if◌then◌else◌, get_or-set_other, get_or-set_same, slice_get, slice_set, slice_index_or, length-set}
use Rattle.std.proofs.lemmas.Bool.Decides.{nat_tests}
use Rattle.std.proofs.lemmas.Option.{slice_get-get_or}
use Rattle.fixed.specs.declared.faults.Fault.{Fault}
use Rattle.fixed.specs.Arithmetic.{one, then_apply, square_of, product_of, quotient_of, power_within, power_of, signed_power_of}
use Rattle.fixed.specs.declared.operations.Operator.{Operator}
use Rattle.fixed.specs.declared.operations.Operator.TheVariants.{Multiply, Divide}
use Rattle.fixed.specs.declared.operations.UnaryOperator.{UnaryOperator}
use Rattle.fixed.specs.declared.operations.UnaryOperator.TheVariants.{Square, Negate, Apply}
use Rattle.kernel_code.specs.declared.instructions.Instr.{Instr}
use Rattle.kernel_code.specs.declared.instructions.Instr.TheVariants.{Push, Input, Keep, Get, Binary, Unary, JumpIfZero, Jump}
use Rattle.kernel_code.specs.declared.traps.TrapKind.TheVariants.{Operation, MissingLocal, MissingInput}
use Rattle.fixed.specs.Operations.{operator_value, unary_value}
use Rattle.kernel_code.specs.Machine.{act, pushed, pushed_if, given, after, Ends}
use Rattle.energy_program.specs.Tree.{Tree, put}
use Rattle.energy_program.specs.Tree as t
use Rattle.energy_program.specs.Value.{number_of, on_one, on_two, power, selected, value_of}
use Rattle.energy_program.specs.Uses.{is_marked}
use Rattle.kernel_compiler.specs.Code.{base, spare, local_of, power_code_within, power_code, raised_code, raised_need, is_second_first, pair_need, stack_depth, exchange_code, pair_code, tree_code}
use Rattle.kernel_compiler.proofs.CodeParts.{HasAt, has_front, has_back}
use Rattle.kernel_compiler.proofs.KeptLocals.{Kept, kept_scratch}
use Rattle.kernel_code.proofs.Runs.{after_more, ends_trapped}

-- each variable is an input, and each definition that is used is marked, from j on
abbrev pub IsFine : (inputs : ℕ) → List Bool → ℕ → Tree → Type 0
IsFine inputs ms j (t.Number c) = Unit {0}
IsFine inputs ms j (t.Input k) = k < inputs
IsFine inputs ms j (t.Definition k) = (j ≤ k) × (is_marked ms k ≡ true)
IsFine inputs ms j (t.Negated a) = IsFine inputs ms j a
IsFine inputs ms j (t.Binary o a b) = IsFine inputs ms j a × IsFine inputs ms j b
IsFine inputs ms j (t.Applied g a) = IsFine inputs ms j a
IsFine inputs ms j (t.Power a n) = IsFine inputs ms j a
IsFine inputs ms j (t.Select x a b) = IsFine inputs ms j x × IsFine inputs ms j a × IsFine inputs ms j b

-- the code of any tree needs room for one value at least
pub need_least : (e : Tree) → 1 ≤ stack_depth e
need_least (t.Negated a) = need_least a
need_least (t.Binary o a b) = pair (is_second_first (stack_depth a) (stack_depth b))
  where
    pair : (swap : Bool) → 1 ≤ min 65 (pair_need swap (stack_depth a) (stack_depth b))
    pair true = omega arith
    pair false = omega arith
need_least (t.Applied g a) = need_least a
need_least (t.Power a n) = let h = need_least a in omega arith
need_least (t.Select x a b) = let h = need_least x in omega arith
need_least _ = omega arith

-- ---- operations on values that may be missing

on_two_none : (g : ℤ → ℤ → Result ℤ Fault) (o : Option ℤ) → on_two g o None ≡ None
on_two_none g None = refl
on_two_none g (Some x) = refl

selected_more : (n : ℕ) (a b : Option ℤ) → selected (Some (pos (suc n))) a b ≡ a
selected_more n a b = let test : (suc n == 0) ≡ false = grind arith in rw test refl

-- the code of a power, given the code of half its exponent
abbrev pub after_half : Bool → Bool → List Instr → List Instr
after_half is_one is_even half = if is_one then Get base ∷ [] else if is_even then half ++ (Unary Square ∷ []) else half ++ (Unary Square ∷ Get base ∷ Binary Multiply ∷ [])

module _ (bits : ℕ) (code : List Instr) (xs : List ℤ) where
  -- the run comes to this state
  pub record Comes (pc : ℕ) (stack : List ℤ) (ls : List (Option ℤ)) : Type 0 where
    pub turns : ℕ
    pub there : after bits code xs turns ≡ Some (record { pc = pc; stack = stack; locals = ls })

  -- the run ends by a fault of an operation
  pub record Faults : Type 0 where
    pub turns : ℕ
    pub index : ℕ
    pub fault : Fault
    pub ends : Ends bits code xs turns (Err (record { pc = index; kind = Operation fault }))

  -- a run that reaches an instruction continues as the instruction acts
  pub comes_on : (pc pc' : ℕ) (stack stack' : List ℤ) (ls ls' : List (Option ℤ)) (i : Instr) → slice_get code pc ≡ Some i → act bits i xs pc stack ls ≡ Ok (record { pc = pc'; stack = stack'; locals = ls' }) → Comes pc stack ls → Comes pc' stack' ls'
  comes_on pc pc' stack stack' ls ls' i here turn c =
      record { turns = suc c.turns; there = after_more bits code xs c.turns _ _ i c.there here turn }

  -- a run that reaches an index reaches any equal index
  pub comes_to : (pc pc' : ℕ) (stack : List ℤ) (ls : List (Option ℤ)) → pc ≡ pc' → Comes pc stack ls → Comes pc' stack ls
  comes_to pc pc' stack ls e c = subst (λ p. Comes p stack ls) e c

  faults_there : (pc : ℕ) (stack : List ℤ) (ls : List (Option ℤ)) (i : Instr) (fault : Fault) → slice_get code pc ≡ Some i → act bits i xs pc stack ls ≡ Err (Operation fault) → Comes pc stack ls → Faults
  faults_there pc stack ls i fault here turn c =
      record { turns = c.turns; index = pc; fault = fault; ends = ends_trapped bits code xs c.turns _ i _ c.there here turn }

  -- a push with room
  room : (v : ℤ) (pc : ℕ) (stack : List ℤ) (ls : List (Option ℤ)) → length stack + 1 ≤ 64 → pushed v pc stack ls ≡ Ok (record { pc = pc + 1; stack = v ∷ stack; locals = ls })
  room v pc stack ls h = let test : nat_lt (length stack) 64 ≡ true = grind (arith, nat_tests) in rw test refl

  -- a local that is set
  get_local : (k : ℕ) (x : ℤ) (pc : ℕ) (stack : List ℤ) (ls : List (Option ℤ)) → slice_get code pc ≡ Some (Get k) → length stack + 1 ≤ 64 → slice_index_or ls k None ≡ Some x → Comes pc stack ls → Comes (pc + 1) (x ∷ stack) ls
  get_local k x pc stack ls here h e c =
      comes_on pc (pc + 1) stack (x ∷ stack) ls ls (Get k) here (ap (λ o. pushed_if MissingLocal o pc stack ls) e ∙ room x pc stack ls h) c

  -- ---- code that leaves the locals unchanged: its value is on the stack, or the run faults if there is no value

  abbrev Same : List (Option ℤ) → ℕ → List ℤ → Option ℤ → Type 0
  Same ls pc stack None = Faults
  Same ls pc stack (Some v) = Comes pc (v ∷ stack) ls

  same_to : (ls : List (Option ℤ)) (pc pc' : ℕ) (stack : List ℤ) (o : Option ℤ) → pc ≡ pc' → Same ls pc stack o → Same ls pc' stack o
  same_to ls pc pc' stack o e g = subst (λ p. Same ls p stack o) e g

  given_same : (r : Result ℤ Fault) (i : Instr) (pc : ℕ) (stack rest : List ℤ) (ls : List (Option ℤ)) → slice_get code pc ≡ Some i → act bits i xs pc stack ls ≡ given r pc rest ls → Comes pc stack ls → Same ls (pc + 1) rest (number_of r)
  given_same (Ok v) i pc stack rest ls here turn c = comes_on pc (pc + 1) stack _ ls _ i here turn c
  given_same (Err fault) i pc stack rest ls here turn c = faults_there pc stack ls i fault here turn c

  -- the square of an operation's result
  square_same : (r : Result ℤ Fault) (pc : ℕ) (stack : List ℤ) (ls : List (Option ℤ)) → slice_get code pc ≡ Some (Unary Square) → Same ls pc stack (number_of r) → Same ls (pc + 1) stack (number_of (then_apply r (square_of bits)))
  square_same (Ok x) pc stack ls here g = given_same (square_of bits x) (Unary Square) pc (x ∷ stack) stack ls here refl g
  square_same (Err fault) pc stack ls here g = g

  product_same : (r : Result ℤ Fault) (x : ℤ) (pc : ℕ) (stack : List ℤ) (ls : List (Option ℤ)) → HasAt code pc (Get base ∷ Binary Multiply ∷ []) → length stack + 2 ≤ 64 → slice_index_or ls base None ≡ Some x → Same ls pc stack (number_of r) → Same ls (pc + 1 + 1) stack (number_of (then_apply r (λ y. product_of bits y x)))
  product_same (Err fault) x pc stack ls has h e g = g
  product_same (Ok y) x pc stack ls has h e g =
      let c = get_local base x pc (y ∷ stack) ls has.0 (omega arith) e g in
      given_same (product_of bits y x) (Binary Multiply) (pc + 1) (x ∷ y ∷ stack) stack ls has.1.0 refl c

  abbrev power_after : Bool → Bool → Result ℤ Fault → ℤ → Result ℤ Fault
  power_after is_one is_even half x = if is_one then Ok x else if is_even then then_apply half (square_of bits) else then_apply (then_apply half (square_of bits)) (λ y. product_of bits y x)

  power_step : (is_one is_even : Bool) (half : List Instr) (r : Result ℤ Fault) (x : ℤ) (pc : ℕ) (stack : List ℤ) (ls : List (Option ℤ)) → HasAt code pc (after_half is_one is_even half) → length stack + 2 ≤ 64 → slice_index_or ls base None ≡ Some x → Comes pc stack ls
      → (HasAt code pc half → Same ls (pc + length half) stack (number_of r))
      → Same ls (pc + length (after_half is_one is_even half)) stack (number_of (power_after is_one is_even r x))
  power_step true even half r x pc stack ls has h e c g = get_local base x pc stack ls has.0 (omega arith) e c
  power_step false true half r x pc stack ls has h e c g =
      let tail = Unary Square ∷ [] in
      same_to ls _ _ stack (number_of (then_apply r (square_of bits))) (omega (arith, length-append half tail))
      (square_same r (pc + length half) stack ls (has_back code pc half tail has).0 (g (has_front code pc half tail has)))
  power_step false false half r x pc stack ls has h e c g =
      let tail = Unary Square ∷ Get base ∷ Binary Multiply ∷ [] in
      let hb = has_back code pc half tail has in
      let r' = then_apply r (square_of bits) in
      let g' : Same ls (pc + length half + 1) stack (number_of r') = square_same r (pc + length half) stack ls hb.0 (g (has_front code pc half tail has)) in
      same_to ls _ _ stack (number_of (then_apply r' (λ y. product_of bits y x))) (omega (arith, length-append half tail)) (product_same r' x (pc + length half + 1) stack ls hb.1 h e g')

  -- a power of the base
  power_runs : (halvings n : ℕ) (x : ℤ) (pc : ℕ) (stack : List ℤ) (ls : List (Option ℤ)) → HasAt code pc (power_code_within halvings n) → length stack + 2 ≤ 64 → slice_index_or ls base None ≡ Some x → Comes pc stack ls → Same ls (pc + length (power_code_within halvings n)) stack (number_of (power_within halvings bits x n))
  unfolding power_code_within power_within
  power_runs zero n x pc stack ls has h e c = get_local base x pc stack ls has.0 (omega arith) e c
  power_runs (suc halvings) n x pc stack ls has h e c =
      let front = power_code_within halvings (n / 2) in
      power_step (n == 1) (n % 2 == 0) front (power_within halvings bits x (n / 2)) x pc stack ls has h e
      c (λ has'. power_runs halvings (n / 2) x pc stack ls has' h e c)

  -- one divided by an operation's result
  reciprocal_same : (r : Result ℤ Fault) (pc : ℕ) (stack : List ℤ) (ls : List (Option ℤ)) → slice_get code pc ≡ Some (Binary Divide) → Same ls pc (one bits ∷ stack) (number_of r) → Same ls (pc + 1) stack (number_of (then_apply r (quotient_of bits (one bits))))
  reciprocal_same (Ok x) pc stack ls here g = given_same (quotient_of bits (one bits) x) (Binary Divide) pc (x ∷ one bits ∷ stack) stack ls here refl g
  reciprocal_same (Err fault) pc stack ls here g = g

  module _ (mean : ℕ → Tree) (ms : List Bool) (j : ℕ) where
    -- each definition from j on that is marked has its value in its local
    abbrev pub Holds : List (Option ℤ) → Type 0
    Holds ls = Kept (Option ℤ) None (λ k o. (v : ℤ) × (value_of bits xs (mean k) ≡ Some v) × (o ≡ Some v)) ms j ls

    -- the run comes to the index with a value on the stack
    pub record Brings (pc : ℕ) (stack : List ℤ) (v : ℤ) : Type 0 where
      pub locals : List (Option ℤ)
      pub held : Holds locals
      pub comes : Comes pc (v ∷ stack) locals

    -- the run reaches the index with the value on the stack, or faults if there is no value
    abbrev pub Gives : ℕ → List ℤ → Option ℤ → Type 0
    Gives pc stack None = Faults
    Gives pc stack (Some v) = Brings pc stack v

    gives_to : (pc pc' : ℕ) (stack : List ℤ) (o : Option ℤ) → pc ≡ pc' → Gives pc stack o → Gives pc' stack o
    gives_to pc pc' stack o e g = subst (λ p. Gives p stack o) e g

    gives_value : (pc : ℕ) (stack : List ℤ) (o o' : Option ℤ) → o ≡ o' → Gives pc stack o → Gives pc stack o'
    gives_value pc stack o o' e g = subst (λ q. Gives pc stack q) e g

    -- an instruction that pushes
    push_gives : (i : Instr) (v : ℤ) (pc : ℕ) (stack : List ℤ) (ls : List (Option ℤ)) → slice_get code pc ≡ Some i → act bits i xs pc stack ls ≡ pushed v pc stack ls → length stack + 1 ≤ 64 → Holds ls → Comes pc stack ls → Gives (pc + 1) stack (Some v)
    push_gives i v pc stack ls here turn h held c =
        record { locals = ls; held = held; comes = comes_on pc (pc + 1) stack _ ls _ i here (turn ∙ room v pc stack ls h) c }

    -- an operation's end
    given_gives : (r : Result ℤ Fault) (i : Instr) (pc : ℕ) (stack rest : List ℤ) (ls : List (Option ℤ)) → slice_get code pc ≡ Some i → act bits i xs pc stack ls ≡ given r pc rest ls → Holds ls → Comes pc stack ls → Gives (pc + 1) rest (number_of r)
    given_gives (Ok v) i pc stack rest ls here turn held c = record { locals = ls; held = held; comes = comes_on pc (pc + 1) stack _ ls _ i here turn c }
    given_gives (Err fault) i pc stack rest ls here turn held c = faults_there pc stack ls i fault here turn c

    two_gives : (o : Operator) (a b : Option ℤ) (pc1 pc2 : ℕ) (stack : List ℤ) → slice_get code pc2 ≡ Some (Binary o) → Gives pc1 stack a → ((x : ℤ) → Brings pc1 stack x → Gives pc2 (x ∷ stack) b) → Gives (pc2 + 1) stack (on_two (operator_value bits o) a b)
    two_gives o None b pc1 pc2 stack here ga gb = ga
    two_gives o (Some x) None pc1 pc2 stack here ga gb = gb x ga
    two_gives o (Some x) (Some y) pc1 pc2 stack here ga gb =
        let g = gb x ga in
        given_gives (operator_value bits o x y) (Binary o) pc2 (y ∷ x ∷ stack) stack g.locals here refl g.held g.comes

    one_gives : (o : UnaryOperator) (a : Option ℤ) (pc : ℕ) (stack : List ℤ) → slice_get code pc ≡ Some (Unary o) → Gives pc stack a → Gives (pc + 1) stack (on_one (unary_value bits o) a)
    one_gives o None pc stack here g = g
    one_gives o (Some x) pc stack here g =
        given_gives (unary_value bits o x) (Unary o) pc (x ∷ stack) stack g.locals here refl g.held g.comes

    jump_gives : (o : Option ℤ) (pa pb : ℕ) (stack : List ℤ) → slice_get code pa ≡ Some (Jump pb) → Gives pa stack o → Gives pb stack o
    jump_gives None pa pb stack here g = g
    jump_gives (Some v) pa pb stack here g =
        record { locals = g.locals; held = g.held; comes = comes_on pa pb (v ∷ stack) _ g.locals _ (Jump pb) here refl g.comes }

    -- a condition, and the branch that it chooses
    choice_gives : (c a b : Option ℤ) (pc pa pb : ℕ) (stack : List ℤ) → slice_get code pc ≡ Some (JumpIfZero (pa + 1)) → slice_get code pa ≡ Some (Jump pb) → Gives pc stack c → ((ls : List (Option ℤ)) → Holds ls → Comes (pc + 1) stack ls → Gives pa stack a) → ((ls : List (Option ℤ)) → Holds ls → Comes (pa + 1) stack ls → Gives pb stack b) → Gives pb stack (selected c a b)
    choice_gives None a b pc pa pb stack here jump gc ga gb = gc
    choice_gives (Some (pos zero)) a b pc pa pb stack here jump gc ga gb =
        gb gc.locals gc.held (comes_on pc (pa + 1) (pos zero ∷ stack) stack gc.locals gc.locals _ here refl gc.comes)
    choice_gives (Some (pos (suc n))) a b pc pa pb stack here jump gc ga gb =
        gives_value pb stack a _ (sym (selected_more n a b)) (jump_gives a pa pb stack jump (ga gc.locals gc.held (comes_on pc (pc + 1) (pos (suc n) ∷ stack) stack gc.locals gc.locals _ here refl gc.comes)))
    choice_gives (Some (negsuc n)) a b pc pa pb stack here jump gc ga gb =
        jump_gives a pa pb stack jump (ga gc.locals gc.held (comes_on pc (pc + 1) (negsuc n ∷ stack) stack gc.locals gc.locals _ here refl gc.comes))

    -- ---- powers

    from_same : (o : Option ℤ) (pc : ℕ) (stack : List ℤ) (ls : List (Option ℤ)) → Holds ls → Same ls pc stack o → Gives pc stack o
    from_same None pc stack ls held g = g
    from_same (Some v) pc stack ls held g = record { locals = ls; held = held; comes = g }

    raised_same : (n x : ℤ) (pc : ℕ) (stack : List ℤ) (ls : List (Option ℤ)) → HasAt code pc (raised_code bits n) → length stack + raised_need n ≤ 64 → slice_index_or (slice_set ls base (Some x)) base None ≡ Some x → Comes pc (x ∷ stack) ls → Same (slice_set ls base (Some x)) (pc + length (raised_code bits n)) stack (number_of (signed_power_of bits x n))
    raised_same (pos n) x pc stack ls has h e c =
        let ls' = slice_set ls base (Some x) in
        let c1 = comes_on pc (pc + 1) (x ∷ stack) stack ls ls' (Keep base) has.0 refl c in
        same_to ls' _ _ stack (number_of (power_of bits x n)) (omega arith) (power_runs n n x (pc + 1) stack ls' has.1 h e c1)
    raised_same (negsuc n) x pc stack ls has h e c =
        let ls' = slice_set ls base (Some x) in
        let c1 = comes_on pc (pc + 1) (x ∷ stack) stack ls ls' (Keep base) has.0 refl c in
        let c2 = comes_on (pc + 1) (pc + 1 + 1) stack (one bits ∷ stack) ls' ls' (Push (one bits)) has.1.0 (room (one bits) (pc + 1) stack ls' (omega arith)) c1 in
        let front = power_code (suc n) in
        let hb = has_back code (pc + 1 + 1) front (Binary Divide ∷ []) has.1.1 in
        let g = power_runs (suc n) (suc n) x (pc + 1 + 1) (one bits ∷ stack) ls' (has_front code (pc + 1 + 1) front _ has.1.1) (omega arith) e c2 in
        same_to ls' _ _ stack (number_of (signed_power_of bits x (negsuc n))) (omega (arith, length-append front (Binary Divide ∷ [])))
        (reciprocal_same (power_of bits x (suc n)) (pc + 1 + 1 + length front) stack ls' hb.0 g)

    -- a base, and its power
    raised_gives : (o : Option ℤ) (n : ℤ) (pc : ℕ) (stack : List ℤ) → HasAt code pc (raised_code bits n) → length stack + raised_need n ≤ 64 → Gives pc stack o → Gives (pc + length (raised_code bits n)) stack (power bits o n)
    raised_gives None n pc stack has h g = g
    raised_gives (Some x) n pc stack has h g =
        let ls = slice_set g.locals base (Some x) in
        let size = g.held.size in
        let e = get_or-set_same g.locals base (Some x) None (omega arith) in
        from_same (number_of (signed_power_of bits x n)) (pc + length (raised_code bits n)) stack ls (kept_scratch (Option ℤ) None _ ms j base g.locals (Some x) (omega arith) g.held) (raised_same n x pc stack g.locals has h e g.comes)

    -- ---- two parts

    -- two values in the other order, and an operation
    swap_gives : (o : Operator) (x y : ℤ) (pc : ℕ) (stack : List ℤ) → HasAt code pc (exchange_code ++ (Binary o ∷ [])) → length stack + 2 ≤ 64 → Brings pc (y ∷ stack) x → Gives (pc + 5) stack (number_of (operator_value bits o x y))
    swap_gives o x y pc stack has h g =
        let ls1 = slice_set g.locals spare (Some x) in
        let ls2 = slice_set ls1 base (Some y) in
        let held = kept_scratch (Option ℤ) None _ ms j base ls1 (Some y) (omega arith) (kept_scratch (Option ℤ) None _ ms j spare g.locals (Some x) (omega arith) g.held) in
        let size = g.held.size in
        let size1 : length ls1 ≡ 256 = simp length-set size in
        let e1 = get_or-set_other ls1 base spare (Some y) None (omega arith) ∙ get_or-set_same g.locals spare (Some x) None (omega arith) in
        let e2 = get_or-set_same ls1 base (Some y) None (omega arith) in
        let c1 = comes_on pc (pc + 1) (x ∷ y ∷ stack) (y ∷ stack) g.locals ls1 (Keep spare) has.0 refl g.comes in
        let c2 = comes_on (pc + 1) (pc + 1 + 1) (y ∷ stack) stack ls1 ls2 (Keep base) has.1.0 refl c1 in
        let c3 = get_local spare x (pc + 1 + 1) stack ls2 has.1.1.0 (omega arith) e1 c2 in
        let c4 = get_local base y (pc + 1 + 1 + 1) (x ∷ stack) ls2 has.1.1.1.0 (omega arith) e2 c3 in
        gives_to _ _ stack (number_of (operator_value bits o x y)) (omega arith)
        (given_gives (operator_value bits o x y) (Binary o) (pc + 1 + 1 + 1 + 1) (y ∷ x ∷ stack) stack ls2 has.1.1.1.1.0 refl held c4)

    swapped_gives : (o : Operator) (a b : Option ℤ) (pc1 pc2 : ℕ) (stack : List ℤ) → HasAt code pc2 (exchange_code ++ (Binary o ∷ [])) → length stack + 2 ≤ 64 → Gives pc1 stack b → ((y : ℤ) → Brings pc1 stack y → Gives pc2 (y ∷ stack) a) → Gives (pc2 + 5) stack (on_two (operator_value bits o) a b)
    swapped_gives o a None pc1 pc2 stack has h gb ga = gives_value (pc2 + 5) stack None _ (sym (on_two_none (operator_value bits o) a)) gb
    swapped_gives o None (Some y) pc1 pc2 stack has h gb ga = ga y gb
    swapped_gives o (Some x) (Some y) pc1 pc2 stack has h gb ga = swap_gives o x y pc2 stack has h (ga y gb)

    pair_runs : (swap : Bool) (o : Operator) (fa fb : ℕ → List Instr) (oa ob : Option ℤ) (na nb : ℕ) (pc : ℕ) (stack : List ℤ) (ls : List (Option ℤ)) → 1 ≤ na → HasAt code pc (pair_code swap o pc fa fb) → length stack + min 65 (pair_need swap na nb) ≤ 64
        → ((p : ℕ) (s : List ℤ) (l : List (Option ℤ)) → HasAt code p (fa p) → length s + na ≤ 64 → Holds l → Comes p s l → Gives (p + length (fa p)) s oa)
        → ((p : ℕ) (s : List ℤ) (l : List (Option ℤ)) → HasAt code p (fb p) → length s + nb ≤ 64 → Holds l → Comes p s l → Gives (p + length (fb p)) s ob)
        → Holds ls → Comes pc stack ls → Gives (pc + length (pair_code swap o pc fa fb)) stack (on_two (operator_value bits o) oa ob)
    pair_runs false o fa fb oa ob na nb pc stack ls least has h ra rb held c =
        let ca = fa pc in
        let cb = fb (pc + length ca) in
        let hb = has_back code pc ca (cb ++ (Binary o ∷ [])) has in
        let at = (has_back code (pc + length ca) cb (Binary o ∷ []) hb).0 in
        let len : pc + length ca + length cb + 1 ≡ pc + length (ca ++ (cb ++ (Binary o ∷ []))) = omega (arith, length-append ca (cb ++ (Binary o ∷ [])), length-append cb (Binary o ∷ [])) in
        gives_to _ _ stack (on_two (operator_value bits o) oa ob) len
        (two_gives o oa ob (pc + length ca) (pc + length ca + length cb) stack at
        (ra pc stack ls (has_front code pc ca _ has) (omega arith) held c)
        (λ x g. rb (pc + length ca) (x ∷ stack) g.locals (has_front code _ cb _ hb) (omega arith) g.held g.comes))
    pair_runs true o fa fb oa ob na nb pc stack ls least has h ra rb held c =
        let tail = exchange_code ++ (Binary o ∷ []) in
        let cb = fb pc in
        let ca = fa (pc + length cb) in
        let ha = has_back code pc cb (ca ++ tail) has in
        let at = has_back code (pc + length cb) ca tail ha in
        let len : pc + length cb + length ca + 5 ≡ pc + length (cb ++ (ca ++ tail)) = omega (arith, length-append cb (ca ++ tail), length-append ca tail) in
        gives_to _ _ stack (on_two (operator_value bits o) oa ob) len
        (swapped_gives o oa ob (pc + length cb) (pc + length cb + length ca) stack at (omega arith)
        (rb pc stack ls (has_front code pc cb _ has) (omega arith) held c)
        (λ y g. ra (pc + length cb) (y ∷ stack) g.locals (has_front code _ ca _ ha) (omega arith) g.held g.comes))

    -- ---- trees

    -- a function of one part
    one_runs : (o : UnaryOperator) (ca : List Instr) (oa : Option ℤ) (pc : ℕ) (stack : List ℤ) → HasAt code pc (ca ++ (Unary o ∷ [])) → Gives (pc + length ca) stack oa → Gives (pc + length (ca ++ (Unary o ∷ []))) stack (on_one (unary_value bits o) oa)
    one_runs o ca oa pc stack has g =
        let at = (has_back code pc ca (Unary o ∷ []) has).0 in
        let len : pc + length ca + 1 ≡ pc + length (ca ++ (Unary o ∷ [])) = omega (arith, length-append ca (Unary o ∷ [])) in
        gives_to _ _ stack (on_one (unary_value bits o) oa) len (one_gives o oa (pc + length ca) stack at g)

    -- a run that reaches a tree's code brings the tree's value onto the stack, or faults if there is no value;
    -- definitions stay in their locals
    pub tree_runs : (inputs : ℕ) → inputs ≤ length xs → (e : Tree) (pc : ℕ) (stack : List ℤ) (ls : List (Option ℤ)) → HasAt code pc (tree_code bits pc e) → IsFine inputs ms j e → length stack + stack_depth e ≤ 64 → Holds ls → Comes pc stack ls → Gives (pc + length (tree_code bits pc e)) stack (value_of bits xs (put mean e))
    tree_runs inputs enough (t.Number n) pc stack ls has fine h held c = push_gives (Push n.value) n.value pc stack ls has.0 refl h held c
    tree_runs inputs enough (t.Input k) pc stack ls has fine h held c =
        let v = slice_index_or xs k (pos 0) in
        let e = slice_get-get_or xs k (pos 0) (omega arith) in
        gives_value (pc + 1) stack (Some v) (slice_get xs k) (sym e) (push_gives (Input k) v pc stack ls has.0 (ap (λ o. pushed_if MissingInput o pc stack ls) e) h held c)
    tree_runs inputs enough (t.Definition k) pc stack ls has fine h held c =
        let a = held.each k fine.0 fine.1 in
        gives_value (pc + 1) stack (Some a.0) (value_of bits xs (mean k)) (sym a.1) (push_gives (Get (local_of k)) a.0 pc stack ls has.0 (ap (λ o. pushed_if MissingLocal o pc stack ls) a.2) h held c)
    tree_runs inputs enough (t.Negated a) pc stack ls has fine h held c =
        one_runs Negate (tree_code bits pc a) (value_of bits xs (put mean a)) pc stack has (tree_runs inputs enough a pc stack ls (has_front code pc (tree_code bits pc a) _ has) fine h held c)
    tree_runs inputs enough (t.Binary o a b) pc stack ls has fine h held c =
        let va = value_of bits xs (put mean a) in
        let vb = value_of bits xs (put mean b) in
        pair_runs (is_second_first (stack_depth a) (stack_depth b)) o (λ p. tree_code bits p a) (λ p. tree_code bits p b) va vb (stack_depth a) (stack_depth b) pc stack ls (need_least a) has h
        (λ p s l has' h' held' c'. tree_runs inputs enough a p s l has' fine.0 h' held' c')
        (λ p s l has' h' held' c'. tree_runs inputs enough b p s l has' fine.1 h' held' c')
        held c
    tree_runs inputs enough (t.Applied g a) pc stack ls has fine h held c =
        let va = value_of bits xs (put mean a) in
        one_runs (Apply g) (tree_code bits pc a) va pc stack has (tree_runs inputs enough a pc stack ls (has_front code pc (tree_code bits pc a) _ has) fine h held c)
    tree_runs inputs enough (t.Power a n) pc stack ls has fine h held c =
        let ca = tree_code bits pc a in
        let tail = raised_code bits n in
        let hb = has_back code pc ca tail has in
        let len : pc + length ca + length tail ≡ pc + length (ca ++ tail) = omega (arith, length-append ca tail) in
        let va = value_of bits xs (put mean a) in
        gives_to _ _ stack (power bits va n) len
        (raised_gives va n (pc + length ca) stack hb (omega arith) (tree_runs inputs enough a pc stack ls (has_front code pc ca _ has) fine (omega arith) held c))
    tree_runs inputs enough (t.Select x a b) pc stack ls has fine h held c =
        let cx = tree_code bits pc x in
        let first = pc + length cx + 1 in
        let ca = tree_code bits first a in
        let second = first + length ca + 1 in
        let cb = tree_code bits second b in
        let tail = ca ++ (Jump (second + length cb) ∷ cb) in
        let hk = has_back code pc cx (JumpIfZero second ∷ tail) has in
        let hb = has_back code first ca (Jump (second + length cb) ∷ cb) hk.1 in
        let len : second + length cb ≡ pc + length (cx ++ (JumpIfZero second ∷ tail)) = omega (arith, length-append cx (JumpIfZero second ∷ tail), length-append ca (Jump (second + length cb) ∷ cb)) in
        let vx = value_of bits xs (put mean x) in
        let va = value_of bits xs (put mean a) in
        let vb = value_of bits xs (put mean b) in
        gives_to _ _ stack (selected vx va vb) len
        (choice_gives vx va vb (pc + length cx) (first + length ca) (second + length cb) stack hk.0 hb.0
        (tree_runs inputs enough x pc stack ls (has_front code pc cx _ has) fine.0 (omega arith) held c)
        (λ ls' held' c'. tree_runs inputs enough a first stack ls' (has_front code first ca _ hk.1) fine.1 (omega arith) held' c')
        (λ ls' held' c'. tree_runs inputs enough b second stack ls' hb.1 fine.2 (omega arith) held' c'))
