-- Entries are right: by induction over a tree.
use Rattle.std.proofs.Common.{◌≡◌, ℕ, zero, suc, ◌+◌, ◌-◌, ◌*◌, ◌^◌, ◌==◌, ◌&&◌, ◌<◌, ℤ, pos, negsuc, Bool, true, false, List, [], ◌∷◌, length, Option, Some, refl, sym, subst, arith, if◌then◌else◌, slice_get}
use Rattle.std.proofs.lemmas.Bool.{and_parts, eqb-false, false≢true}
use Rattle.std.proofs.lemmas.Bool.Decides.{nat_tests}
use Rattle.std.proofs.lemmas.Int.{ints}
use Rattle.fixed.specs.Arithmetic.{one}
use Rattle.fixed.specs.declared.operations.Operator.{Operator}
use Rattle.fixed.specs.declared.operations.Operator.TheVariants as op
use Rattle.fixed.specs.declared.operations.Function.{Function}
use Rattle.fixed.specs.declared.operations.Function.TheVariants as f
use Rattle.fixed.specs.declared.operations.FlatFunction.TheVariants as flat
use Rattle.fixed.specs.declared.operations.UnaryOperator.TheVariants as unary
use Rattle.energy_program.specs.Tree.{Tree, Number, Input, Definition, Negated, Binary, Applied, Power, Select, are_scoped, is_exponent, is_free_of_distance, is_scoped, meaning, put, substituted}
use Rattle.energy_program.specs.Value as v
use Rattle.energy_program.specs.Value.{value_of}
use Rattle.energy_program.specs.Programs.{Trees}
use Rattle.derivative.specs.DualNumbers.{IsScoped}
use Rattle.fixed.specs.Constants as constants
use Rattle.fixed.specs.declared.constants.Constant.{Constant}
use Rattle.derivative.specs.Exact as numbers
use Rattle.derivative.specs.Exact.{Numbers, exact, exact_slope, exact_value, whole}
use Rattle.derivative.specs.Slope.{Operations, applied_row, fixed_point, operation_row, power_row, product_row, quotient_row, slope_of, unless_constant}
use Rattle.error_bounds.specs.Approximations.{Approximation}
use Rattle.error_bounds.specs.Approximate as a
use Rattle.error_bounds.specs.Approximate.{approximate}
use Rattle.formula_bounds.specs.Entries as e
use Rattle.formula_bounds.specs.Entries.{Entry, entries_from, entry_of, entry_of_program, known_from, missing}
use Rattle.error_bounds.specs.Meanings.{ApproximatesIfThere}
use Rattle.formula_bounds.specs.Written.{AreApproximated, IsRight, IsWritten}
use Rattle.formula_bounds.specs.Written as m
use Rattle.error_bounds.specs.Ordered.{AreOrdered}
use Rattle.error_bounds.specs.Rules.{as_read, exactly}
use Rattle.error_bounds.proofs.JumpLaws as jump
use Rattle.error_bounds.proofs.Lifted.{agreed_there, lift_one, lift_select, lift_two}
use Rattle.error_bounds.proofs.RightRules as right
use Rattle.error_bounds.proofs.Tests.{above_zero}

-- ---- exponents

-- a later number isn't 0
later_not_zero : (j : ℕ) → (suc j == 0) ≡ false
later_not_zero j = grind (arith, nat_tests)

-- a natural number that is 0 as an integer is 0
pos_zero : (n : ℕ) → pos n ≡ pos 0 → n ≡ 0
pos_zero n e = omega (arith, ints)

-- one less than a number above 0 other than 1 isn't 0
not_one : (n : ℕ) → (n == 1) ≡ false → 0 < n → pos (n - 1) ≡ pos 0 → ⊥
not_one n e some f =
    let zero_is : n - 1 ≡ 0 = pos_zero (n - 1) f in
    eqb-false n 1 e (omega arith)

-- two more than a number isn't 0
two_more : (m : ℕ) → pos (m + 2) ≡ pos 0 → ⊥
two_more m f = let zero_is : m + 2 ≡ 0 = pos_zero (m + 2) f in absurd (omega arith)

-- every exponent in the tree is other than 0
abbrev pub AreExponents : Tree → Type 0
AreExponents (Number z) = Unit {0}
AreExponents (Input n) = Unit {0}
AreExponents (Definition j) = Unit {0}
AreExponents (Negated t) = AreExponents t
AreExponents (Binary g t u) = AreExponents t × AreExponents u
AreExponents (Applied g t) = AreExponents t
AreExponents (Power t n) = (n ≡ pos 0 → ⊥) × AreExponents t
AreExponents (Select t u c) = AreExponents t × AreExponents u × AreExponents c

-- an allowed exponent isn't 0
exponent_not_zero : (n : ℤ) → is_exponent n ≡ true → n ≡ pos 0 → ⊥
exponent_not_zero (pos zero) e f = false≢true e
exponent_not_zero (pos (suc n)) e f = omega (arith, ints)
exponent_not_zero (negsuc n) e f = omega (arith, ints)

-- a scoped tree has allowed exponents
pub scoped_exponents : (inputs first end : ℕ) (t : Tree) → is_scoped inputs first end t ≡ true → AreExponents t
scoped_exponents inputs first end (Number z) e = tt
scoped_exponents inputs first end (Input n) e = tt
scoped_exponents inputs first end (Definition j) e = tt
scoped_exponents inputs first end (Negated t) e = scoped_exponents inputs first end t e
scoped_exponents inputs first end (Binary g t u) e =
    let p = and_parts (is_scoped inputs first end t) (is_scoped inputs first end u) e in
    (scoped_exponents inputs first end t p.0, scoped_exponents inputs first end u p.1)
scoped_exponents inputs first end (Applied g t) e = scoped_exponents inputs first end t e
scoped_exponents inputs first end (Power t n) e =
    let p = and_parts (is_exponent n) (is_scoped inputs first end t) e in
    (exponent_not_zero n p.0, scoped_exponents inputs first end t p.1)
scoped_exponents inputs first end (Select t u c) e =
    let p = and_parts (is_scoped inputs first end t) (is_scoped inputs first end u && is_scoped inputs first end c) e in
    let q = and_parts (is_scoped inputs first end u) (is_scoped inputs first end c) p.1 in
    (scoped_exponents inputs first end t p.0, scoped_exponents inputs first end u q.0, scoped_exponents inputs first end c q.1)

-- n u^(n - 1) du
abbrev power_slope_of : {W : Type 0} → Operations W → ℕ → (u du : Option W) → Option W
power_slope_of on n u du = on.product (on.product (on.whole n) (on.power u (pos (n - 1)))) du

module _ {V : Type 0} (k : Numbers V) (h : AreOrdered k) (bits : ℕ) where
  open k.ring use {zero as o, one as i}

  -- the computed and the exact value are approximated, if there is an approximation
  abbrev There : Option Approximation → Option ℤ → Option V → Type 0
  There = ApproximatesIfThere k bits

  -- ---- operations

  -- the value of an operation is approximated
  pub operation_there : (g : Operator) (p q : Option Approximation) (z w : Option ℤ) (x y : Option V) → There p z x → There q w y
      → There (a.operation bits g p q) (v.operation bits g z w) (numbers.operation k g x y)
  operation_there g p q z w x y s t = lift_two k h bits _ _ _ (right.operator_right k h bits g) p q z w x y s t

  -- the negative is approximated
  pub negative_there : (p : Option Approximation) (z : Option ℤ) (x : Option V) → There p z x
      → There ((approximate bits).negative p) ((fixed_point bits).negative z) ((exact k).negative x)
  negative_there p z x t = lift_one k h bits _ _ _ (right.unary_right k h bits unary.Negate) p z x t

  -- the square is approximated
  square_there : (p : Option Approximation) (z : Option ℤ) (x : Option V) → There p z x
      → There ((approximate bits).square p) ((fixed_point bits).square z) ((exact k).square x)
  square_there p z x t = lift_one k h bits _ _ _ (right.unary_right k h bits unary.Square) p z x t

  -- the value of a function is approximated
  pub applied_there : (g : Function) (p : Option Approximation) (z : Option ℤ) (x : Option V) → There p z x
      → There (a.applied bits g p) (v.applied bits g z) (numbers.applied k g x)
  applied_there g p z x t = lift_one k h bits _ _ _ (right.unary_right k h bits (unary.Apply g)) p z x t

  -- the choice between two values is approximated
  pub selected_there : (p q r : Option Approximation) (z w c : Option ℤ) (x y t : Option V) → There p z x → There q w y → There r c t
      → There ((approximate bits).selected p q r) ((fixed_point bits).selected z w c) ((exact k).selected x y t)
  selected_there p q r z w c x y t a b d = lift_select k h bits p q r z w c x y t a b d

  -- the power is approximated, if the exponent isn't 0
  pub power_there : (n : ℤ) (p : Option Approximation) (z : Option ℤ) (x : Option V) → (n ≡ pos 0 → ⊥) → There p z x
      → There ((approximate bits).power p n) ((fixed_point bits).power z n) ((exact k).power x n)
  power_there n p z x some t = lift_one k h bits _ _ _ (right.power_right k h bits n some) p z x t

  -- a natural number is approximated
  whole_there : (n : ℕ) → There ((approximate bits).whole n) ((fixed_point bits).whole n) ((exact k).whole n)
  whole_there n = agreed_there k h bits (exactly (pos (n * 2 ^ bits))) (pos (n * 2 ^ bits)) (whole k.ring n) (jump.whole_agrees k h bits n)

  -- 0 is approximated
  pub zero_there : There (Some (exactly (pos 0))) (Some (pos 0)) (Some o)
  zero_there = agreed_there k h bits (exactly (pos 0)) (pos 0) o (jump.zero_agrees k h bits)

  -- 1 is approximated
  one_there : There (Some (exactly (one bits))) (Some (one bits)) (Some i)
  one_there = agreed_there k h bits (exactly (one bits)) (one bits) i (jump.one_agrees k h bits)

  -- a slope that is 0 for trees free of the distance is approximated, if it is approximated for other trees
  pub constant_there : (free : Bool) (p : Option Approximation) (z : Option ℤ) (x : Option V) → There p z x
      → There (unless_constant (exactly (pos 0)) free p) (unless_constant (pos 0) free z) (unless_constant o free x)
  constant_there true p z x t = zero_there
  constant_there false p z x t = t

  -- ---- rows of the table of derivatives

  -- the values and the slopes of two parts are approximated
  pub record Parts (u v du dv : Option Approximation) (z w dz dw : Option ℤ) (x y dx dy : Option V) : Type 0 where
    pub first : There u z x
    pub second : There v w y
    pub first_slope : There du dz dx
    pub second_slope : There dv dw dy

  module _ (u v du dv : Option Approximation) (z w dz dw : Option ℤ) (x y dx dy : Option V) (t : Parts u v du dv z w dz dw x y dx dy) where
    -- the first value times the second slope is approximated
    first_product : There ((approximate bits).product u dv) ((fixed_point bits).product z dw) ((exact k).product x dy)
    first_product = operation_there op.Multiply u dv z dw x dy t.first t.second_slope

    -- so is the first slope times the second value
    second_product : There ((approximate bits).product du v) ((fixed_point bits).product dz w) ((exact k).product dx y)
    second_product = operation_there op.Multiply du v dz w dx y t.first_slope t.second

    -- the slope of a product is approximated
    product_row_there : (p q : Bool)
        → There (product_row (approximate bits) p q u v du dv) (product_row (fixed_point bits) p q z w dz dw)
        (product_row (exact k) p q x y dx dy)
    product_row_there true q = first_product
    product_row_there false true = second_product
    product_row_there false false = operation_there op.Add _ _ _ _ _ _ second_product first_product

    -- the slope of a quotient is approximated
    quotient_row_there : (p q : Bool)
        → There (quotient_row (approximate bits) p q u v du dv) (quotient_row (fixed_point bits) p q z w dz dw)
        (quotient_row (exact k) p q x y dx dy)
    quotient_row_there p true = operation_there op.Divide du v dz w dx y t.first_slope t.second
    quotient_row_there true false = operation_there op.Divide _ _ _ _ _ _ (negative_there _ _ _ first_product) (square_there v w y t.second)
    quotient_row_there false false =
        operation_there op.Divide _ _ _ _ _ _ (operation_there op.Subtract _ _ _ _ _ _ second_product first_product) (square_there v w y t.second)

    -- the slope of an operation is approximated
    operation_row_there : (g : Operator) (p q : Bool)
        → There (operation_row (approximate bits) g p q u v du dv) (operation_row (fixed_point bits) g p q z w dz dw)
        (operation_row (exact k) g p q x y dx dy)
    operation_row_there op.Add p q = operation_there op.Add du dv dz dw dx dy t.first_slope t.second_slope
    operation_row_there op.Subtract p q = operation_there op.Subtract du dv dz dw dx dy t.first_slope t.second_slope
    operation_row_there op.Multiply p q = product_row_there p q
    operation_row_there op.Divide p q = quotient_row_there p q
    operation_row_there op.Minimum p q =
        selected_there _ du dv _ dz dw _ dx dy (applied_there (f.Flat flat.Step) _ _ _ (operation_there op.Subtract v u w z y x t.second t.first))
        t.first_slope t.second_slope
    operation_row_there op.Maximum p q =
        selected_there _ du dv _ dz dw _ dx dy (applied_there (f.Flat flat.Step) _ _ _ (operation_there op.Subtract u v z w x y t.first t.second))
        t.first_slope t.second_slope

    -- the slope of an operation is approximated; it is 0 if both parts are free of the distance
    pub row_there : (g : Operator) (p q : Bool)
        → There (unless_constant (exactly (pos 0)) (p && q) (operation_row (approximate bits) g p q u v du dv))
        (unless_constant (pos 0) (p && q) (operation_row (fixed_point bits) g p q z w dz dw))
        (unless_constant o (p && q) (operation_row (exact k) g p q x y dx dy))
    row_there g p q = constant_there (p && q) _ _ _ (operation_row_there g p q)

  -- the slope of a function is approximated
  pub applied_row_there : (g : Function) (u du : Option Approximation) (z dz : Option ℤ) (x dx : Option V) → There u z x → There du dz dx
      → There (applied_row (approximate bits) g u du) (applied_row (fixed_point bits) g z dz) (applied_row (exact k) g x dx)
  applied_row_there f.SquareRoot u du z dz x dx t d =
      operation_there op.Divide du _ dz _ dx _ d
      (operation_there op.Multiply ((approximate bits).whole 2) _ ((fixed_point bits).whole 2) _ ((exact k).whole 2) _ (whole_there 2)
      (applied_there f.SquareRoot u z x t))
  applied_row_there f.Absolute u du z dz x dx t d =
      selected_there _ du _ _ dz _ _ dx _ (applied_there (f.Flat flat.Step) u z x t) d (negative_there du dz dx d)
  applied_row_there (f.Flat g) u du z dz x dx t d = zero_there

  -- the slope of a power from 1 is approximated
  power_above : (n : ℕ) (u du : Option Approximation) (z dz : Option ℤ) (x dx : Option V) (test : Bool) → (n == 1) ≡ test → 0 < n
      → There u z x → There du dz dx
      → There (if test then du else power_slope_of (approximate bits) n u du)
      (if test then dz else power_slope_of (fixed_point bits) n z dz)
      (if test then dx else power_slope_of (exact k) n x dx)
  power_above n u du z dz x dx true e some t d = d
  power_above n u du z dz x dx false e some t d =
      operation_there op.Multiply _ du _ dz _ dx
      (operation_there op.Multiply ((approximate bits).whole n) _ ((fixed_point bits).whole n) _ ((exact k).whole n) _ (whole_there n)
      (power_there (pos (n - 1)) u z x (λ f. not_one n e some f) t))
      d

  -- the slope of each power other than 0 is approximated
  pub power_row_there : (n : ℤ) (u du : Option Approximation) (z dz : Option ℤ) (x dx : Option V) → (n ≡ pos 0 → ⊥) → There u z x
      → There du dz dx → There (power_row (approximate bits) u n du) (power_row (fixed_point bits) z n dz) (power_row (exact k) x n dx)
  power_row_there (pos n) u du z dz x dx some t d = power_above n u du z dz x dx (n == 1) refl (above_zero n some) t d
  power_row_there (negsuc m) u du z dz x dx some t d =
      negative_there _ _ _
      (operation_there op.Divide _ _ _ _ _ _
      (operation_there op.Multiply ((approximate bits).whole (m + 1)) du ((fixed_point bits).whole (m + 1)) dz ((exact k).whole (m + 1)) dx
      (whole_there (m + 1)) d)
      (power_there (pos (m + 2)) u z x (λ f. two_more m f) t))

  -- ---- trees

  module _ (inputs : List ℤ) (exacts : List V) (approximations : List Approximation)
      (are : AreApproximated k bits approximations inputs exacts) where
    -- an entry is right for a tree
    abbrev Right : Entry → Tree → Type 0
    Right = IsRight k bits inputs exacts

    -- the second tree is the first as it was written
    abbrev Written : Tree → Tree → Type 0
    Written = IsWritten k bits exacts

    -- the value and the slope that are computed of a tree
    abbrev computed : Tree → Option ℤ
    computed t = value_of bits inputs t

    abbrev computed_slope : Tree → Option ℤ
    computed_slope t = slope_of bits inputs t

    -- the exact value and the exact slope of a tree
    abbrev value : Tree → Option V
    value t = exact_value k exacts t

    abbrev slope : Tree → Option V
    slope t = exact_slope k exacts t

    -- a written tree is free of the distance if the tree is
    pub written_free : (t t' : Tree) → Written t t' → is_free_of_distance t' ≡ is_free_of_distance t
    written_free (Number c) _ (m.number {c = w} {j = j} e r) = rw (later_not_zero j) refl
    written_free (Input n) _ m.input = refl
    written_free (Definition j) _ m.definition = refl
    written_free (Negated t) _ (m.negated w) = written_free t _ w
    written_free (Binary g t u) _ (m.binary w y) = rw (written_free t _ w, written_free u _ y) refl
    written_free (Applied g t) _ (m.applied w) = written_free t _ w
    written_free (Power t n) _ (m.power w) = written_free t _ w
    written_free (Select t u z) _ (m.select w y s) = rw (written_free t _ w, written_free u _ y, written_free z _ s) refl

    -- a slope that is 0 if the tree is free of the distance is approximated
    slope_there : (free free' free'' : Bool) (p : Option Approximation) (z : Option ℤ) (x : Option V) → free ≡ free' → free'' ≡ free'
        → There p z x
        → There (unless_constant (exactly (pos 0)) free p) (unless_constant (pos 0) free' z) (unless_constant o free'' x)
    slope_there free free' free'' p z x e e' t = rw (e, e') (constant_there free' p z x t)

    -- ---- numbers and inputs

    -- a constant is approximated by the value that was read
    pub number_value : (c : Constant) (t : Tree) → Written (Number c) t → There (Some (as_read c)) (Some c.value) (value t)
    number_value c _ (m.number {x = x} e r) =
        subst (There (Some (as_read c)) (Some c.value)) (sym e) (agreed_there k h bits (as_read c) c.value x (jump.read_agrees k h bits c x r))

    -- its slope is 0
    pub number_slope : (c : Constant) (t : Tree) → Written (Number c) t → There (Some (exactly (pos 0))) (Some (pos 0)) (slope t)
    number_slope c _ (m.number {j = j} e r) = rw (later_not_zero j) zero_there

    -- the entry of a constant is right
    pub number_right : (c : Constant) → Right (e.number bits c) (Number c)
    number_right c = record { free = refl; value = number_value c; slope = number_slope c }

    -- an input is approximated
    pub input_value : (n : ℕ) (t : Tree) → Written (Input n) t → There (slice_get approximations n) (slice_get inputs n) (value t)
    input_value n _ m.input = are n

    -- the slope of the distance is 1, and the slope of another input 0
    one_if : (distance : Bool) → There (Some (if distance then exactly (one bits) else exactly (pos 0)))
        (Some (if distance then one bits else pos 0)) (Some (if distance then i else o))
    one_if true = one_there
    one_if false = zero_there

    -- the slope of an input is approximated
    pub input_slope : (n : ℕ) (t : Tree) → Written (Input n) t
        → There (Some (if n == 0 then exactly (one bits) else exactly (pos 0))) (computed_slope (Input n)) (slope t)
    input_slope n _ m.input = one_if (n == 0)

    -- the entry of an input is right
    pub input_right : (n : ℕ) → Right (e.input bits n (slice_get approximations n)) (Input n)
    input_right n = record { free = refl; value = input_value n; slope = input_slope n }

    -- ---- operations

    -- the value and the slope of the first tree are approximated, for the second tree as it was written
    abbrev Both : Entry → (tree written : Tree) → Type 0
    Both x t t' = There x.value (computed t) (value t') × There x.slope (computed_slope t) (slope t')

    -- so the entry is right
    both_right : (x : Entry) (t : Tree) → x.free ≡ is_free_of_distance t → ((t' : Tree) → Written t t' → Both x t t') → Right x t
    both_right x t free both = record { free = free; value = λ t' w. (both t' w).0; slope = λ t' w. (both t' w).1 }

    -- value and slope of a negative are approximated
    negated_both : (x : Entry) (t t' : Tree) → Right x t → Written (Negated t) t' → Both (e.negated bits x) (Negated t) t'
    negated_both x t _ r (m.negated w) =
        (negative_there _ _ _ (r.value _ w), slope_there _ _ _ _ _ _ r.free (written_free t _ w) (negative_there _ _ _ (r.slope _ w)))

    -- and of an operation
    binary_both : (g : Operator) (x y : Entry) (t u t' : Tree) → Right x t → Right y u → Written (Binary g t u) t'
        → Both (e.binary bits g x y) (Binary g t u) t'
    binary_both g x y t u _ r q (m.binary {a' = t1} {b' = u1} w v') = (
      operation_there g _ _ _ _ _ _ (r.value t1 w) (q.value u1 v'),
      rw (r.free, q.free, written_free t t1 w, written_free u u1 v')
          (row_there _ _ _ _ _ _ _ _ _ _ _ _
          (record { first = r.value t1 w; second = q.value u1 v'; first_slope = r.slope t1 w; second_slope = q.slope u1 v' })
          g (is_free_of_distance t) (is_free_of_distance u)),
    )

    -- and of a function
    applied_both : (g : Function) (x : Entry) (t t' : Tree) → Right x t → Written (Applied g t) t' → Both (e.applied bits g x) (Applied g t) t'
    applied_both g x t _ r (m.applied w) = (
      applied_there g _ _ _ (r.value _ w),
      slope_there _ _ _ _ _ _ r.free (written_free t _ w) (applied_row_there g _ _ _ _ _ _ (r.value _ w) (r.slope _ w)),
    )

    -- and of a power
    power_both : (n : ℤ) (x : Entry) (t t' : Tree) → (n ≡ pos 0 → ⊥) → Right x t → Written (Power t n) t'
        → Both (e.power bits x n) (Power t n) t'
    power_both n x t _ some r (m.power w) = (
      power_there n _ _ _ some (r.value _ w),
      slope_there _ _ _ _ _ _ r.free (written_free t _ w) (power_row_there n _ _ _ _ _ _ some (r.value _ w) (r.slope _ w)),
    )

    -- and of a choice
    select_both : (x y z : Entry) (t u c t' : Tree) → Right x t → Right y u → Right z c → Written (Select t u c) t'
        → Both (e.select bits x y z) (Select t u c) t'
    select_both x y z t u c _ r q p (m.select {x' = t1} {a' = u1} {b' = c1} w v' s') = (
      selected_there _ _ _ _ _ _ _ _ _ (r.value t1 w) (q.value u1 v') (p.value c1 s'),
      rw (r.free, q.free, p.free, written_free t t1 w, written_free u u1 v', written_free c c1 s')
          (constant_there (is_free_of_distance t && (is_free_of_distance u && is_free_of_distance c)) _ _ _
          (selected_there _ _ _ _ _ _ _ _ _ (r.value t1 w) (q.slope u1 v') (p.slope c1 s'))),
    )

    -- ---- the induction

    -- the entry of a tree is right, if the entries of definitions are
    entry_is_right : (known : ℕ → Entry) (g : ℕ → Tree) → ((j : ℕ) → Right (known j) (g j)) → (t : Tree) → AreExponents t
        → Right (entry_of bits approximations known t) (put g t)
    entry_is_right known g all (Number z) ex = number_right z
    entry_is_right known g all (Input n) ex = input_right n
    entry_is_right known g all (Definition j) ex = all j
    entry_is_right known g all (Negated t) ex =
        let r = entry_is_right known g all t ex in both_right _ _ r.free (λ t' w. negated_both _ _ t' r w)
    entry_is_right known g all (Binary b t u) ex =
        let r = entry_is_right known g all t ex.0 in
        let q = entry_is_right known g all u ex.1 in
        both_right _ _ (rw (r.free, q.free) refl) (λ t' w. binary_both b _ _ _ _ t' r q w)
    entry_is_right known g all (Applied b t) ex =
        let r = entry_is_right known g all t ex in both_right _ _ r.free (λ t' w. applied_both b _ _ t' r w)
    entry_is_right known g all (Power t n) ex =
        let r = entry_is_right known g all t ex.1 in both_right _ _ r.free (λ t' w. power_both n _ _ t' ex.0 r w)
    entry_is_right known g all (Select t u c) ex =
        let r = entry_is_right known g all t ex.0 in
        let q = entry_is_right known g all u ex.1 in
        let p = entry_is_right known g all c ex.2 in
        both_right _ _ (rw (r.free, q.free, p.free) refl) (λ t' w. select_both _ _ _ _ _ _ t' r q p w)

    -- ---- programs

    -- the entry that is missing is right for the tree 0
    missing_right : Right missing (Number (constants.exactly (pos 0)))
    missing_right = record { free = refl; value = λ t' w. tt; slope = λ t' w. tt }

    -- the entry of definition j, if it is found at a number
    known_if : (found : Bool) (x y : Entry) (t u : Tree) → Right x t → Right y u → Right (if found then x else y) (if found then t else u)
    known_if true x y t u r q = r
    known_if false x y t u r q = q

    -- the entries of definitions are right for the definitions with later ones substituted
    definitions_right : (count n : ℕ) (ds : List Tree) → are_scoped count n ds ≡ true → (j : ℕ)
        → Right (known_from bits n (entries_from bits approximations n ds) j) (meaning n ds j)
    definitions_right count n [] e j = missing_right
    definitions_right count n (d ∷ ds) e j =
        let p = and_parts (is_scoped count (n + 1) (n + (1 + length ds)) d) (are_scoped count (n + 1) ds) e in
        let later : (l : ℕ) → Right (known_from bits (n + 1) (entries_from bits approximations (n + 1) ds) l) (meaning (n + 1) ds l) =
        λ l. definitions_right count (n + 1) ds p.1 l in
        known_if (j == n) _ _ _ _
        (entry_is_right (known_from bits (n + 1) (entries_from bits approximations (n + 1) ds)) (meaning (n + 1) ds) later d
        (scoped_exponents count (n + 1) (n + (1 + length ds)) d p.0))
        (later j)

    -- the entry of a program is right for its tree
    pub program_is_right : (count : ℕ) (program : Trees) → IsScoped count program
        → Right (entry_of_program bits approximations program) (substituted program.0 program.1)
    program_is_right count (body, definitions) scoped =
        entry_is_right (known_from bits 0 (entries_from bits approximations 0 definitions)) (meaning 0 definitions)
        (λ j. definitions_right count 0 definitions scoped.1 j) body (scoped_exponents count 0 (length definitions) body scoped.0)
