-- In the written program each use refers to a later definition.
use Rattle.std.proofs.Common.{◌≡◌, ℕ, ◌+◌, ◌-◌, ◌*◌, ◌^◌, ◌≤◌, ◌==◌, nat_lt, nat_le, ℤ, pos, negsuc, Bool, true, false, ◌&&◌, if◌then◌else◌, List, [], ◌∷◌, ◌++◌, map, length, refl, sym, subst, arith}
use Rattle.std.specs.Bool.{IsTrue}
use Rattle.std.proofs.lemmas.Bool.{ltb-true, leb-true, lt-ltb, le-leb, eqb-false}
use Rattle.std.proofs.lemmas.List.{length-map}
use Rattle.std.proofs.Common.{length-append}
use Rattle.fixed.specs.Constants.{exactly}
use Rattle.fixed.specs.declared.operations.Operator.{Operator}
use Rattle.fixed.specs.declared.operations.Operator.TheVariants as op
use Rattle.fixed.specs.declared.operations.Function.{Function}
use Rattle.fixed.specs.declared.operations.Function.TheVariants as f
use Rattle.energy_program.specs.Tree.{Tree, Number, Input, Definition, Negated, Binary, Applied, Power, Select, is_exponent, is_scoped, are_scoped}
use Rattle.derivative.specs.Written.{is_free_given, moved, operation_tree, applied_tree, power_tree, unless_free, slope_tree, free_among, all_slopes}
use Rattle.derivative.specs.Derive.{with_all}
use Rattle.energy_program.proofs.Scopes.{both, scoped_below, to_below, from_below}
use Rattle.derivative.proofs.Bool.{left_of, right_of}

module _ (count : ℕ) where
  -- A moved tree uses only the moved definitions, which come after the n derivatives.
  pub moved_scoped : (n first k : ℕ) → k ≤ n + first → (e : Tree) → IsTrue (is_scoped count first n e) → IsTrue (is_scoped count k (n + n) (moved n e))
  moved_scoped n first k w (Number c) h = refl
  moved_scoped n first k w (Input i) h = h
  moved_scoped n first k w (Definition j) h =
      let low = leb-true first j (left_of (nat_le first j) _ h) in
      let high = ltb-true j n (right_of (nat_le first j) _ h) in
      both _ _ (le-leb k (n + j) (omega arith)) (lt-ltb (n + j) (n + n) (omega arith))
  moved_scoped n first k w (Negated a) h = moved_scoped n first k w a h
  moved_scoped n first k w (Binary o a b) h =
      both _ _ (moved_scoped n first k w a (left_of (is_scoped count first n a) _ h)) (moved_scoped n first k w b (right_of (is_scoped count first n a) _ h))
  moved_scoped n first k w (Applied g a) h = moved_scoped n first k w a h
  moved_scoped n first k w (Power a p) h = both _ _ (left_of (is_exponent p) _ h) (moved_scoped n first k w a (right_of (is_exponent p) _ h))
  moved_scoped n first k w (Select c a b) h =
      let hab = right_of (is_scoped count first n c) _ h in
      both _ _ (moved_scoped n first k w c (left_of (is_scoped count first n c) _ h))
      (both _ _ (moved_scoped n first k w a (left_of (is_scoped count first n a) _ hab)) (moved_scoped n first k w b (right_of (is_scoped count first n a) _ hab)))

  module _ (k m : ℕ) where
    abbrev In : Tree → Type 0
    In e = IsTrue (is_scoped count k m e)

    operation_scoped : (o : Operator) (p q : Bool) (u v du dv : Tree) → In u → In v → In du → In dv → In (operation_tree o p q u v du dv)
    operation_scoped op.Add p q u v du dv a b c d = both _ _ c d
    operation_scoped op.Subtract p q u v du dv a b c d = both _ _ c d
    operation_scoped op.Multiply true q u v du dv a b c d = both _ _ a d
    operation_scoped op.Multiply false true u v du dv a b c d = both _ _ c b
    operation_scoped op.Multiply false false u v du dv a b c d = both _ _ (both _ _ c b) (both _ _ a d)
    operation_scoped op.Divide p true u v du dv a b c d = both _ _ c b
    operation_scoped op.Divide true false u v du dv a b c d = both _ _ (both _ _ a d) b
    operation_scoped op.Divide false false u v du dv a b c d = both _ _ (both _ _ (both _ _ c b) (both _ _ a d)) b
    operation_scoped op.Minimum p q u v du dv a b c d = both _ _ (both _ _ b a) (both _ _ c d)
    operation_scoped op.Maximum p q u v du dv a b c d = both _ _ (both _ _ a b) (both _ _ c d)

    applied_scoped : (bits : ℕ) (g : Function) (u du : Tree) → In u → In du → In (applied_tree bits g u du)
    applied_scoped bits f.SquareRoot u du a c = both _ _ c a
    applied_scoped bits f.Absolute u du a c = both _ _ (both _ _ a refl) c
    applied_scoped bits (f.Flat g) u du a c = refl

    power_scoped : (bits : ℕ) (p : ℤ) (u du : Tree) → IsTrue (is_exponent p) → In u → In du → In (power_tree bits p u du)
    power_scoped bits (pos n) u du w a c = by_test (n == 1) refl
      where
        above : IsTrue (nat_lt 0 n)
        above = left_of _ _ w

        below : n ≤ 33
        below = leb-true n 33 (right_of (nat_lt 0 n) _ w)

        by_test : (b : Bool) → (n == 1) ≡ b
            → In (if b then du else Binary op.Multiply (Binary op.Multiply (Number (exactly (pos (n * 2 ^ bits)))) (Power u (pos (n - 1)))) du)
        by_test true e = c
        by_test false e =
            let low = ltb-true 0 n above in
            let high = below in
            let not_one = eqb-false n 1 e in
            let lower : IsTrue (is_exponent (pos (n - 1))) = both _ _ (lt-ltb 0 (n - 1) (omega arith)) (le-leb (n - 1) 33 (omega arith)) in
            both _ _ (both (is_exponent (pos (n - 1))) _ lower a) c
    power_scoped bits (negsuc m) u du w a c =
        let below = ltb-true m 32 w in
        let higher : IsTrue (is_exponent (pos (m + 2))) = both _ _ (lt-ltb 0 (m + 2) (omega arith)) (le-leb (m + 2) 33 (omega arith)) in
        both _ _ c (both (is_exponent (pos (m + 2))) _ higher a)

    unless_scoped : (b : Bool) (x : Tree) → In x → In (unless_free b x)
    unless_scoped true x h = refl
    unless_scoped false x h = h

  module _ (bits : ℕ) (free : ℕ → Bool) (n first : ℕ) where
    lifted : (e : Tree) → IsTrue (is_scoped count first n e) → IsTrue (is_scoped count first (n + n) (moved n e))
    lifted e h = moved_scoped n first first (omega arith) e h

    -- The tree written for a derivative uses only later derivatives and the moved definitions after all derivatives.
    pub slope_scoped : (e : Tree) → IsTrue (is_scoped count first n e) → IsTrue (is_scoped count first (n + n) (slope_tree bits free n e))
    slope_scoped (Number c) h = refl
    slope_scoped (Input i) h = refl
    slope_scoped (Definition j) h =
        let low = left_of (nat_le first j) _ h in
        let high = ltb-true j n (right_of (nat_le first j) _ h) in
        unless_scoped first (n + n) (free j) (Definition j) (both _ _ low (lt-ltb j (n + n) (omega arith)))
    slope_scoped (Negated a) h = unless_scoped first (n + n) (is_free_given free a) _ (slope_scoped a h)
    slope_scoped (Binary o a b) h =
        let ha = left_of (is_scoped count first n a) _ h in
        let hb = right_of (is_scoped count first n a) _ h in
        unless_scoped first (n + n) (is_free_given free a && is_free_given free b) _
        (operation_scoped first (n + n) o (is_free_given free a) (is_free_given free b) _ _ _ _ (lifted a ha) (lifted b hb) (slope_scoped a ha) (slope_scoped b hb))
    slope_scoped (Applied g a) h =
        unless_scoped first (n + n) (is_free_given free a) _ (applied_scoped first (n + n) bits g _ _ (lifted a h) (slope_scoped a h))
    slope_scoped (Power a p) h =
        let hp = left_of (is_exponent p) _ h in
        let ha = right_of (is_exponent p) _ h in
        unless_scoped first (n + n) (is_free_given free a) _ (power_scoped first (n + n) bits p _ _ hp (lifted a ha) (slope_scoped a ha))
    slope_scoped (Select c a b) h =
        let hc = left_of (is_scoped count first n c) _ h in
        let hab = right_of (is_scoped count first n c) _ h in
        let ha = left_of (is_scoped count first n a) _ hab in
        let hb = right_of (is_scoped count first n a) _ hab in
        unless_scoped first (n + n) (is_free_given free c && (is_free_given free a && is_free_given free b)) _
        (both _ _ (lifted c hc) (both _ _ (slope_scoped a ha) (slope_scoped b hb)))

  later_moved : (n i m : ℕ) (ds : List Tree) → m ≡ n + i → IsTrue (scoped_below count n i ds) → IsTrue (scoped_below count (n + n) m (map (moved n) ds))
  later_moved n i m [] e h = refl
  later_moved n i m (d ∷ ds) e h =
      both _ _ (moved_scoped n (i + 1) (m + 1) (omega arith) d (left_of (is_scoped count (i + 1) n d) _ h))
      (later_moved n (i + 1) (m + 1) ds (omega arith) (right_of (is_scoped count (i + 1) n d) _ h))

  later_slopes : (bits : ℕ) (free : ℕ → Bool) (n i : ℕ) (ds vs : List Tree) → i + length ds ≡ n → IsTrue (scoped_below count n i ds)
      → IsTrue (scoped_below count (n + n) n vs) → IsTrue (scoped_below count (n + n) i (map (slope_tree bits free n) ds ++ vs))
  later_slopes bits free n i [] vs e h w = let s : n ≡ i = omega arith in subst (λ x. IsTrue (scoped_below count (n + n) x vs)) s w
  later_slopes bits free n i (d ∷ ds) vs e h w =
      both _ _ (slope_scoped bits free n (i + 1) d (left_of (is_scoped count (i + 1) n d) _ h))
      (later_slopes bits free n (i + 1) ds vs (omega arith) (right_of (is_scoped count (i + 1) n d) _ h) w)

  all_long : (bits : ℕ) (free : ℕ → Bool) (ds : List Tree) → length (all_slopes bits free ds) ≡ length ds + length ds
  all_long bits free ds = simp (length-append, length-map)

  -- the scopes of the program with all definitions
  pub body_scoped : (bits : ℕ) (body : Tree) (ds : List Tree) → IsTrue (is_scoped count 0 (length ds) body)
      → IsTrue (is_scoped count 0 (length (with_all bits (body, ds)).1) (with_all bits (body, ds)).0)
  body_scoped bits body ds h =
      subst (λ k. IsTrue (is_scoped count 0 k (slope_tree bits (free_among ds) (length ds) body))) (sym (all_long bits (free_among ds) ds))
      (slope_scoped bits (free_among ds) (length ds) 0 body h)

  -- each definition of the program with all definitions uses only later ones
  pub definitions_scoped : (bits : ℕ) (body : Tree) (ds : List Tree) → IsTrue (are_scoped count 0 ds) → IsTrue (are_scoped count 0 (with_all bits (body, ds)).1)
  definitions_scoped bits body ds h =
      let n = length ds in
      let below = to_below count n 0 ds (omega arith) h in
      from_below count (n + n) 0 (all_slopes bits (free_among ds) ds) (omega (arith, all_long bits (free_among ds) ds))
      (later_slopes bits (free_among ds) n 0 ds _ (omega arith) below (later_moved n 0 n ds (omega arith) below))
