-- Definitions resolved one after the other.
use Rattle.std.proofs.Common.{◌≡◌, ℕ, ◌+◌, ◌<◌, true, List, [], ◌∷◌, ◌++◌, length, get_or, drop, map, Result, Ok, Err, IsTrue, refl, sym, ap, subst, ◌∙◌, append_assoc, arith, add-one, drop-cons, append-nil}
use Rattle.std.proofs.lemmas.Bool.{and_parts}
use Rattle.fallible.specs.declared.failure.Failure.{Failure}
use Rattle.energy_program.specs.declared.faults.ExprFault.{ExprFault}
use Rattle.line_text.specs.Steps.{◌>>=◌}
use Rattle.energy_program.specs.Faults.{Refusal, Fails}
use Rattle.energy_program.specs.Tree.{Tree, is_scoped}
use Rattle.energy_program.proofs.Scopes.{both, scoped_below}
use Rattle.expr.specs.Syntax.{Definition, defined_names}
use Rattle.expr.specs.Uses.{resolved, all_resolved}
use Rattle.energy_program.proofs.FaultLaws.{fails_then, fails_same}

-- several trees, or why there are none
abbrev pub Several : Type 0
Several = Result (List Tree) Refusal

-- the given trees followed by the others, or the error of the others
abbrev pub behind : List Tree → Several → Several
behind front others = others >>= λ xs. Ok (front ++ xs)

-- ---- the turns

all_behind : (d : Definition) (ds : List Definition) (vs : List (List ℕ)) (i : ℕ) → all_resolved vs i (d ∷ ds) ≡ (resolved vs (i + 1) (defined_names ds) d.1 >>= λ x. behind (x ∷ []) (all_resolved vs (i + 1) ds))
unfolding all_resolved
all_behind d ds vs i = refl

module _ {X : Type 0} (f : X → Definition) (xs : List X) (i : ℕ) (d : X) (below : i < length xs) (vs : List (List ℕ)) where
  next : map f (drop i xs) ≡ f (get_or xs i d) ∷ map f (drop (i + 1) xs)
  next = ap (map f) (drop-cons xs i d below) ∙ ap (λ (z : ℕ). f (get_or xs i d) ∷ map f (drop z xs)) (sym (add-one i))

  turn : all_resolved vs i (map f (drop i xs)) ≡ (resolved vs (i + 1) (defined_names (map f (drop (i + 1) xs))) (f (get_or xs i d)).1 >>= λ x. behind (x ∷ []) (all_resolved vs (i + 1) (map f (drop (i + 1) xs))))
  turn = ap (all_resolved vs i) next ∙ all_behind (f (get_or xs i d)) (map f (drop (i + 1) xs)) vs i

  -- if resolving a tree fails, resolving all trees fails with the same error
  pub fails : {C : Type 0} (front : List Tree) (e : Failure (ExprFault C)) → Fails e (resolved vs (i + 1) (defined_names (map f (drop (i + 1) xs))) (f (get_or xs i d)).1)
      → Fails e (behind front (all_resolved vs i (map f (drop i xs))))
  fails front e h =
      fails_then e (all_resolved vs i (map f (drop i xs))) (λ xs. Ok (front ++ xs))
      (fails_same e _ (all_resolved vs i (map f (drop i xs))) turn (fails_then e (resolved vs (i + 1) (defined_names (map f (drop (i + 1) xs))) (f (get_or xs i d)).1) (λ x. behind (x ∷ []) (all_resolved vs (i + 1) (map f (drop (i + 1) xs)))) h))

  regroup : (front : List Tree) (x : Tree) (r : Several) → behind front (behind (x ∷ []) r) ≡ behind (front ++ (x ∷ [])) r
  regroup front x (Ok ts) = ap (λ (z : List Tree). trees_ok z) (sym (append_assoc front (x ∷ []) ts))
    where
      trees_ok : List Tree → Several
      trees_ok z = Ok z
  regroup front x (Err e) = refl

  -- if a tree is resolved, it is appended to the trees in front, and the next definition is resolved
  pub more : (front longer : List Tree) (x : Tree) → longer ≡ front ++ (x ∷ []) → resolved vs (i + 1) (defined_names (map f (drop (i + 1) xs))) (f (get_or xs i d)).1 ≡ Ok x
      → behind front (all_resolved vs i (map f (drop i xs))) ≡ behind longer (all_resolved vs (i + 1) (map f (drop (i + 1) xs)))
  more front longer x e h =
      ap (behind front) (turn ∙ rw h refl)
      ∙ regroup front x (all_resolved vs (i + 1) (map f (drop (i + 1) xs)))
      ∙ ap (λ (z : List Tree). behind z (all_resolved vs (i + 1) (map f (drop (i + 1) xs)))) (sym e)

-- if no definition is left, the result is the trees in front
pub ends : (front : List Tree) (vs : List (List ℕ)) (i : ℕ) (ds : List Definition) → ds ≡ [] → behind front (all_resolved vs i ds) ≡ Ok front
unfolding all_resolved
ends front vs i ds e = rw e (ap (λ (z : List Tree). trees_ok z) (append-nil front))
  where
    trees_ok : List Tree → Several
    trees_ok z = Ok z

-- ---- scopes

-- scoped trees stay scoped if a tree is appended that uses only definitions after its own
pub scoped_more : (inputs i end j : ℕ) (ds : List Tree) (e : Tree) → j ≡ i + length ds + 1 → IsTrue (scoped_below inputs end i ds) → IsTrue (is_scoped inputs j end e) → IsTrue (scoped_below inputs end i (ds ++ (e ∷ [])))
scoped_more inputs i end j [] e at h k =
    let same : j ≡ i + 1 = omega arith in
    both (is_scoped inputs (i + 1) end e) true (subst (λ (z : ℕ). IsTrue (is_scoped inputs z end e)) same k) refl
scoped_more inputs i end j (d ∷ ds) e at h k =
    let p = and_parts (is_scoped inputs (i + 1) end d) (scoped_below inputs end (i + 1) ds) h in
    both (is_scoped inputs (i + 1) end d) (scoped_below inputs end (i + 1) (ds ++ (e ∷ []))) p.0 (scoped_more inputs (i + 1) end j ds e (omega arith) p.1 k)
