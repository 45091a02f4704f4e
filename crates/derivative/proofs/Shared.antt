-- The meaning of definitions, in a program and in the program of its derivative.
use Rattle.std.proofs.Common.{◌≡◌, ℕ, ◌+◌, ◌<◌, ◌≤◌, ◌==◌, Bool, true, false, List, [], ◌∷◌, ◌++◌, map, length, Option, refl, ap, ◌∙◌, arith}
use Rattle.std.specs.Bool.{IsTrue}
use Rattle.std.proofs.lemmas.List.{length-map}
use Rattle.std.proofs.lemmas.Bool.{eqb-false}
use Rattle.energy_program.specs.Tree.{Tree, is_scoped, are_scoped, is_free_of_distance, meaning, substituted}
use Rattle.energy_program.proofs.Scopes.{scoped_below, to_below}
use Rattle.derivative.specs.Slope.{Operations, slope_by}
use Rattle.derivative.specs.Written.{moved, slope_tree, free_among}
use Rattle.derivative.specs.Derive.{with_all}
use Rattle.derivative.proofs.Bool.{left_of, right_of}
use Rattle.derivative.proofs.Derives.{Follows, slope_value}
use Rattle.derivative.proofs.Readings.{Reads}
use Rattle.energy_program.proofs.Meaning.{skip}
use Rattle.derivative.proofs.Meaning.{skip_all, moved_meaning}

module _ {V : Type 0} (bits : ℕ) (on : Operations V) (value : Tree → Option V) (reads : Reads bits on value) (free : ℕ → Bool) (count n : ℕ) (olds : List Tree) where
  -- From i on, new definition j has the value of old definition j's derivative (`Follows`).
  pub follows_from : (i : ℕ) (ds : List Tree) → i + length ds ≡ n → IsTrue (scoped_below count n i ds)
      → ((j : ℕ) → i ≤ j → j < n → free j ≡ is_free_of_distance (meaning i ds j))
      → ((j : ℕ) → i ≤ j → j < n → meaning n olds (n + j) ≡ meaning i ds j)
      → Follows on value free n i (meaning i (map (slope_tree bits free n) ds ++ olds)) (meaning i ds)
  follows_from i [] e h is_free same = record {
    is_free = is_free;
    same = λ j a b. absurd (omega arith);
    slope = λ j a b. absurd (omega arith);
  }
  follows_from i (d ∷ ds) e h is_free same =
      let rest : Follows on value free n (i + 1) (meaning (i + 1) (map (slope_tree bits free n) ds ++ olds)) (meaning (i + 1) ds) =
      follows_from (i + 1) ds (omega arith) (right_of _ _ h)
      (λ j a b. is_free j (omega arith) b ∙ ap is_free_of_distance (skip i j d ds a))
      (λ j a b. same j (omega arith) b ∙ skip i j d ds a) in
      record {
        is_free = is_free;
        same = λ j a b. skip_all (map (slope_tree bits free n) (d ∷ ds)) olds i (n + j) n (simp length-map (omega arith)) (omega arith) ∙ same j a b;
        slope = λ j a b. by_test j a b (j == i) refl rest;
      }
    where
      by_test : (j : ℕ) → i ≤ j → j < n → (c : Bool) → (j == i) ≡ c
          → Follows on value free n (i + 1) (meaning (i + 1) (map (slope_tree bits free n) ds ++ olds)) (meaning (i + 1) ds)
          → value (meaning i (map (slope_tree bits free n) (d ∷ ds) ++ olds) j) ≡ slope_by on value (meaning i (d ∷ ds) j)
      by_test j a b true w rest =
          rw (w) (slope_value bits on value reads free count n (i + 1) _ _ rest d (left_of _ _ h))
      by_test j a b false w rest =
          let v = eqb-false j i w in
          rw (w) (rest.slope j (omega arith) b)

-- the program of the slope with all definitions
pub with_all_value : {V : Type 0} (bits : ℕ) (on : Operations V) (value : Tree → Option V) → Reads bits on value → (count : ℕ) (body : Tree) (ds : List Tree)
    → IsTrue (is_scoped count 0 (length ds) body) → IsTrue (are_scoped count 0 ds)
    → value (substituted (with_all bits (body, ds)).0 (with_all bits (body, ds)).1) ≡ slope_by on value (substituted body ds)
with_all_value bits on value reads count body ds hb hd =
    slope_value bits on value reads (free_among ds) count (length ds) 0 _ _
    (follows_from bits on value reads (free_among ds) count (length ds) (map (moved (length ds)) ds) 0 ds (omega arith)
    (to_below count (length ds) 0 ds (omega arith) hd)
    (λ j a b. refl)
    (λ j a b. moved_meaning (length ds) 0 (length ds) ds (omega arith) j))
    body hb
