-- Sums over pairs as values: a row for each sum says that it has an addition and a zero, and how far it can get.
use Rattle.std.proofs.Common.{◌≡◌, ℕ, ◌+◌, ◌*◌, ◌^◌, ◌<◌, ◌≤◌, List, [], ◌∷◌, ◌++◌, length, take, get_or, ℤ, pos, ◌+ℤ◌, min, Option, Some, None, arith, refl, ap, sym, ◌∙◌, append_assoc, length-append}
use Rattle.std.proofs.lemmas.Grind.{take_at_read}
use Rattle.std.proofs.lemmas.Int.{ints}
use Rattle.std.proofs.lemmas.Option.{same_Some}
use Rattle.std.specs.Option.{ForSome}
use Rattle.fixed.specs.declared.frac.Frac.{Frac}
use Rattle.ring_box.specs.declared.boxes.RingBox.{RingBox}
use Rattle.ring_box.specs.declared.vectors.Place3.{Place3}
use Rattle.ring_box.specs.declared.vectors.Vector.{Vector}
use Rattle.rounds.specs.declared.work.PairAdd.{PairAdd}
use Rattle.integrator.specs.Forces.{plus}
use Rattle.integrator.proofs.BoundLaws.{plus_within, within-weaker}
use Rattle.observables.specs.Bounds.{AreAllWithin, AreBounded}
use Rattle.observables.specs.declared.observations.PairSums.{PairSums}
use Rattle.frame_sums.specs.PairSums.{AreSumsOfPairs, no_sums, no_tensor, plus_sums, plus_tensors, sums_of, sums_over}
use Rattle.frame_sums.specs.Sums.{lesser}
use Rattle.cell_tiles.proofs.SumLemmas.{IsAddition}
use Rattle.frame_sums.proofs.TotalLaws.{total_append, total_one}

-- ---- tensors

int_joins : (a b c : ℤ) → a +ℤ (b +ℤ c) ≡ a +ℤ b +ℤ c
int_joins a b c = omega (arith, ints)

int_commutes : (a b : ℤ) → a +ℤ b ≡ b +ℤ a
int_commutes a b = omega (arith, ints)

int_from_zero : (a : ℤ) → pos 0 +ℤ a ≡ a
int_from_zero a = omega (arith, ints)

vector_joins : (u v w : Vector ℤ) → plus u (plus v w) ≡ plus (plus u v) w
vector_joins u v w = λ i. record { x = int_joins u.x v.x w.x i; y = int_joins u.y v.y w.y i; z = int_joins u.z v.z w.z i }

vector_commutes : (u v : Vector ℤ) → plus u v ≡ plus v u
vector_commutes u v = λ i. record { x = int_commutes u.x v.x i; y = int_commutes u.y v.y i; z = int_commutes u.z v.z i }

tensor_joins : (r s t : Vector (Vector ℤ)) → plus_tensors r (plus_tensors s t) ≡ plus_tensors (plus_tensors r s) t
tensor_joins r s t = λ i. record { x = vector_joins r.x s.x t.x i; y = vector_joins r.y s.y t.y i; z = vector_joins r.z s.z t.z i }

tensor_commutes : (s t : Vector (Vector ℤ)) → plus_tensors s t ≡ plus_tensors t s
tensor_commutes s t = λ i. record { x = vector_commutes s.x t.x i; y = vector_commutes s.y t.y i; z = vector_commutes s.z t.z i }

vector_from_zero : (v : Vector ℤ) → plus (record { x = pos 0; y = pos 0; z = pos 0 }) v ≡ v
vector_from_zero v = λ i. record { x = int_from_zero v.x i; y = int_from_zero v.y i; z = int_from_zero v.z i }

tensor_from_zero : (t : Vector (Vector ℤ)) → plus_tensors no_tensor t ≡ t
tensor_from_zero t = λ i. record { x = vector_from_zero t.x i; y = vector_from_zero t.y i; z = vector_from_zero t.z i }

tensor_weaker : (b c : ℕ) (t : Vector (Vector ℤ)) → b ≤ c → AreAllWithin b t → AreAllWithin c t
tensor_weaker b c t h w = record { x = within-weaker b c h w.x; y = within-weaker b c h w.y; z = within-weaker b c h w.z }

tensors_within : (b c : ℕ) (s t : Vector (Vector ℤ)) → AreAllWithin b s → AreAllWithin c t → AreAllWithin (b + c) (plus_tensors s t)
tensors_within b c s t v w = record { x = plus_within v.x w.x; y = plus_within v.y w.y; z = plus_within v.z w.z }

-- ---- the least

least_joins : (a b c : Option ℕ) → lesser a (lesser b c) ≡ lesser (lesser a b) c
least_joins None b c = refl
least_joins (Some m) None c = refl
least_joins (Some m) (Some n) None = refl
least_joins (Some m) (Some n) (Some k) = ap (λ v. Some v) (omega arith)

least_commutes : (a b : Option ℕ) → lesser a b ≡ lesser b a
least_commutes None None = refl
least_commutes None (Some n) = refl
least_commutes (Some m) None = refl
least_commutes (Some m) (Some n) = ap (λ v. Some v) (omega arith)

least_within : (b : ℕ) (x y : Option ℕ) → ForSome x (λ q. q < b) → ForSome y (λ q. q < b) → ForSome (lesser x y) (λ q. q < b)
least_within b None y h k = k
least_within b (Some m) None h k = h
least_within b (Some m) (Some n) h k = λ q e.
    let is : min m n ≡ q = same_Some (min m n) q e in
    omega (arith, h m refl, k n refl, is)

-- ---- counts

count_joins : (a b c : ℕ) → a + (b + c) ≡ a + b + c
count_joins a b c = omega arith

count_commutes : (a b : ℕ) → a + b ≡ b + a
count_commutes a b = omega arith

count_from_zero : (a : ℕ) → 0 + a ≡ a
count_from_zero a = omega arith

-- ---- all sums

pub sums_laws : IsAddition no_sums plus_sums
sums_laws = record {
  joins = λ (a b c : PairSums). λ i. record {
    virial = tensor_joins a.virial b.virial c.virial i;
    nearest = least_joins a.nearest b.nearest c.nearest i;
    core_pairs = count_joins a.core_pairs b.core_pairs c.core_pairs i;
  };
  commutes = λ (a b : PairSums). λ i. record {
    virial = tensor_commutes a.virial b.virial i;
    nearest = least_commutes a.nearest b.nearest i;
    core_pairs = count_commutes a.core_pairs b.core_pairs i;
  };
  from_zero = λ (a : PairSums). λ i. record {
    virial = tensor_from_zero a.virial i;
    nearest = a.nearest;
    core_pairs = count_from_zero a.core_pairs i;
  };
}

-- sums are within the bounds of more pairs
pub bounded_weaker : (n m : ℕ) (s : PairSums) → n ≤ m → AreBounded n s → AreBounded m s
bounded_weaker n m s h w = record {
  virial = tensor_weaker (n * 2 ^ 94) (m * 2 ^ 94) s.virial (omega (arith, h)) w.virial;
  nearest = w.nearest;
  core_pairs = omega (arith, h, w.core_pairs);
}

-- the bounds of n pairs and of one more
bounded_more : (n : ℕ) (s one : PairSums) → AreBounded n s → AreBounded 1 one → AreBounded (n + 1) (plus_sums s one)
bounded_more n s one v w = record {
  virial = tensor_weaker (n * 2 ^ 94 + 1 * 2 ^ 94) ((n + 1) * 2 ^ 94) _ (omega arith)
      (tensors_within (n * 2 ^ 94) (1 * 2 ^ 94) s.virial one.virial v.virial w.virial);
  nearest = least_within (2 ^ 112) s.nearest one.nearest v.nearest w.nearest;
  core_pairs = omega (arith, v.core_pairs, w.core_pairs);
}

-- ---- over lists

module _ (frac : Frac) (ring : RingBox) (core : ℤ) (frame : List Place3) where
  -- of some pairs, the first pairs of a list, and the next
  pub sums_next : (done adds : List PairAdd) (k : ℕ) (d : PairAdd) (sums one new : PairSums) → k < length adds → AreSumsOfPairs frac ring core frame (done ++ take k adds) sums
      → one ≡ sums_of frac ring core frame (get_or adds k d) → AreBounded 1 one → new ≡ plus_sums sums one → AreSumsOfPairs frac ring core frame (done ++ take (k + 1) adds) new
  sums_next done adds k d sums one new lt before is small made =
      let add = get_or adds k d in
      let first = done ++ take k adds in
      let f = sums_of frac ring core frame in
      let next : done ++ take (k + 1) adds ≡ first ++ add ∷ [] = ap (λ xs. done ++ xs) (take_at_read adds k d lt).1 ∙ sym (append_assoc done (take k adds) (add ∷ [])) in
      rw (next, made)
      (record {
        value = ap (λ t. plus_sums t one) before.value
            ∙ (ap (plus_sums (sums_over f first)) (is ∙ sym (total_one no_sums plus_sums sums_laws f add)) ∙ sym (total_append no_sums plus_sums sums_laws f first (add ∷ [])));
        bounded = bounded_weaker (length first + 1) (length (first ++ add ∷ [])) _ (omega (arith, length-append first (add ∷ []))) (bounded_more (length first) sums one before.bounded small);
      })
