-- The multiples of one next to a number.
use Rattle.std.proofs.Common.{◌≡◌, ℕ, ◌^◌, ℤ, pos, neg_ℤ, ◌*ℤ◌, ◌≤ℤ◌, arith, ap, refl, ◌∙◌, Result, IfOk}
use Rattle.std.proofs.lemmas.Int.{ints, by_lt_z}
use Rattle.fixed.specs.Arithmetic.{ceiling_of, floor_over, one, whole_of}
use Rattle.fixed.specs.Rounding.{IsFloor, IsGreatestMultiple, IsLeastMultiple}
use Rattle.fixed.specs.declared.faults.Fault.{Fault}
use Rattle.fixed.proofs.IntegerLaws.{neg_times, times_le, times_next}
use Rattle.fixed.proofs.FloorLemmas.{floor_over_is, narrowed, two_pos}

-- the floor's multiple is the greatest
floor_greatest : (n : ℤ) (d : ℕ) (q k : ℤ) → IsFloor n (pos d) q → (k *ℤ pos d) ≤ℤ n → (k *ℤ pos d) ≤ℤ (q *ℤ pos d)
floor_greatest n d q k h low =
    by_lt_z q k
    (λ above. let u = h.next_above in let m = times_next q k d above in absurd (omega (arith, ints)))
    (λ below. times_le q k d below)

-- whole_of is the greatest multiple of one that is at most the number
pub whole_is : (bits : ℕ) (a q : ℤ) → q ≡ whole_of bits a → IsGreatestMultiple (one bits) a q
whole_is bits a q e =
    let k = floor_over a (2 ^ bits) in
    let h = floor_over_is a (2 ^ bits) (two_pos bits) in
    let l = h.at_most in
    rw e (record { multiple = (k, refl); at_most = omega (arith, ints); greatest = λ m low. floor_greatest a (2 ^ bits) k m h low })

-- the negative of the greatest multiple below the negative is the least above
mirrored : (d : ℕ) (a q : ℤ) → IsGreatestMultiple (pos d) (neg_ℤ a) q → IsLeastMultiple (pos d) a (neg_ℤ q)
mirrored d a q h =
    let l = h.at_most in
    record {
      multiple = (neg_ℤ (h.multiple).0, ap neg_ℤ (h.multiple).1 ∙ neg_times (h.multiple).0 d);
      at_least = omega (arith, ints);
      least = λ k above. let e = neg_times k d in let g = h.greatest (neg_ℤ k) (omega (arith, ints)) in omega (arith, ints);
    }

-- if a ceiling has no fault, it is the least multiple of one that is at least the number
pub ceiling_is : (bits : ℕ) (a : ℤ) (r : Result ℤ Fault) → r ≡ ceiling_of bits a → IfOk r (IsLeastMultiple (one bits) a)
ceiling_is bits a r e =
    let q = whole_of bits (neg_ℤ a) in
    narrowed (IsLeastMultiple (one bits) a) (neg_ℤ q) r e (mirrored (2 ^ bits) a q (whole_is bits (neg_ℤ a) q refl))
