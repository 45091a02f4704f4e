-- The first type with another number of values than the job has parameters.
use Rattle.std.proofs.Common.{◌≡◌, ℕ, zero, suc, ◌<◌, List, [], ◌∷◌, length, map, get_or, refl, sym, ap, arith}
use Rattle.std.specs.List.{AllWithin}
use Rattle.std.proofs.lemmas.List.Elements.{All-nil, All-cons}
use Rattle.job.specs.Faults.{bad_line, TypeLine}
use Rattle.job.specs.JobFaults.{HasOtherCount}

-- the first type with another number of values is the fault, with its line
pub other_count : {X : Type 0} (view : X → TypeLine) (k : ℕ) (xs : List X) (i : ℕ) (x : X) → AllWithin (λ t. length (view t).value.values ≡ k) xs 0 i → i < length xs → x ≡ get_or xs i x
    → (length (view x).value.values ≡ k → ⊥) → HasOtherCount k (map view xs) (bad_line (view x).line)
other_count view k [] i x h lt e differs = absurd (omega arith)
other_count view k (y ∷ ys) zero x h lt e differs = record {
  before = [];
  other = view x;
  after = map view ys;
  parts = ap (λ z. view z ∷ map view ys) (sym e);
  whole = All-nil (λ (t : TypeLine). length t.value.values ≡ k);
  differs = differs;
  fault = refl;
}
other_count view k (y ∷ ys) (suc i) x h lt e differs =
    let first : length (view y).value.values ≡ k = h 0 y (omega arith) (omega arith) in
    let r = other_count view k ys i x (λ j d low high. h (suc j) d (omega arith) (omega arith)) (omega arith) e differs in
    record {
      before = view y ∷ r.before;
      other = r.other;
      after = r.after;
      parts = ap (λ (z : List TypeLine). view y ∷ z) r.parts;
      whole = All-cons (λ (t : TypeLine). length t.value.values ≡ k) (view y) r.before first r.whole;
      differs = r.differs;
      fault = r.fault;
    }
