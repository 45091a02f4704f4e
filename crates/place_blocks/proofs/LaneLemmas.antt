-- The lanes of the results of operations on vectors of sixteen lanes.
use Rattle.std.proofs.Common.{◌≡◌, ℕ, zero, suc, ◌+◌, ◌-◌, ◌/◌, ◌%◌, ◌^◌, ◌<◌, List, [], ◌∷◌, Bool, false, cond, ltb, leb, length, get_or, map, replicate, refl, sym, ap, subst, ◌∙◌, arith, Fits, w16, w32, inl, inr, min}
use Rattle.std.specs.Int.{bit_at}
use Rattle.std.specs.Simd.Lanes.{zip2, sel_l, mask_l, top, Each1}
use Rattle.std.proofs.lemmas.Simd.{length-zip2, get_or-zip2, get_or-replicate, length-sel_l, get_or-sel_l, bit_mask_l, tops_compared, bitmask_splat, mask_l-lt, Each1-get_or, Each1-from_get_or}
use Rattle.std.proofs.lemmas.List.{length-map}
use Rattle.std.proofs.lemmas.Bool.{cases_lt, cond-true, cond-false, lt-ltb, le-ltb}
use Rattle.std.proofs.lemmas.Bool.Decides.{nat_tests}
use Rattle.place_blocks.specs.Lanes.{HasLanes}

-- a vector holds its own lanes
pub itself : (a : List ℕ) → length a ≡ 16 → HasLanes a (λ k. get_or a k 0)
itself a e = record { long = e; each = λ k l. refl }

-- a splat holds its number in each lane
pub splat : (x : ℕ) → HasLanes (replicate 16 x) (λ k. x)
splat x = record { long = refl; each = λ k l. get_or-replicate 16 k x 0 l }

-- an operation on one vector applies to each lane
pub mapped : (f : ℕ → ℕ) (a : List ℕ) (g : ℕ → ℕ) → HasLanes a g → HasLanes (map f a) (λ k. f (g k))
mapped f a g h = record {
  long = length-map a f ∙ h.long;
  each = λ k l. get_or-map-in f a k (subst (λ n. k < n) (sym h.long) l) ∙ ap f (h.each k l);
}
  where
    get_or-map-in : (f : ℕ → ℕ) (xs : List ℕ) (k : ℕ) → k < length xs → get_or (map f xs) k 0 ≡ f (get_or xs k 0)
    get_or-map-in f [] k l = absurd (omega arith)
    get_or-map-in f (x ∷ xs) zero l = refl
    get_or-map-in f (x ∷ xs) (suc k) l = get_or-map-in f xs k (omega arith)

-- an operation on two vectors applies to each pair of lanes
pub zipped : (f : ℕ → ℕ → ℕ) (a b : List ℕ) (g h : ℕ → ℕ) → HasLanes a g → HasLanes b h → HasLanes (zip2 f a b) (λ k. f (g k) (h k))
zipped f a b g h p q =
    let m = p.long in
    let n = q.long in
    record {
      long = length-zip2 f a b (m ∙ sym n) ∙ m;
      each = λ k l. get_or-zip2 f a b k 0 0 0 (omega arith) (omega arith) ∙ (λ i. f (p.each k l i) (q.each k l i));
    }

-- a choice by a comparison
pub chosen : (t : ℕ → ℕ → Bool) (a b x y : List ℕ) (g h u v : ℕ → ℕ) → HasLanes a g → HasLanes b h → HasLanes x u → HasLanes y v
    → HasLanes (sel_l (map (top 15) (zip2 (λ m n. cond (t m n) (2 ^ 16 - 1) 0) a b)) x y) (λ k. cond (t (g k) (h k)) (u k) (v k))
chosen t a b x y g h u v p q r s =
    let m = p.long in
    let n = q.long in
    let i = r.long in
    let j = s.long in
    let long : length (zip2 t a b) ≡ 16 = length-zip2 t a b (m ∙ sym n) ∙ m in
    subst (λ ms. HasLanes (sel_l ms x y) (λ k. cond (t (g k) (h k)) (u k) (v k))) (sym (tops_compared w16 t a b))
    (record {
      long = length-sel_l (zip2 t a b) x y (omega arith) (omega arith) ∙ long;
      each = λ k l.
          get_or-sel_l (zip2 t a b) x y k 0 (omega arith) (omega arith) (omega arith)
          ∙ (λ o. cond ((get_or-zip2 t a b k 0 0 false (omega arith) (omega arith) ∙ (λ o. t (p.each k l o) (q.each k l o))) o) (r.each k l o) (s.each k l o));
    })

-- the same lanes in other words
pub same : (a : List ℕ) (f g : ℕ → ℕ) → HasLanes a f → ((k : ℕ) → k < 16 → f k ≡ g k) → HasLanes a g
same a f g h e = record { long = h.long; each = λ k l. h.each k l ∙ e k l }

-- a lane of 16 bits
pub fits16 : (a : List ℕ) → length a ≡ 16 → Each1 (Fits w16) a → (k : ℕ) → k < 16 → get_or a k 0 < 2 ^ 16
fits16 a e h k l = (Each1-get_or (Fits w16) a k 0 (omega arith) h).fits

-- the bits of the mask of the lanes that are at most a limit
pub bit_is : (a : List ℕ) (limit k : ℕ) → length a ≡ 16 → k < 16
    → bit_at (mask_l (map (top 31) (zip2 (λ m n. cond (leb m n) (2 ^ 32 - 1) 0) a (replicate 16 limit))) % 2 ^ 64) k ≡ cond (leb (get_or a k 0) limit) 1 0
bit_is a limit k e l =
    let g : bit_at (mask_l (map (λ x. leb x limit) a)) k ≡ cond (get_or (map (λ x. leb x limit) a) k false) 1 0 = bit_mask_l (map (λ x. leb x limit) a) k in
    let h : get_or (map (λ x. leb x limit) a) k false ≡ leb (get_or a k 0) limit = at a k (omega arith) in
    rw (bitmask_splat w32 leb a 16 limit e (omega arith), g, h) refl
  where
    at : (xs : List ℕ) (k : ℕ) → k < length xs → get_or (map (λ x. leb x limit) xs) k false ≡ leb (get_or xs k 0) limit
    at [] k l = absurd (omega arith)
    at (x ∷ xs) zero l = refl
    at (x ∷ xs) (suc k) l = at xs k (omega arith)

-- a choice by a comparison, as the lesser of two numbers
pub lesser : (m n : ℕ) → cond (ltb m n) m n ≡ min m n
lesser m n = grind (arith, nat_tests)

-- a saturating difference, as a wrapping one of a choice
pub rest : (m n : ℕ) → m < 2 ^ 16 → n < 2 ^ 16 → (cond (ltb m n) n m + (2 ^ 16 - n)) % 2 ^ 16 ≡ m - n
rest m n p q = elim (cases_lt m n) [
  | inl l ↦ rw (cond-true (ltb m n) n m (lt-ltb m n l)) (omega arith)
  | inr g ↦ rw (cond-false (ltb m n) n m (le-ltb m n g)) (omega arith)
]

-- the upper halves of numbers of 32 bits fit 16
pub narrows : (g : ℕ → ℕ) (a : List ℕ) → HasLanes a g → ((k : ℕ) → k < 16 → g k < 2 ^ 32) → Each1 (Fits w16) (zip2 (λ m n. m / 2 ^ n) a (replicate 16 16))
narrows g a h small =
    let u = zipped (λ m n. m / 2 ^ n) a (replicate 16 16) g (λ (k : ℕ). 16) h (splat 16) in
    let long = u.long in
    Each1-from_get_or (Fits w16) (zip2 (λ m n. m / 2 ^ n) a (replicate 16 16)) 0 (λ k l. record { fits = omega (arith, u.each k (omega arith), small k (omega arith)) })

-- no other bit is set
pub within : (a : List ℕ) (limit : ℕ) → length a ≡ 16
    → mask_l (map (top 31) (zip2 (λ m n. cond (leb m n) (2 ^ 32 - 1) 0) a (replicate 16 limit))) % 2 ^ 64 < 2 ^ 16
within a limit e =
    let ms = map (λ x. leb x limit) a in
    let long : length ms ≡ 16 = length-map a (λ x. leb x limit) ∙ e in
    rw (bitmask_splat w32 leb a 16 limit e (omega arith)) (subst (λ n. mask_l ms < 2 ^ n) long (mask_l-lt ms))
