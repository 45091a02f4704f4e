-- Marks that are written eight at a time, and the pairs that they resolve to.
use Rattle.std.proofs.Common.{◌≡◌, ℕ, zero, suc, ◌+◌, ◌%◌, ◌*◌, ◌/◌, ◌^◌, ◌<◌, ◌≤◌, List, [], ◌∷◌, ◌++◌, length, get_or, take, drop, map, replicate, set, refl, sym, ap, ap₂, ◌∙◌, arith, take-add, All}
use Rattle.std.specs.Simd.Lanes.{put_chunk, zip2}
use Rattle.std.proofs.lemmas.List.{append_assoc, drop_at, get_or-drop, get_or-map, get_or-take, length-append, length-map, length-take-le, map-append, take-map, take-replicate, take-take, take_at, take_more, take_more_set}
use Rattle.std.proofs.lemmas.Simd.{get_or-zip2, length-zip2, map-map, take_more_put_chunk, zip2_splat_left}
use Rattle.cell_tiles.specs.Near.{IsMarkBelow, lanes_of, mark, named}
use Rattle.cell_tiles.specs.Tiles.{pair_of}
use Rattle.std.proofs.lemmas.List.Elements.{All-append, All-map, All-weaker}
use Rattle.cell_tiles.proofs.LaneLemmas.{lanes_joined}
use Rattle.cell_tiles.proofs.ListLemmas.{pairs_at}

-- ---- writes of eight at a time, of which only the first are counted

pub first_put : {X : Type 0} (at n : ℕ) (xs ys : List X) → at + length ys ≤ length xs → n ≤ length ys → take (at + n) (put_chunk at xs ys) ≡ take at xs ++ take n ys
first_put at n xs ys room few =
    let long : length (take at xs) ≡ at = length-take-le at xs (omega (arith, room)) in
    sym (take-take (at + n) (at + length ys) (put_chunk at xs ys) (omega arith))
    ∙ ap (take (at + n)) (take_more_put_chunk at xs ys (at + length ys) refl room)
    ∙ take-add at n (take at xs ++ ys)
    ∙ ap₂ (λ us vs. us ++ take n vs) (take_at (take at xs) ys at long) (drop_at (take at xs) ys at long)

-- one atom with some indices more
zip_more : (a n : ℕ) (xs ls js : List ℕ) → length xs ≡ length ls → length js ≡ n → zip2 mark (xs ++ replicate n a) (ls ++ js) ≡ zip2 mark xs ls ++ map (mark a) js
zip_more a n [] [] js e l = zip2_splat_left mark a n js l
zip_more a n [] (l ∷ ls) js e m = absurd (omega arith)
zip_more a n (x ∷ xs) [] js e m = absurd (omega arith)
zip_more a n (x ∷ xs) (l ∷ ls) js e m = ap (λ ms. mark x l ∷ ms) (zip_more a n xs ls js (omega arith) m)

-- lanes of a byte as indices, which eight bits hold
eight_bits : (first : ℕ) (js : List ℕ) → first ≤ 248 → All (λ j. j < 8) js → map (λ j. (j + first) % 2 ^ 8) js ≡ map (λ j. first + j) js
eight_bits first [] few all = refl
eight_bits first (j ∷ js) few all =
    let here : j < 8 = all 0 0 (omega arith) in
    let e : (j + first) % 2 ^ 8 ≡ first + j = omega (arith, here, few) in
    rw e (ap (λ ks. (first + j) ∷ ks) (eight_bits first js few (λ k d lt. all (suc k) d (omega arith))))

pub marks_more : (atom first count n : ℕ) (atoms indices lanes js : List ℕ) → length atoms ≡ 264 → length indices ≡ 264 → count ≤ 256 → length lanes ≡ 8 → n ≤ 8 → first ≤ 248 → take n lanes ≡ js → All (λ j. j < 8) js
    → zip2 mark (take (count + n) (put_chunk count atoms (replicate 8 atom))) (take (count + n) (put_chunk count indices (map (λ j. (j + first) % 2 ^ 8) lanes)))
    ≡ zip2 mark (take count atoms) (take count indices) ++ map (λ j. mark atom (first + j)) js
marks_more atom first count n atoms indices lanes js wide broad room long few small is all =
    let put = map (λ j. (j + first) % 2 ^ 8) lanes in
    let put_long : length put ≡ 8 = length-map lanes (λ (j : ℕ). (j + first) % 2 ^ 8) ∙ long in
    let some : length js ≡ n = ap length (sym is) ∙ length-take-le n lanes (omega (arith, long, few)) in
    let a = first_put count n atoms (replicate 8 atom) (omega (arith, wide, room)) few ∙ ap (λ zs. take count atoms ++ zs) (take-replicate n 8 atom few) in
    let p =
    first_put count n indices put (omega (arith, broad, room, put_long)) (omega (arith, put_long, few))
    ∙ ap (λ zs. take count indices ++ zs) (take-map (λ (j : ℕ). (j + first) % 2 ^ 8) n lanes ∙ ap (map (λ j. (j + first) % 2 ^ 8)) is ∙ eight_bits first js small all) in
    let same : length (take count atoms) ≡ length (take count indices) = length-take-le count atoms (omega (arith, wide, room)) ∙ sym (length-take-le count indices (omega (arith, broad, room))) in
    ap (λ zs. zip2 mark zs (take (count + n) (put_chunk count indices put))) a
    ∙ ap (zip2 mark (take count atoms ++ replicate n atom)) p
    ∙ zip_more atom n (take count atoms) (take count indices) (map (λ j. first + j) js) same (length-map js (λ (j : ℕ). first + j) ∙ some)
    ∙ ap (λ ms. zip2 mark (take count atoms) (take count indices) ++ ms) (map-map (mark atom) (λ (j : ℕ). first + j) js)

-- ---- the pairs of marks

part_same : (a s n : ℕ) (ys js : List ℕ) → All (λ j. j < n) js → map (λ j. pair_of a (get_or ys (s + j) 0)) js ≡ map (λ j. pair_of a (get_or (take n (drop s ys)) j 0)) js
part_same a s n ys [] all = refl
part_same a s n ys (j ∷ js) all =
    let here : j < n = all 0 0 (omega arith) in
    let e : get_or (take n (drop s ys)) j 0 ≡ get_or ys (s + j) 0 = get_or-take n (drop s ys) j 0 here ∙ get_or-drop s ys j 0 in
    rw e (ap (λ ps. pair_of a (get_or ys (s + j) 0) ∷ ps) (part_same a s n ys js (λ k d lt. all (suc k) d (omega arith))))

-- marks of an atom with some of n indices from s on are named as its pairs with these
pub named_more : (a s n : ℕ) (ys js : List ℕ) (old new : List (ℕ × ℕ)) → All (λ j. j < n) js → new ≡ old ++ map (λ j. mark a (s + j)) js → named ys new ≡ named ys old ++ pairs_at a (take n (drop s ys)) js
named_more a s n ys js old new all is =
    let f = λ (m : ℕ × ℕ). pair_of m.0 (get_or ys m.1 0) in
    ap (named ys) is ∙ map-append f old (map (λ j. mark a (s + j)) js)
    ∙ ap (λ ps. named ys old ++ ps) (map-map f (λ (j : ℕ). mark a (s + j)) js ∙ part_same a s n ys js all)

-- ---- lists of marks

pub length_marks : (n : ℕ) (xs ls : List ℕ) → n ≤ length xs → n ≤ length ls → length (zip2 mark (take n xs) (take n ls)) ≡ n
length_marks n xs ls p q =
    let l = length-take-le n xs p in
    let m = length-take-le n ls q in
    length-zip2 mark (take n xs) (take n ls) (l ∙ sym m) ∙ l

-- the first marks of a list are the marks of the first atoms and indices
pub marks_cut : (k n : ℕ) (xs ls : List ℕ) → k ≤ n → zip2 mark (take k xs) (take k ls) ≡ take k (zip2 mark (take n xs) (take n ls))
marks_cut zero n xs ls le = refl
marks_cut (suc k) zero xs ls le = absurd (omega arith)
marks_cut (suc k) (suc n) [] ls le = refl
marks_cut (suc k) (suc n) (x ∷ xs) [] le = refl
marks_cut (suc k) (suc n) (x ∷ xs) (l ∷ ls) le = ap (λ ms. mark x l ∷ ms) (marks_cut k n xs ls (omega arith))

pub mark_at : (n e : ℕ) (xs ls : List ℕ) → n ≤ length xs → n ≤ length ls → e < n → get_or (zip2 mark (take n xs) (take n ls)) e (0, 0) ≡ mark (get_or xs e 0) (get_or ls e 0)
mark_at n e xs ls p q lt =
    let l = length-take-le n xs p in
    let m = length-take-le n ls q in
    get_or-zip2 mark (take n xs) (take n ls) e 0 0 (0, 0) (omega (arith, l, lt)) (omega (arith, m, lt))
    ∙ ap (λ a. mark a (get_or (take n ls) e 0)) (get_or-take n xs e 0 lt)
    ∙ ap (λ p. mark (get_or xs e 0) p) (get_or-take n ls e 0 lt)

-- ---- two bytes

whole : (bits : ℕ) → bits / 256 * 2 ^ 8 + bits % 256 ≡ bits
whole bits = omega arith

pub block_lanes : (bits : ℕ) → bits < 2 ^ 16 → lanes_of bits ≡ lanes_of (bits % 256) ++ map (λ k. 8 + k) (lanes_of (bits / 256))
block_lanes bits small = ap lanes_of (sym (whole bits)) ∙ lanes_joined (bits % 256) (bits / 256) (omega (arith, small)) (omega (arith, small))

pub block_long : (bits : ℕ) → bits < 2 ^ 16 → length (lanes_of bits) ≡ length (lanes_of (bits % 256)) + length (lanes_of (bits / 256))
block_long bits small =
    let upper = lanes_of (bits / 256) in
    let e = length-append (lanes_of (bits % 256)) (map (λ k. 8 + k) upper) in
    let f = length-map upper (λ (k : ℕ). 8 + k) in
    ap length (block_lanes bits small) ∙ omega (arith, e, f)

-- marks with the lower byte's lanes and then with the upper one's
pub block_more : (a first bits : ℕ) (old mid new : List (ℕ × ℕ)) → bits < 2 ^ 16 → mid ≡ old ++ map (λ j. mark a (first + j)) (lanes_of (bits % 256)) → new ≡ mid ++ map (λ j. mark a (first + 8 + j)) (lanes_of (bits / 256))
    → new ≡ old ++ map (λ j. mark a (first + j)) (lanes_of bits)
block_more a first bits old mid new small m n =
    let f = λ (j : ℕ). mark a (first + j) in
    let low = lanes_of (bits % 256) in
    let upper = lanes_of (bits / 256) in
    let e : map (λ j. mark a (first + 8 + j)) upper ≡ map f (map (λ k. 8 + k) upper) = further upper ∙ sym (map-map f (λ (k : ℕ). 8 + k) upper) in
    n ∙ ap (λ ms. ms ++ map (λ j. mark a (first + 8 + j)) upper) m
    ∙ append_assoc old (map f low) (map (λ j. mark a (first + 8 + j)) upper)
    ∙ ap (λ ms. old ++ (map f low ++ ms)) e
    ∙ ap (λ ms. old ++ ms) (sym (ap (map f) (block_lanes bits small) ∙ map-append f low (map (λ k. 8 + k) upper)))
  where
    further : (js : List ℕ) → map (λ j. mark a (first + 8 + j)) js ≡ map (λ j. mark a (first + (8 + j))) js
    further [] = refl
    further (j ∷ js) = let e : first + 8 + j ≡ first + (8 + j) = omega arith in rw e (ap (λ ms. mark a (first + (8 + j)) ∷ ms) (further js))

-- ---- marks that are named

-- one more is named
pub named_next : {X : Type 0} (pair : X → ℕ × ℕ) (xs : List X) (x : X) (e : ℕ) (others : List ℕ) (ms : List (ℕ × ℕ)) → e < length xs → e < length ms → pair x ≡ pair_of (get_or ms e (0, 0)).0 (get_or others (get_or ms e (0, 0)).1 0)
    → map pair (take e xs) ≡ take e (named others ms) → map pair (take (e + 1) (set xs e x)) ≡ take (e + 1) (named others ms)
named_next pair xs x e others ms room some is before =
    let f = λ (m : ℕ × ℕ). pair_of m.0 (get_or others m.1 0) in
    let long = length-map ms f in
    let here : get_or (named others ms) e (0, 0) ≡ pair x = get_or-map f ms e (0, 0) (0, 0) some ∙ sym is in
    ap (map pair) (take_more_set xs e x room) ∙ map-append pair (take e xs) (x ∷ [])
    ∙ ap (λ ps. ps ++ pair x ∷ []) before
    ∙ sym (take_more (named others ms) e (0, 0) (omega (arith, long, some)) ∙ ap (λ p. take e (named others ms) ++ p ∷ []) here)

-- a mark with a lane of a mask of n bits, from the index s on, is below s + n
pub marks_below : (a s n m : ℕ) (js : List ℕ) (old new : List (ℕ × ℕ)) → s + n ≤ m → All (λ j. j < n) js → All (IsMarkBelow m) old → new ≡ old ++ map (λ j. mark a (s + j)) js → All (IsMarkBelow m) new
marks_below a s n m js old new within all before is =
    let those : All (IsMarkBelow m) (map (λ j. mark a (s + j)) js) = All-map (IsMarkBelow m) (λ (j : ℕ). mark a (s + j)) js (All-weaker (λ j. j < n) (λ j. s + j < m) (λ j lt. omega (arith, lt, within)) js all) in
    rw is (All-append (IsMarkBelow m) old (map (λ j. mark a (s + j)) js) before those)
